use Rattle.std.proofs.Common.{◌≡◌, [], ◌∷◌, ◌++◌, ap, rules}
use Rattle.ps_term.specs.Substitution.{SubstitutionFits}
use Rattle.ps_term.specs.declared.row.Row.{Row}
use Rattle.ps_term.specs.declared.term.Term.{Term}
use Rattle.ps_trace.specs.Rows.{put_after, term_of_thread}
use Rattle.ps_trace.specs.inner.SoFars.{so_far_of}
use Rattle.ps_trace.proofs.Rowing.{all_more, map_more}
use Rattle.ps_trace.proofs.so_far.SoFar.ask.Goals as goal

pub loop-row-preserved : goal.loop-row-preserved
loop-row-preserved c =
    let made : c.push.new.self.items ≡ (c.loop-row.rows.items ++ (record { term = c.in_ok-term.term }) ∷ []) = search rules in
    let row_of : Term → Row = λ t. record { term = t } in
    record {
      rows = map_more (λ (r : Row). let q : Row = record { term = put_after (so_far_of c.args.self.now) c.args.thread r.term } in q) c.as_slice-asked.result.now c.loop-row.row-index c.row-item.result
          (record { term = c.in_ok-term.term }) c.args.rows.now.items c.loop-row.rows.items c.push.new.self.items c.loop-row-test.true c.row-item.is
          (ap row_of c.in_ok-term.ensures.term)
          c.loop-row.invariant.rows made;
      fits = all_more (λ (r : Row). SubstitutionFits c.args.self.now.after (term_of_thread c.args.thread c.args.self.now.havocs r.term)) c.as_slice-asked.result.now c.loop-row.row-index c.row-item.result
          c.loop-row-test.true c.row-item.is c.loop-row.invariant.fits c.in_ok-term.ensures.fits;
    }
