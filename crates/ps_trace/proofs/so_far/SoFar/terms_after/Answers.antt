use Rattle.std.proofs.Common.{◌≡◌, [], ◌∷◌, ◌++◌, ap₂, rules}
use Rattle.ps_term.specs.Substitution.{SubstitutionFits}
use Rattle.ps_term.specs.declared.term.Term.{Term}
use Rattle.ps_term.specs.declared.var.Var.{Var}
use Rattle.ps_trace.specs.Rows.{of_thread, put_after, term_of_thread}
use Rattle.ps_trace.specs.inner.SoFars.{so_far_of}
use Rattle.ps_trace.proofs.Rowing.{all_more, map_more}
use Rattle.ps_trace.proofs.so_far.SoFar.terms_after.Goals as goal

pub loop-pair-preserved : goal.loop-pair-preserved
loop-pair-preserved c =
    let made : c.push.new.self.items ≡ (c.loop-pair.terms.items ++ (c.of_thread.result, c.in_ok-term.term) ∷ []) = search rules in
    let pair : Var → Term → Var × Term = λ x t. (x, t) in
    record {
      terms = map_more (λ (p : Var × Term). let q : Var × Term = (of_thread c.args.thread c.args.self.now.havocs p.0, put_after (so_far_of c.args.self.now) c.args.thread p.1) in q) c.as_slice-worth.result.now c.loop-pair.pair-index c.pair-item.result
          (c.of_thread.result, c.in_ok-term.term) [] c.loop-pair.terms.items c.push.new.self.items c.loop-pair-test.true c.pair-item.is
          (ap₂ pair c.of_thread.ensures c.in_ok-term.ensures.term) c.loop-pair.invariant.terms made;
      fits = all_more (λ (p : Var × Term). SubstitutionFits c.args.self.now.after (term_of_thread c.args.thread c.args.self.now.havocs p.1)) c.as_slice-worth.result.now c.loop-pair.pair-index c.pair-item.result
          c.loop-pair-test.true c.pair-item.is c.loop-pair.invariant.fits c.in_ok-term.ensures.fits;
    }
