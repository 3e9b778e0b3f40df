use Rattle.std.proofs.Common.{◌≡◌, ◌++◌, All, map, take}
use Rattle.ps_term.specs.Substitution.{SubstitutionFits}
use Rattle.ps_term.specs.declared.row.Row.{Row}
use Rattle.ps_trace.specs.Rows.{put_after, term_of_thread}
use Rattle.ps_trace.specs.inner.SoFars.{so_far_of}
use Rattle.ps_trace.proofs.so_far.SoFar.ask.Given as goal

abbrev pub invariant-loop-row : goal.invariant-loop-row
invariant-loop-row l = record {
  rows : l.rows.items ≡ l.fn.rows.items ++ map (λ (r : Row). let q : Row = record { term = put_after (so_far_of l.self) l.thread r.term } in q) (take l.row-index l.asked);
  fits : All (λ (r : Row). SubstitutionFits l.self.after (term_of_thread l.thread l.self.havocs r.term)) (take l.row-index l.asked);
}
