use Rattle.std.proofs.Common.{◌≡◌, map, take}
use Rattle.ps_term.specs.declared.term.Term.{Term}
use Rattle.ps_term.specs.declared.var.Var.{Var}
use Rattle.ps_trace.specs.Rows.{of_thread, term_of_thread}
use Rattle.ps_interp.proofs.sums.terms_by.Given as goal

abbrev pub invariant-loop-pair : goal.invariant-loop-pair
invariant-loop-pair l =
    l.terms.items ≡ map (λ (p : Var × Term). let q : Var × Term = (of_thread l.thread 0 p.0, term_of_thread l.thread 0 p.1) in q) (take l.pair-index l.worth)
