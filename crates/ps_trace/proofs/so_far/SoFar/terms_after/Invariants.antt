use Rattle.std.proofs.Common.{◌≡◌, All, map, take}
use Rattle.ps_term.specs.Substitution.{SubstitutionFits}
use Rattle.ps_term.specs.declared.term.Term.{Term}
use Rattle.ps_term.specs.declared.var.Var.{Var}
use Rattle.ps_trace.specs.Rows.{of_thread, put_after, term_of_thread}
use Rattle.ps_trace.specs.inner.SoFars.{so_far_of}
use Rattle.ps_trace.proofs.so_far.SoFar.terms_after.Given as goal

abbrev pub invariant-loop-pair : goal.invariant-loop-pair
invariant-loop-pair l = record {
  terms : l.terms.items ≡ map (λ (p : Var × Term). let q : Var × Term = (of_thread l.thread l.self.havocs p.0, put_after (so_far_of l.self) l.thread p.1) in q) (take l.pair-index l.worth);
  fits : All (λ (p : Var × Term). SubstitutionFits l.self.after (term_of_thread l.thread l.self.havocs p.1)) (take l.pair-index l.worth);
}
