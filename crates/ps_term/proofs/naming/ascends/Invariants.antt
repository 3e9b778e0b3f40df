use Rattle.std.proofs.Common.{ℕ, suc, ◌<◌, IsTrue, slice_index_or}
use Rattle.ps_term.specs.Var.{var_lt}
use Rattle.ps_term.specs.declared.term.Term.{Term}
use Rattle.ps_term.specs.declared.var.Var.{Var}
use Rattle.ps_term.proofs.naming.ascends.Given as goal

abbrev pub invariant-loop-at : goal.invariant-loop-at
invariant-loop-at l =
    (i : ℕ) (d : Var × Term) → suc i < l.at → IsTrue (var_lt (slice_index_or l.after i d).0 (slice_index_or l.after (suc i) d).0)
