use Rattle.ps_check.proofs.Before.{AreBefore}
use Rattle.ps_check.proofs.Firsts.{InRange}
use Rattle.ps_check.proofs.entries.predicate_fault.Given as goal

abbrev pub invariant-loop-place : goal.invariant-loop-place
invariant-loop-place l = AreBefore (InRange l.graph l.proof) l.proof.predicates l.place
