use Rattle.ps_triple.proofs.Distinct.{DifferBelow}
use Rattle.ps_triple.proofs.threads.are_distinct.Given as goal

abbrev pub invariant-loop-i : goal.invariant-loop-i
invariant-loop-i l = DifferBelow l.threads l.i
