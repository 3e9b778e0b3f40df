use Rattle.ps_check.specs.inner.Stages.{AreClosedBefore}
use Rattle.ps_check.proofs.covering.closings_fault.Given as goal

abbrev pub invariant-loop-number : goal.invariant-loop-number
invariant-loop-number l = AreClosedBefore l.graph l.proof l.number
