use Rattle.ps_check.proofs.Stepping.{AreEdgesDone}
use Rattle.ps_check.proofs.steps.first_uncovered.Given as goal

abbrev pub invariant-loop-edge : goal.invariant-loop-edge
invariant-loop-edge l = AreEdgesDone l.graph l.front l.configs l.from l.fresh l.edge
