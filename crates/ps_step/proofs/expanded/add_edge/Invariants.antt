use Rattle.std.proofs.Common.{◌≤◌, ◌-◌, ◌^◌}
use Rattle.ps_step.specs.inner.Parts.{AddsSteps, IsStepBelow}
use Rattle.ps_step.proofs.expanded.add_edge.Given as goal

abbrev pub invariant-loop-thread : goal.invariant-loop-thread
invariant-loop-thread g l = record {
  steps : AddsSteps l.graph (g.B.Shown.entries l.basis) l.config l.fresh (IsStepBelow l.config l.number l.from) l.initial.successors.items l.successors.items;
  fits : l.from ≤ 2 ^ 32;
}

abbrev pub decreases-loop-thread : goal.decreases-loop-thread
decreases-loop-thread g l = 2 ^ 32 - l.from
