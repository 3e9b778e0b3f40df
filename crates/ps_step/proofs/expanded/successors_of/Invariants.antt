use Rattle.std.proofs.Common.{[]}
use Rattle.ps_step.specs.inner.Parts.{AddsSteps, IsStepBefore}
use Rattle.ps_step.proofs.expanded.successors_of.Given as goal

abbrev pub invariant-loop-number : goal.invariant-loop-number
invariant-loop-number g l = AddsSteps l.graph (g.B.Shown.entries l.basis) l.config l.fresh (IsStepBefore l.config l.fresh l.number) [] l.successors.items
