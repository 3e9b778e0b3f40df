use Rattle.std.proofs.Common.{◌≡◌, ◌++◌, All, drop}
use Rattle.ps_interp.specs.Weights.{added}
use Rattle.ps_interp.specs.inner.Starts.{IsSmall}
use Rattle.ps_interp.proofs.initial.added.Given as goal

abbrev pub invariant-loop-place : goal.invariant-loop-place
invariant-loop-place l = record {
  sums : l.list.items ++ added (drop l.place l.weights) (drop l.place l.sums) ≡ added l.weights l.sums;
  small : All IsSmall l.list.items;
}
