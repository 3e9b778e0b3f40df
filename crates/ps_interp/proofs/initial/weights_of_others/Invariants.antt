use Rattle.std.proofs.Common.{◌≡◌, ◌≤◌, All, drop, length}
use Rattle.ps_interp.specs.Weights.{weights_of_others, zeros}
use Rattle.ps_interp.specs.inner.Starts.{IsSmall, all_weights}
use Rattle.ps_interp.proofs.initial.weights_of_others.Given as goal

abbrev pub invariant-loop-left : goal.invariant-loop-left
invariant-loop-left l = record {
  within : l.left ≤ length l.threads;
  sums : l.sums.items ≡ weights_of_others (zeros l.setting.init_each) (all_weights (drop l.left l.threads)) l.slots;
  small : All IsSmall l.sums.items;
}

abbrev pub decreases-loop-left : goal.decreases-loop-left
decreases-loop-left l = l.left
