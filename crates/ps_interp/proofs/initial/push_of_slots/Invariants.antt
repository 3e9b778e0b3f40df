use Rattle.std.proofs.Common.{◌≡◌, ◌++◌, take}
use Rattle.std.specs.List.{flat_map}
use Rattle.ps_interp.specs.Weights.{weights_of, zeros}
use Rattle.ps_interp.specs.inner.Starts.{all_weights}
use Rattle.ps_interp.proofs.initial.push_of_slots.Given as goal

abbrev pub invariant-loop-slot : goal.invariant-loop-slot
invariant-loop-slot l = l.lambda.items ≡ l.fn.lambda.items ++ flat_map (weights_of (zeros l.setting.init_each) (all_weights l.threads)) (take l.slot-index l.slots)
