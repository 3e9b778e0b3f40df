use Rattle.std.proofs.Common.{◌≡◌, ◌++◌, take}
use Rattle.ps_atom.specs.inner.Slots.{in_slot}
use Rattle.ps_atom.proofs.slots.push_share.Given as goal

abbrev pub invariant-loop-pair : goal.invariant-loop-pair
invariant-loop-pair l = l.list.items ≡ l.initial.list.items ++ in_slot l.slot (take l.pair-index l.own)
