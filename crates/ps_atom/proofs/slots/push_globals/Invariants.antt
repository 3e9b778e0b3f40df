use Rattle.std.proofs.Common.{◌≡◌, ◌++◌, filter, take}
use Rattle.ps_atom.specs.inner.Slots.{is_global}
use Rattle.ps_atom.proofs.slots.push_globals.Given as goal

abbrev pub invariant-loop-pair : goal.invariant-loop-pair
invariant-loop-pair l = l.list.items ≡ l.initial.list.items ++ filter (λ pair. is_global pair.0) (take l.pair-index l.pairs)
