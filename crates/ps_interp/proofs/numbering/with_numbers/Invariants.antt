use Rattle.std.proofs.Common.{◌≡◌, map, take}
use Rattle.ps_interp.specs.Entries.{place_in}
use Rattle.ps_interp.proofs.numbering.with_numbers.Given as goal

abbrev pub invariant-loop-slot : goal.invariant-loop-slot
invariant-loop-slot l = l.threads ≡ map (place_in l.names) (take l.slot-index l.slots)
