use Rattle.std.proofs.Common.{take}
use Rattle.ps_demand.specs.Pools.{ArePlaces}
use Rattle.ps_demand.proofs.numbering.places_of.Given as goal

abbrev pub invariant-loop-atom : goal.invariant-loop-atom
invariant-loop-atom l = ArePlaces l.pool (take l.atom-index l.set) l.places.items
