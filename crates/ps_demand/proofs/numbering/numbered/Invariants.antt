use Rattle.std.proofs.Common.{take}
use Rattle.ps_demand.specs.Numbered.{IsNumbered}
use Rattle.ps_demand.specs.Pools.{lists_of}
use Rattle.ps_demand.proofs.numbering.numbered.Given as goal

abbrev pub invariant-loop-set : goal.invariant-loop-set
invariant-loop-set l = IsNumbered l.pool (lists_of (take l.set-index l.sets)) (lists_of l.numbers.items)
