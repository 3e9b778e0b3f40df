use Rattle.std.proofs.Common.{take}
use Rattle.ps_demand.specs.Pools.{HasAll, atoms_of, lists_of}
use Rattle.ps_demand.proofs.numbering.pool_of.Given as goal

abbrev pub invariant-loop-set : goal.invariant-loop-set
invariant-loop-set l = HasAll (atoms_of l.found.keys) (lists_of (take l.set-index l.sets))
