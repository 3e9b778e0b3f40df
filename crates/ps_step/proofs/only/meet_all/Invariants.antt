use Rattle.std.proofs.Common.{take}
use Rattle.ps_demand.specs.Hitting.{HitsAll}
use Rattle.ps_demand.specs.Pools.{lists_of}
use Rattle.ps_step.proofs.only.meet_all.Given as goal

abbrev pub invariant-loop-set : goal.invariant-loop-set
invariant-loop-set l = HitsAll (lists_of (take l.set-index l.sets)) l.atoms
