use Rattle.std.proofs.Common.{◌≡◌, take, map}
use Rattle.ps_demand.specs.Numbered.{named}
use Rattle.ps_demand.specs.Pools.{lists_of}
use Rattle.ps_step.proofs.found.all_named.Given as goal

abbrev pub invariant-loop-hit : goal.invariant-loop-hit
invariant-loop-hit l = lists_of l.sets.items ≡ map (named l.pool) (take l.hit-index l.hits)
