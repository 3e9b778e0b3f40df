use Rattle.std.proofs.Common.{◌≡◌, take}
use Rattle.ps_demand.specs.Candidates.{demanded_of, pairs_of}
use Rattle.ps_demand.specs.Pools.{lists_of}
use Rattle.ps_demand.proofs.demands.demands_by.Given as goal

abbrev pub invariant-loop-candidate : goal.invariant-loop-candidate
invariant-loop-candidate l = lists_of l.sets.items ≡ demanded_of l.thread l.command (pairs_of (take l.candidate-index l.candidates))
