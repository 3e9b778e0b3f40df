use Rattle.std.proofs.Common.{◌≡◌, take}
use Rattle.std.specs.List.{filter, filter_map}
use Rattle.ps_demand.specs.Candidates.{demanded_of, has_no_only, only_atom, pairs_of}
use Rattle.ps_demand.specs.Pools.{lists_of}
use Rattle.ps_demand.proofs.parting.parted_demands.Given as goal

abbrev pub invariant-loop-candidate : goal.invariant-loop-candidate
invariant-loop-candidate l = record {
  alone : l.parted.alone.items ≡ filter_map only_atom (demanded_of l.thread l.command (pairs_of (take l.candidate-index l.candidates)));
  others : lists_of l.parted.others.items ≡ filter has_no_only (demanded_of l.thread l.command (pairs_of (take l.candidate-index l.candidates)));
}
