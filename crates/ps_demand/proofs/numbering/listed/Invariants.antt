use Rattle.std.proofs.Common.{◌≡◌, ◌++◌}
use Rattle.ps_demand.specs.Pools.{atoms_of}
use Rattle.ps_demand.proofs.numbering.listed.Given as goal

abbrev pub invariant-loop-ranked : goal.invariant-loop-ranked
invariant-loop-ranked l = l.list.items ++ atoms_of l.ranked-iterator ≡ atoms_of l.fn.found.keys
