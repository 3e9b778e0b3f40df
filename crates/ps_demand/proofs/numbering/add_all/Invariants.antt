use Rattle.std.proofs.Common.{take}
use Rattle.ps_demand.specs.Pools.{Adds, atoms_of}
use Rattle.ps_demand.proofs.numbering.add_all.Given as goal

abbrev pub invariant-loop-atom : goal.invariant-loop-atom
invariant-loop-atom l = Adds (take l.atom-index l.atoms) (atoms_of l.initial.found.keys) (atoms_of l.found.keys)
