use Rattle.std.proofs.Common.{take, Contains}
use Rattle.std.specs.List.{filter_map}
use Rattle.ps_atom.specs.declared.atom.Atom.{Atom}
use Rattle.ps_demand.specs.Demands.{demand}
use Rattle.ps_demand.specs.Hitting.{HitsAll}
use Rattle.ps_step.proofs.standing.meets.Given as goal

abbrev pub invariant-loop-atom : goal.invariant-loop-atom
invariant-loop-atom g l = (q : Atom) → Contains (take l.atom-index l.demanding) q → HitsAll (filter_map (demand l.thread l.command q) (g.B.Shown.entries l.basis)) l.atoms
