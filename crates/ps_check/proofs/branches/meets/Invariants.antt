use Rattle.std.proofs.Common.{take, Contains}
use Rattle.ps_atom.specs.declared.atom.Atom.{Atom}
use Rattle.ps_check.proofs.branches.meets.Given as goal

abbrev pub invariant-loop-atom : goal.invariant-loop-atom
invariant-loop-atom l = (q : Atom) → Contains (take l.atom-index l.set) q → ¬ Contains l.atoms q
