use Rattle.std.proofs.Common.{Contains, take}
use Rattle.ps_atom.specs.declared.atom.Atom.{Atom}
use Rattle.ps_step.proofs.only.meets.Given as goal

abbrev pub invariant-loop-atom : goal.invariant-loop-atom
invariant-loop-atom l = (q : Atom) → Contains (take l.atom-index l.set) q → ¬ Contains l.atoms q
