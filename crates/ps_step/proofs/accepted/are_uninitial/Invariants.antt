use Rattle.std.proofs.Common.{take, Contains}
use Rattle.ps_atom.specs.declared.atom.Atom.{Atom}
use Rattle.ps_triple.specs.Entries.{HasInitial}
use Rattle.ps_step.proofs.accepted.are_uninitial.Given as goal

abbrev pub invariant-loop-atom : goal.invariant-loop-atom
invariant-loop-atom g l = (q : Atom) → Contains (take l.atom-index l.atoms) q → ¬ HasInitial (g.B.Shown.entries l.basis) q.predicate
