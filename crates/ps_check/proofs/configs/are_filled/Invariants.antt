use Rattle.std.proofs.Common.{take, Contains}
use Rattle.ps_atom.specs.declared.atom.Atom.{Atom}
use Rattle.ps_triple.specs.Tests.{IsAtomOf}
use Rattle.ps_check.proofs.configs.are_filled.Given as goal

abbrev pub invariant-loop-atom : goal.invariant-loop-atom
invariant-loop-atom l = (q : Atom) → Contains (take l.atom-index l.atoms) q → IsAtomOf l.setting l.table q
