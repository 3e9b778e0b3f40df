use Rattle.std.proofs.Common.{◌≢◌, take, Contains}
use Rattle.ps_atom.specs.declared.atom.Atom.{Atom}
use Rattle.ps_check.proofs.branches.has.Given as goal

abbrev pub invariant-loop-other : goal.invariant-loop-other
invariant-loop-other l = (q : Atom) → Contains (take l.other-index l.atoms) q → q ≢ l.atom
