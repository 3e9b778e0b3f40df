use Rattle.std.proofs.Common.{Contains, drop}
use Rattle.ps_saturate.specs.inner.Trials.{atoms_of, pointed_to}
use Rattle.ps_saturate.proofs.walk.has_atom.Given as goal

abbrev pub invariant-loop-choice : goal.invariant-loop-choice
invariant-loop-choice l = Contains (atoms_of (pointed_to l.set)) l.atom → Contains (atoms_of (pointed_to (drop l.choice-index l.set))) l.atom
