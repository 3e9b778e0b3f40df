use Rattle.std.proofs.Common.{◌≡◌, take}
use Rattle.ps_saturate.specs.inner.Trials.{atoms_of, pointed_to}
use Rattle.ps_saturate.proofs.refuting.atoms_of.Given as goal

abbrev pub invariant-loop-choice : goal.invariant-loop-choice
invariant-loop-choice l = l.atoms.items ≡ atoms_of (pointed_to (take l.choice-index l.set))
