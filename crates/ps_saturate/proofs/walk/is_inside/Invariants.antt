use Rattle.std.proofs.Common.{All, Contains, take}
use Rattle.ps_saturate.specs.inner.Trials.{atoms_of, pointed_to}
use Rattle.ps_saturate.proofs.walk.is_inside.Given as goal

abbrev pub invariant-loop-atom : goal.invariant-loop-atom
invariant-loop-atom l = All (Contains (atoms_of (pointed_to l.set))) (take l.atom-index l.part)
