use Rattle.std.proofs.Common.{All, Contains, take}
use Rattle.ps_saturate.specs.inner.Trials.{atoms_of, pointed_to}
use Rattle.ps_saturate.proofs.walk.is_blocked.Given as goal

abbrev pub invariant-loop-triple : goal.invariant-loop-triple
invariant-loop-triple l = All (λ t. ¬ All (Contains (atoms_of (pointed_to l.set))) t.pre) (take l.triple-index l.found)
