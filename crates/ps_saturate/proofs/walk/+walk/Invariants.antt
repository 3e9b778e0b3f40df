use Rattle.std.proofs.Common.{drop}
use Rattle.ps_saturate.proofs.Trying.{Walks}
use Rattle.ps_saturate.specs.inner.Trials.{atoms_of, pointed_to}
use Rattle.ps_saturate.proofs.walk.+walk.Given as goal

abbrev pub invariant-loop-at : goal.invariant-loop-at
invariant-loop-at l = Walks l.trial (atoms_of (pointed_to l.set)) (atoms_of l.rest) (atoms_of (drop l.at l.rest)) l.more l.initial.found.items l.found.items

abbrev pub decreases-walk : goal.decreases-walk
decreases-walk l = l.more
