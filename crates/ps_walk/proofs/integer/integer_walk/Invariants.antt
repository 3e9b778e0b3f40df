use Rattle.ps_walk.proofs.Walked.{Walked}
use Rattle.ps_walk.proofs.integer.integer_walk.Given as goal

abbrev pub invariant-walking : goal.invariant-walking
invariant-walking l = Walked l.stages l.found l.values.items l.left

abbrev pub decreases-walking : goal.decreases-walking
decreases-walking l = l.left
