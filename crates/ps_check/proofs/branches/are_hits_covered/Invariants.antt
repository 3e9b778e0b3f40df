use Rattle.ps_check.specs.inner.Branches.{works}
use Rattle.ps_check.proofs.Hitting.{Searching}
use Rattle.ps_check.proofs.branches.are_hits_covered.Given as goal
use Rattle.ps_demand.specs.Pools.{lists_of}

abbrev pub invariant-loop-branch : goal.invariant-loop-branch
invariant-loop-branch l = Searching l.configs l.at (lists_of l.sets) l.waiting.items

abbrev pub decreases-loop-branch : goal.decreases-loop-branch
decreases-loop-branch l = works (lists_of l.sets) l.waiting.items
