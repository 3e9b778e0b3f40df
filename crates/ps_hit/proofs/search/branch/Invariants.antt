use Rattle.ps_hit.specs.Hitting.{numbers_of}
use Rattle.ps_hit.proofs.Branching.{Branching}
use Rattle.ps_hit.proofs.search.branch.Given as goal

abbrev pub invariant-loop-number : goal.invariant-loop-number
invariant-loop-number l = Branching (numbers_of l.sets) l.node l.set l.number-index l.initial.waiting.items l.barred.items l.waiting.items
