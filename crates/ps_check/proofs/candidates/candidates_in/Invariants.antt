use Rattle.ps_check.proofs.Indexing.{AreFound}
use Rattle.ps_check.proofs.candidates.candidates_in.Given as goal

abbrev pub invariant-loop-end : goal.invariant-loop-end
invariant-loop-end l = AreFound l.located l.others l.end l.numbers.items

abbrev pub decreases-loop-end : goal.decreases-loop-end
decreases-loop-end l = l.end
