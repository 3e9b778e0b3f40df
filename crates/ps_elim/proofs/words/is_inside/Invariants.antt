use Rattle.ps_elim.proofs.Bits.{PartBelow}
use Rattle.ps_elim.proofs.words.is_inside.Given as goal

abbrev pub invariant-loop-at : goal.invariant-loop-at
invariant-loop-at l = PartBelow l.words l.others l.at
