use Rattle.ps_elim.proofs.Bits.{IsMarked-set}
use Rattle.ps_elim.proofs.words.mark.Goals as goal

pub returns-clause-marked : goal.returns-clause-marked
returns-clause-marked c = IsMarked-set c.args.words.now c.args.place c.requires
