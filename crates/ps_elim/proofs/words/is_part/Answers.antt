use Rattle.std.proofs.Common.{arith}
use Rattle.ps_elim.proofs.Bits.{word_part}
use Rattle.ps_elim.proofs.words.is_part.Goals as goal

pub returns : goal.returns
returns c = word_part c.args.word c.args.other (omega (arith, c.ranges.word.fits)) (omega (arith, c.ranges.other.fits))
