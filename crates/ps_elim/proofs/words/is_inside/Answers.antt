use Rattle.std.proofs.Common.{rules}
use Rattle.std.proofs.lemmas.Bool.{both_ways, false≢true}
use Rattle.ps_elim.proofs.Bits.{word_of_part}
use Rattle.ps_elim.proofs.words.is_inside.Goals as goal

pub returns-then-not-is_part : goal.returns-then-not-is_part
returns-then-not-is_part c =
    (λ e. absurd (false≢true e), λ part. absurd (both_ways c.is_part.result (search rules) (c.is_part.ensures.1 (word_of_part c.args.words.now c.args.others.now c.loop-at.at part))))
