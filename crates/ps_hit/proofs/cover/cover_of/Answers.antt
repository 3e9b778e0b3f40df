use Rattle.std.proofs.Common.{take, get_or}
use Rattle.std.proofs.lemmas.List.{take_more, take_all}
use Rattle.ps_hit.proofs.Rooted.{cover_first, cover_more}
use Rattle.ps_hit.proofs.cover.cover_of.Goals as goal

pub loop-number-init : goal.loop-number-init
loop-number-init c = cover_first c.args.chosen.now

-- one more number is seen
pub loop-number-preserved : goal.loop-number-preserved
loop-number-preserved c =
    rw (take_more c.args.set.now c.loop-number.number-index 0 c.loop-number-test.true, c.seen-cover.ensures)
    (cover_more c.args.chosen.now (take c.loop-number.number-index c.args.set.now) (get_or c.args.set.now c.loop-number.number-index 0) c.loop-number.cover c.is_among.result
    c.is_among.ensures.0 c.is_among.ensures.1 c.loop-number.invariant)

pub returns : goal.returns
returns c = rw (← (take_all c.loop-number.number-index c.args.set.now c.loop-number-test.false)) c.loop-number.invariant
