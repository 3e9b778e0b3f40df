use Rattle.std.proofs.Common.{◌∙◌, get_or, refl}
use Rattle.ps_cover.proofs.Sorting.{found_part, part_end}
use Rattle.ps_cover.proofs.among.is_found_in.Goals as goal

pub loop-number-preserved : goal.loop-number-preserved
loop-number-preserved c =
    let w = found_part c.args.small.now c.args.large.now c.loop-number.done c.loop-number.number-index (get_or c.args.large.now c.loop-number.number-index 0) c.found_more-done.result c.loop-number-test.true refl c.loop-number.invariant.within c.found_more-done.ensures in
    record { left = w.0 ∙ c.loop-number.invariant.left; within = w.1 }

pub returns : goal.returns
returns c = part_end c.args.small.now c.args.large.now c.loop-number.done c.loop-number.number-index c.loop-number.invariant.within c.loop-number-test.false c.loop-number.invariant.left
