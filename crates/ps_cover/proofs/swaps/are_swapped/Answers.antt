use Rattle.ps_cover.proofs.Swapping.{swapped_long}
use Rattle.ps_cover.proofs.swaps.are_swapped.Goals as goal

pub returns-then-threads-others : goal.returns-then-threads-others
returns-then-threads-others c = swapped_long c.args.one c.args.other c.args.threads.now c.args.others.now c.if-threads-others.true
