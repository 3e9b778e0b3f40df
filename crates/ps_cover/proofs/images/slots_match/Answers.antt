use Rattle.ps_cover.proofs.Testing.{agree_long}
use Rattle.ps_cover.proofs.images.slots_match.Goals as goal

pub returns-then-ones-others : goal.returns-then-ones-others
returns-then-ones-others c = agree_long c.args.threads.now c.args.to.now c.args.ones.now c.args.others.now c.if-ones-others.true
