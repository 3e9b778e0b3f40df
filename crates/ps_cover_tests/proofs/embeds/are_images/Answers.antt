use Rattle.ps_cover_tests.proofs.Embedding.{sent_long}
use Rattle.ps_cover_tests.proofs.embeds.are_images.Goals as goal

pub returns-then-ones-others : goal.returns-then-ones-others
returns-then-ones-others c = sent_long c.args.threads.now c.args.to.now c.args.ones.now c.args.others.now c.if-ones-others.true
