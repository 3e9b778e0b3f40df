use Rattle.std.proofs.Common.{◌∙◌}
use Rattle.ps_cover_tests.proofs.Embedding.{sent_step}
use Rattle.ps_cover_tests.proofs.embeds.image_of.Goals as goal

-- this thread is another
pub loop-at-preserved : goal.loop-at-preserved
loop-at-preserved c =
    sent_step c.args.threads.now c.args.to.now c.args.thread c.loop-at.at c.loop-at-test.true c.requires c.if-other-thread.false ∙ c.loop-at.invariant
