use Rattle.std.proofs.Common.{◌∙◌}
use Rattle.ps_demand.proofs.Pooling.{sent_step}
use Rattle.ps_demand.proofs.renaming.image_of.Goals as goal

pub loop-at-preserved : goal.loop-at-preserved
loop-at-preserved c = sent_step c.args.numbers.now c.args.images.now c.args.number c.loop-at.at c.loop-at-test.true c.requires c.if-other-number.false ∙ c.loop-at.invariant
