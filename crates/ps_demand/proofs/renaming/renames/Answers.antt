use Rattle.ps_demand.proofs.Pooling.{not_renaming}
use Rattle.ps_demand.proofs.renaming.renames.Goals as goal

pub returns-then-numbers-images : goal.returns-then-numbers-images
returns-then-numbers-images c = not_renaming 0 c.args.thread c.args.numbers.now c.args.images.now c.if-numbers-images.true
