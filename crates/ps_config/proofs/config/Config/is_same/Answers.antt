use Rattle.ps_config.proofs.Comparing.{same_by_order}
use Rattle.ps_config.proofs.config.Config.is_same.Goals as goal

pub returns : goal.returns
returns c = same_by_order c.args.self.now c.args.other.now c.is_eq.result c.compare.result c.is_eq.ensures c.compare.ensures
