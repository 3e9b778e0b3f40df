use Rattle.ps_config.proofs.Covering.{covers_more}
use Rattle.ps_config.proofs.laws.more_covers_fewer.Goals as goal

pub returns : goal.returns
returns c = covers_more
