use Rattle.ps_config.proofs.Covering.{covers_twice}
use Rattle.ps_config.proofs.laws.covering_is_transitive.Goals as goal

pub returns : goal.returns
returns c = covers_twice
