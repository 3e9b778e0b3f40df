use Rattle.ps_config.proofs.Covering.{two_need_two}
use Rattle.ps_config.proofs.laws.two_threads_need_two.Goals as goal

pub returns : goal.returns
returns c = two_need_two
