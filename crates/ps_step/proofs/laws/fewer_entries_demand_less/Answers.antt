use Rattle.ps_step.proofs.Fewer.{stands_less}
use Rattle.ps_step.proofs.laws.fewer_entries_demand_less.Goals as goal

pub returns : goal.returns
returns c = stands_less
