use Rattle.ps_demand.proofs.Giving.{what_gives}
use Rattle.ps_demand.proofs.laws.demands_are_what_gives.Goals as goal

pub returns : goal.returns
returns c = what_gives
