use Rattle.ps_demand.proofs.PartedDemands.{all_demanded}
use Rattle.ps_demand.proofs.laws.candidates_tell_the_demands.Goals as goal

pub returns : goal.returns
returns c = λ entries atoms thread command. all_demanded thread command entries atoms
