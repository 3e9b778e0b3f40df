use Rattle.ps_check.proofs.Single.{one_first}
use Rattle.ps_check.proofs.laws.the_first_fault_is_one.Goals as goal

pub returns : goal.returns
returns c = one_first
