use Rattle.ps_check.proofs.Faultless.{faultless}
use Rattle.ps_check.proofs.laws.what_has_no_fault_is_accepted.Goals as goal

pub returns : goal.returns
returns c = faultless
