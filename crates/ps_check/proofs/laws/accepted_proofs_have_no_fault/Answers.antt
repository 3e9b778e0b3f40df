use Rattle.ps_check.proofs.Firsts.{no_fault_of}
use Rattle.ps_check.proofs.laws.accepted_proofs_have_no_fault.Goals as goal

pub returns : goal.returns
returns c = no_fault_of
