use Rattle.ps_soundness.proofs.Safe.{proved_error_is_infeasible}
use Rattle.ps_soundness.proofs.laws.proved_error_traces_are_infeasible.Goals as goal

pub returns : goal.returns
returns c = proved_error_is_infeasible
