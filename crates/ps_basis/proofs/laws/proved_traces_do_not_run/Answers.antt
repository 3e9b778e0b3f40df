use Rattle.ps_basis.proofs.Infeasible.{proved_is_infeasible}
use Rattle.ps_basis.proofs.laws.proved_traces_do_not_run.Goals as goal

pub returns : goal.returns
returns c = proved_is_infeasible
