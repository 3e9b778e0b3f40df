use Rattle.ps_command.proofs.Sizes.{step_sizes}
use Rattle.ps_command.proofs.laws.runs_keep_sizes.Goals as goal

pub returns : goal.returns
returns c = step_sizes
