use Rattle.ps_command.proofs.Alike.{runs_as_form}
use Rattle.ps_command.proofs.laws.runs_are_as_forms.Goals as goal

pub returns : goal.returns
returns c = runs_as_form
