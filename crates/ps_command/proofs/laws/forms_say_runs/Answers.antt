use Rattle.ps_command.proofs.Forms.{is_form}
use Rattle.ps_command.proofs.laws.forms_say_runs.Goals as goal

pub returns : goal.returns
returns c = is_form
