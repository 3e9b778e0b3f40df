use Rattle.ps_modes.proofs.Answering.{only_long}
use Rattle.ps_modes.specs.Modes.{owed_by}
use Rattle.ps_modes.specs.Owes.{TooLong}
use Rattle.ps_modes.proofs.laws.a_long_input_is_owed_one_line.Goals as goal

pub returns : goal.returns
returns c = λ mode input status text long. (only_long (owed_by mode) input long status text, λ is. TooLong long is.0 is.1)
