use Rattle.ps_basis.proofs.Counter.{not_one_letter}
use Rattle.ps_basis.proofs.worked.one_letter_is_not_proved.Goals as goal

pub returns : goal.returns
returns c = not_one_letter
