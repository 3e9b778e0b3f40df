use Rattle.ps_basis.proofs.Counter.{three_letters}
use Rattle.ps_basis.proofs.worked.three_letters_are_proved.Goals as goal

pub returns : goal.returns
returns c = three_letters
