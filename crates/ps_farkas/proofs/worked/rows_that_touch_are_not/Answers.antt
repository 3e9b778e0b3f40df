use Rattle.ps_farkas.proofs.Examples.{not_touching}
use Rattle.ps_farkas.proofs.worked.rows_that_touch_are_not.Goals as goal

pub returns : goal.returns
returns c = not_touching
