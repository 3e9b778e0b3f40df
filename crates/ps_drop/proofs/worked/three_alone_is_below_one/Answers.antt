use Rattle.ps_drop.proofs.Examples.{three_below_one, two_not_below_one}
use Rattle.ps_drop.proofs.worked.three_alone_is_below_one.Goals as goal

pub returns-clause-three : goal.returns-clause-three
returns-clause-three c = three_below_one

pub returns-clause-two : goal.returns-clause-two
returns-clause-two c = two_not_below_one
