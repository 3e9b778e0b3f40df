use Rattle.ps_drop.proofs.Examples.{zero_leans, two_does_not}
use Rattle.ps_drop.proofs.worked.zero_alone_leans_on_one_or_three.Goals as goal

pub returns-clause-zero : goal.returns-clause-zero
returns-clause-zero c = zero_leans

pub returns-clause-two : goal.returns-clause-two
returns-clause-two c = two_does_not
