use Rattle.ps_triple.proofs.Examples.{too_few, no_constant, too_great, no_command}
use Rattle.ps_triple.proofs.worked.other_multipliers_do_not.Goals as goal

pub returns-clause-few : goal.returns-clause-few
returns-clause-few c = too_few

pub returns-clause-sum : goal.returns-clause-sum
returns-clause-sum c = no_constant

pub returns-clause-past : goal.returns-clause-past
returns-clause-past c = too_great

pub returns-clause-number : goal.returns-clause-number
returns-clause-number c = no_command
