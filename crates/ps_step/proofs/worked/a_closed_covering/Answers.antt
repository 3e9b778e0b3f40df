use Rattle.ps_step.proofs.CounterSteps.{which_accept, counter_is_closed}
use Rattle.ps_step.proofs.worked.a_closed_covering.Goals as goal

pub returns-clause-accepting : goal.returns-clause-accepting
returns-clause-accepting c = which_accept

pub returns-clause-closed : goal.returns-clause-closed
returns-clause-closed c = counter_is_closed
