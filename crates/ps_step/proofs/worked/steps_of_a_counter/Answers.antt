use Rattle.ps_step.proofs.CounterSteps.{from_start, from_asserting, more_than_smallest, one_in_once}
use Rattle.ps_step.proofs.worked.steps_of_a_counter.Goals as goal

pub returns-clause-start : goal.returns-clause-start
returns-clause-start c = from_start

pub returns-clause-next : goal.returns-clause-next
returns-clause-next c = from_asserting

pub returns-clause-more : goal.returns-clause-more
returns-clause-more c = more_than_smallest

pub returns-clause-once : goal.returns-clause-once
returns-clause-once c = one_in_once
