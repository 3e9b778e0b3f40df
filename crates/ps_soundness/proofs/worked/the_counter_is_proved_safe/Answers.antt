use Rattle.ps_soundness.proofs.Counter.{counter_is_accepted, less_is_not}
use Rattle.ps_soundness.proofs.worked.the_counter_is_proved_safe.Goals as goal

pub returns-clause-accepted : goal.returns-clause-accepted
returns-clause-accepted c = counter_is_accepted

pub returns-clause-less : goal.returns-clause-less
returns-clause-less c = less_is_not
