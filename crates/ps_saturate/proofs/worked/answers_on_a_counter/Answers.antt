use Rattle.ps_saturate.proofs.Counter.{both, none_alone, none_new, one_new}
use Rattle.ps_saturate.proofs.worked.answers_on_a_counter.Goals as goal

pub returns : goal.returns
returns c = record { both = both; one = one_new; none = none_new; alone = none_alone }
