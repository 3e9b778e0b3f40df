use Rattle.ps_hit.proofs.Examples.{none_of_empty}
use Rattle.ps_hit.proofs.worked.an_empty_set_is_never_met.Goals as goal

pub returns : goal.returns
returns c = none_of_empty
