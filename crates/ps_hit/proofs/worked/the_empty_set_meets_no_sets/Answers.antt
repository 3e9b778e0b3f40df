use Rattle.ps_hit.proofs.Examples.{empty_of_none}
use Rattle.ps_hit.proofs.worked.the_empty_set_meets_no_sets.Goals as goal

pub returns : goal.returns
returns c = empty_of_none
