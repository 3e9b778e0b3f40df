use Rattle.ps_hit.proofs.Examples.{one_two_hits, one_two_is_not}
use Rattle.ps_hit.proofs.worked.one_and_two_are_not_minimal.Goals as goal

pub returns-clause-hits : goal.returns-clause-hits
returns-clause-hits c = one_two_hits

pub returns-clause-minimal : goal.returns-clause-minimal
returns-clause-minimal c = one_two_is_not
