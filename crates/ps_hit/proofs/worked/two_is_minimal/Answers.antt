use Rattle.ps_hit.proofs.Examples.{two_is_minimal}
use Rattle.ps_hit.proofs.worked.two_is_minimal.Goals as goal

pub returns : goal.returns
returns c = two_is_minimal
