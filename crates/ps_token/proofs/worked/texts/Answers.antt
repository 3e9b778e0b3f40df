use Rattle.ps_token.proofs.Examples.{assignment_is_cut, hash_is_bad}
use Rattle.ps_token.proofs.worked.texts.Goals as goal

pub returns-clause-cut : goal.returns-clause-cut
returns-clause-cut c = assignment_is_cut

pub returns-clause-bad : goal.returns-clause-bad
returns-clause-bad c = hash_is_bad
