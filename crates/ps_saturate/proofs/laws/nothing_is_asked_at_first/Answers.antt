use Rattle.ps_saturate.proofs.Lasting.{at_first}
use Rattle.ps_saturate.proofs.laws.nothing_is_asked_at_first.Goals as goal

pub returns : goal.returns
returns c = at_first
