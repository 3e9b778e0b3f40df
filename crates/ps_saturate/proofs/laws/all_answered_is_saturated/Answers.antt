use Rattle.ps_saturate.proofs.Lasting.{saturated_by_all}
use Rattle.ps_saturate.proofs.laws.all_answered_is_saturated.Goals as goal

pub returns : goal.returns
returns c = saturated_by_all
