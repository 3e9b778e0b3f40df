use Rattle.ps_saturate.proofs.Lasting.{predicates_later}
use Rattle.ps_saturate.proofs.laws.later_predicates_change_nothing.Goals as goal

pub returns : goal.returns
returns c = predicates_later
