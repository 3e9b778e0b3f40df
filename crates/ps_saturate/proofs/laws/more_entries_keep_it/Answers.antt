use Rattle.ps_saturate.proofs.Lasting.{answered_more, saturated_more}
use Rattle.ps_saturate.proofs.laws.more_entries_keep_it.Goals as goal

pub returns : goal.returns
returns c = record { answered = answered_more; saturated = saturated_more }
