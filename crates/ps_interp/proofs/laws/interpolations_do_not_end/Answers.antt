use Rattle.ps_interp.proofs.Excluded.{made_not_memory}
use Rattle.ps_interp.proofs.laws.interpolations_do_not_end.Goals as goal

pub returns : goal.returns
returns c = λ setting known new trace lambda entries end some h e. made_not_memory setting known trace lambda some new entries end h e
