use Rattle.ps_interp.proofs.Excluded.{one_end}
use Rattle.ps_interp.proofs.laws.ends_are_one.Goals as goal

pub returns : goal.returns
returns c = λ setting known trace lambda one other some e f. one_end setting known trace lambda some one other e f
