use Rattle.ps_interp.proofs.Proving.{proved}
use Rattle.ps_interp.proofs.laws.interpolations_prove.Goals as goal

pub returns : goal.returns
returns c = λ setting known trace lambda new entries some made. proved setting known trace lambda new entries made some
