use Rattle.std.proofs.Common.{refl}
use Rattle.ps_elim.proofs.worked.sets.Goals as goal

pub returns-clause-zeros : goal.returns-clause-zeros
returns-clause-zeros c = (refl, refl)

pub returns-clause-dropped : goal.returns-clause-dropped
returns-clause-dropped c = (refl, refl, refl)
