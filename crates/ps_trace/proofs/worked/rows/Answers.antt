use Rattle.std.proofs.Common.{refl}
use Rattle.ps_trace.proofs.worked.rows.Goals as goal

pub returns-clause-letters : goal.returns-clause-letters
returns-clause-letters c = (refl, refl, refl, refl, refl)

pub returns-clause-threads : goal.returns-clause-threads
returns-clause-threads c = (refl, refl)
