use Rattle.std.proofs.Common.{refl}
use Rattle.ps_compile.proofs.worked.start_rows.Goals as goal

pub returns-clause-rows : goal.returns-clause-rows
returns-clause-rows c = refl

pub returns-clause-cancelled : goal.returns-clause-cancelled
returns-clause-cancelled c = (refl, refl)
