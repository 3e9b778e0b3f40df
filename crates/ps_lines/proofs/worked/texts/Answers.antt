use Rattle.std.proofs.Common.{refl}
use Rattle.ps_lines.proofs.worked.texts.Goals as goal

pub returns-clause-cut : goal.returns-clause-cut
returns-clause-cut c = (refl, refl)

pub returns-clause-spelled : goal.returns-clause-spelled
returns-clause-spelled c = refl
