use Rattle.std.proofs.Common.{refl}
use Rattle.ps_parse.proofs.worked.words_before.Goals as goal

pub returns-clause-levels : goal.returns-clause-levels
returns-clause-levels c = (refl, refl, refl, refl, refl)

pub returns-clause-names : goal.returns-clause-names
returns-clause-names c = (refl, refl)

pub returns-clause-rows : goal.returns-clause-rows
returns-clause-rows c = (refl, refl)

pub returns-clause-whole : goal.returns-clause-whole
returns-clause-whole c = refl
