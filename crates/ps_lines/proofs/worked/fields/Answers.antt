use Rattle.std.proofs.Common.{refl}
use Rattle.ps_lines.specs.Reading.{header_at, leaf_at, line_at, only_at}
use Rattle.ps_lines.specs.Steps.{and_then}
use Rattle.ps_lines.proofs.worked.fields.Goals as goal

pub returns-clause-decimals : goal.returns-clause-decimals
returns-clause-decimals c = (refl, refl, refl, refl, refl)

pub returns-clause-parts : goal.returns-clause-parts
returns-clause-parts c = refl

pub returns-clause-faults : goal.returns-clause-faults
unfolding and_then line_at leaf_at header_at only_at
returns-clause-faults c = (refl, refl, refl)
