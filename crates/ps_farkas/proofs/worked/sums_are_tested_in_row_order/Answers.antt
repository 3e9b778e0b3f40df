use Rattle.ps_farkas.proofs.Examples.{past, within}
use Rattle.ps_farkas.proofs.worked.sums_are_tested_in_row_order.Goals as goal

pub returns-clause-past : goal.returns-clause-past
returns-clause-past c = past

pub returns-clause-within : goal.returns-clause-within
returns-clause-within c = within
