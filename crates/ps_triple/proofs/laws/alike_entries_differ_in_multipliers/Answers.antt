use Rattle.ps_triple.proofs.Alike.{same_but_multipliers, same_rows, alike_itself}
use Rattle.ps_triple.proofs.laws.alike_entries_differ_in_multipliers.Goals as goal

pub returns-clause-rows : goal.returns-clause-rows
returns-clause-rows c = same_rows

pub returns-clause-only : goal.returns-clause-only
returns-clause-only c = same_but_multipliers

pub returns-clause-itself : goal.returns-clause-itself
returns-clause-itself c = alike_itself
