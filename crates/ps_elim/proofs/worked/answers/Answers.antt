use Rattle.ps_elim.proofs.Examples.{leaves_range, refutes_two, too_wide}
use Rattle.ps_elim.proofs.worked.answers.Goals as goal

pub returns-clause-refuted : goal.returns-clause-refuted
returns-clause-refuted c = refutes_two

pub returns-clause-wide : goal.returns-clause-wide
returns-clause-wide c = too_wide

pub returns-clause-past : goal.returns-clause-past
returns-clause-past c = leaves_range
