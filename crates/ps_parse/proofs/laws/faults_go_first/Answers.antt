use Rattle.ps_parse.proofs.OneAnswer.{not_after_fault, not_at_fault}
use Rattle.ps_parse.proofs.laws.faults_go_first.Goals as goal

pub returns-clause-after : goal.returns-clause-after
returns-clause-after c = not_after_fault

pub returns-clause-at : goal.returns-clause-at
returns-clause-at c = not_at_fault
