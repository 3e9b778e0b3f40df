use Rattle.ps_parse.proofs.OneAnswer.{one_fault, no_program}
use Rattle.ps_parse.proofs.laws.one_fault.Goals as goal

pub returns-clause-one : goal.returns-clause-one
returns-clause-one c = one_fault

pub returns-clause-none : goal.returns-clause-none
returns-clause-none c = no_program
