use Rattle.ps_triple.proofs.Worth.{no_fault, one_fault}
use Rattle.ps_triple.proofs.laws.first_faults_are_one.Goals as goal

pub returns-clause-none : goal.returns-clause-none
returns-clause-none c = no_fault

pub returns-clause-one : goal.returns-clause-one
returns-clause-one c = one_fault
