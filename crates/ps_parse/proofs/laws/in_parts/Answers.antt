use Rattle.ps_parse.proofs.InParts.{cause_refuses, fault_of_front, fault_refuses}
use Rattle.ps_parse.proofs.laws.in_parts.Goals as goal

pub returns-clause-cause : goal.returns-clause-cause
returns-clause-cause c = cause_refuses

pub returns-clause-fault : goal.returns-clause-fault
returns-clause-fault c = fault_refuses

pub returns-clause-front : goal.returns-clause-front
returns-clause-front c = fault_of_front
