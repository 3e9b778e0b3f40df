use Rattle.ps_parse.proofs.Examples.{fault_stands, text_is_read}
use Rattle.ps_parse.proofs.worked.texts.Goals as goal

pub returns-clause-tree : goal.returns-clause-tree
returns-clause-tree c = text_is_read

pub returns-clause-fault : goal.returns-clause-fault
returns-clause-fault c = fault_stands
