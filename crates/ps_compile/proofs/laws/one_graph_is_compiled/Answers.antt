use Rattle.ps_compile.proofs.Determined.{commands_are_one, edges_are_one}
use Rattle.ps_compile.proofs.laws.one_graph_is_compiled.Goals as goal

pub returns-clause-edges : goal.returns-clause-edges
returns-clause-edges c = λ p g h a b. edges_are_one p g h a b

pub returns-clause-commands : goal.returns-clause-commands
returns-clause-commands c = λ p g h a b. commands_are_one p g h a b
