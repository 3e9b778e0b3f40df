use denote.Hole.Carrier.{hidden}
use Rattle.std.proofs.Common.{refl}
use Rattle.ps_tree.specs.declared.stmt.StmtKind.TheBlock.{hidden-the_row-Stmt-0}
use Rattle.ps_graph.proofs.worked.steps.Goals as goal

pub returns-clause-fails : goal.returns-clause-fails
unfolding hidden-the_row-Stmt-0 hidden
returns-clause-fails c = refl

pub returns-clause-passes : goal.returns-clause-passes
unfolding hidden-the_row-Stmt-0 hidden
returns-clause-passes c = refl

pub returns-clause-few : goal.returns-clause-few
unfolding hidden-the_row-Stmt-0 hidden
returns-clause-few c = refl

pub returns-clause-many : goal.returns-clause-many
unfolding hidden-the_row-Stmt-0 hidden
returns-clause-many c = (refl, refl)

pub returns-clause-none : goal.returns-clause-none
unfolding hidden-the_row-Stmt-0 hidden
returns-clause-none c = refl

pub returns-clause-tests : goal.returns-clause-tests
unfolding hidden-the_row-Stmt-0 hidden
returns-clause-tests c = (refl, refl, refl, refl, refl, refl, refl, refl)

pub returns-clause-skip : goal.returns-clause-skip
returns-clause-skip c = (refl, refl)

pub returns-clause-havoc : goal.returns-clause-havoc
returns-clause-havoc c = (refl, refl, refl)

pub returns-clause-assume : goal.returns-clause-assume
returns-clause-assume c = (refl, refl)

pub returns-clause-assert : goal.returns-clause-assert
returns-clause-assert c = (refl, refl)

pub returns-clause-ended : goal.returns-clause-ended
returns-clause-ended c = (refl, refl)

pub returns-clause-without_else : goal.returns-clause-without_else
unfolding hidden-the_row-Stmt-0 hidden
returns-clause-without_else c = (refl, refl)

pub returns-clause-atomic : goal.returns-clause-atomic
unfolding hidden-the_row-Stmt-0 hidden
returns-clause-atomic c = (refl, refl)
