use denote.Hole.Carrier.{hidden}
use Rattle.std.proofs.Common.{refl}
use Rattle.ps_tree.specs.declared.cond.Cond.TheBlock.{hidden-the_row-Cond-1}
use Rattle.ps_tree.specs.declared.stmt.StmtKind.TheBlock.{hidden-the_row-Stmt-0}
use Rattle.ps_graph.proofs.worked.paths.Goals as goal

pub returns-clause-assert : goal.returns-clause-assert
unfolding hidden-the_row-Cond-1 hidden
returns-clause-assert c = refl

pub returns-clause-assume : goal.returns-clause-assume
returns-clause-assume c = (refl, refl)

pub returns-clause-atomic : goal.returns-clause-atomic
unfolding hidden-the_row-Stmt-0 hidden
returns-clause-atomic c = refl

pub returns-clause-picks : goal.returns-clause-picks
returns-clause-picks c = (refl, refl, refl)
