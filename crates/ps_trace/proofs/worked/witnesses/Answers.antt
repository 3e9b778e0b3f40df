use denote.Hole.Carrier.{hidden}
use Rattle.std.proofs.Common.{◌≡◌, true, false, refl}
use Rattle.ps_tree.specs.declared.stmt.StmtKind.TheBlock.{hidden-the_row-Stmt-0}
use Rattle.ps_trace.proofs.worked.witnesses.Goals as goal

no : false ≡ true → ⊥
no e = cc

pub returns-clause-race : goal.returns-clause-race
returns-clause-race c = (refl, no, no, no)

pub returns-clause-choices : goal.returns-clause-choices
unfolding hidden-the_row-Stmt-0 hidden
returns-clause-choices c = (refl, no)
