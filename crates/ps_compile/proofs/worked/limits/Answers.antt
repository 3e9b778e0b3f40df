use denote.Hole.Carrier.{hidden}
use Rattle.std.proofs.Common.{refl, inl, inr}
use Rattle.ps_compile.proofs.Examples.{above, within}
use Rattle.ps_compile.proofs.worked.limits.Goals as goal
use Rattle.ps_tree.specs.declared.cond.Cond.TheBlock.{hidden-the_row-Cond-0, hidden-the_row-Cond-1}
use Rattle.ps_tree.specs.declared.stmt.StmtKind.TheBlock.{hidden-the_row-Stmt-0}

pub returns-clause-alternatives : goal.returns-clause-alternatives
unfolding hidden-the_row-Cond-0 hidden-the_row-Cond-1 hidden
returns-clause-alternatives c = (
  (within _ _ refl, (within _ _ refl, tt)),
  inl (above _ _ refl, refl, refl),
  inr (within _ _ refl, inl (above _ _ refl, refl, refl)),
)

pub returns-clause-paths : goal.returns-clause-paths
unfolding hidden-the_row-Cond-0 hidden-the_row-Cond-1 hidden-the_row-Stmt-0 hidden
returns-clause-paths c = (within _ _ refl, tt)

pub returns-clause-first : goal.returns-clause-first
unfolding hidden-the_row-Cond-0 hidden-the_row-Cond-1 hidden-the_row-Stmt-0 hidden
returns-clause-first c = (inl (above _ _ refl, refl, refl), inl (above _ _ refl, refl, refl))

pub returns-clause-rows : goal.returns-clause-rows
returns-clause-rows c = ((within _ _ refl, tt), inl (above _ _ refl, refl, refl))

pub returns-clause-locations : goal.returns-clause-locations
returns-clause-locations c = (
  (within _ _ refl, (λ n. n tt, (within _ _ refl, (within _ _ refl, tt)))),
  inr (within _ _ refl, inr (λ n. n tt, inl (above _ _ refl, refl, refl))),
  inr (within _ _ refl, inr (λ n. n tt, inr (within _ _ refl, inl (above _ _ refl, refl, refl)))),
)
