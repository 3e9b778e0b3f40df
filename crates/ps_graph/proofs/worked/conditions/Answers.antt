use denote.Hole.Carrier.{hidden}
use Rattle.std.proofs.Common.{refl}
use Rattle.ps_tree.specs.declared.cond.Cond.TheBlock.{hidden-the_row-Cond-0, hidden-the_row-Cond-1}
use Rattle.ps_graph.proofs.worked.conditions.Goals as goal

pub returns-clause-sum : goal.returns-clause-sum
returns-clause-sum c = refl

pub returns-clause-signs : goal.returns-clause-signs
returns-clause-signs c = (refl, refl, refl, refl, refl, refl)

pub returns-clause-truth : goal.returns-clause-truth
unfolding hidden-the_row-Cond-0 hidden-the_row-Cond-1 hidden
returns-clause-truth c = (refl, refl, refl, refl)

pub returns-clause-alternatives : goal.returns-clause-alternatives
unfolding hidden-the_row-Cond-0 hidden-the_row-Cond-1 hidden
returns-clause-alternatives c = refl

pub returns-clause-negations : goal.returns-clause-negations
unfolding hidden-the_row-Cond-0 hidden-the_row-Cond-1 hidden
returns-clause-negations c = refl
