use denote.Hole.Carrier.{hidden}
use Rattle.std.proofs.Common.{◌≡◌, ◌≢◌, true, false, refl, lit<, pos, [], ◌∷◌}
use Rattle.std.proofs.lemmas.List.Elements.{All-from_recursion, recursion_from_All}
use Rattle.ps_compile.proofs.Examples.{never, within}
use Rattle.ps_compile.proofs.worked.conditions.Goals as goal
use Rattle.ps_compile.specs.Examples.Conditions.{largest}
use Rattle.ps_graph.specs.Examples.{relation_with, t, x}
use Rattle.ps_tree.specs.declared.relation.Relation.{Relation}
use Rattle.ps_tree.specs.declared.relation.Sign.TheVariants.{LessEq, NotEqual}
use Rattle.ps_tree.specs.declared.stmt.StmtKind.TheBlock.{hidden-the_row-Stmt-0}

pub returns-clause-largest : goal.returns-clause-largest
unfolding hidden-the_row-Stmt-0 hidden
returns-clause-largest c = record {
  values = (lit< tt, tt);
  inits = ((((lit< tt, refl), ((lit< tt, tt), tt)), ((lit< tt, tt), tt)), tt);
  signs = All-from_recursion (λ (r : Relation). r.sign ≢ NotEqual) (relation_with t LessEq largest ∷ []) ((λ e. cc), tt);
  body = ((refl, tt, ((((refl, ((lit< tt, tt), tt)), (refl, tt)), tt))), tt);
}

pub returns-clause-larger : goal.returns-clause-larger
returns-clause-larger c = (
  λ h. within _ _ refl h.values.0,
  λ h. within _ _ refl h.body.0.1.0.0,
  λ h. within _ _ refl h.inits.0.1.0.0,
)

pub returns-clause-others : goal.returns-clause-others
returns-clause-others c = (λ h. never _ refl h.body.0, λ h. never _ refl h.body.0, λ h. never _ refl h.body.0, λ h. never _ refl h.body.0)

pub returns-clause-unequal : goal.returns-clause-unequal
returns-clause-unequal c = λ h. (recursion_from_All (λ (r : Relation). r.sign ≢ NotEqual) (relation_with x NotEqual (pos 0) ∷ []) h.signs).0 refl

pub returns-clause-loops : goal.returns-clause-loops
unfolding hidden-the_row-Stmt-0 hidden
returns-clause-loops c = λ h. (let no_such : true ≡ false = h.body.0.0.1.0.0 in never true no_such refl)
