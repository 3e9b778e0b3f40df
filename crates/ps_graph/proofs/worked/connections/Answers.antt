use denote.Hole.Carrier.{hidden}
use Rattle.std.proofs.Common.{◌≡◌, ◌≢◌, refl, sym, subst, ℕ, ℤ, pos, negsuc, ◌+ℤ◌, ◌-ℤ◌, ◌*ℤ◌, List, [], ◌∷◌, ◌++◌, arith}
use Rattle.std.proofs.lemmas.Int.{ints}
use Rattle.ps_graph.specs.Examples.{compare_with, counter, x}
use Rattle.ps_graph.specs.Examples.Connections.{edge, counter_commands, counter_edges}
use Rattle.ps_graph.specs.Follows.{AreRealised, going_to, leaving, RestBeginsAt}
use Rattle.ps_graph.specs.Paths.{paths}
use Rattle.ps_graph.specs.declared.edge.Edge.{Edge}
use Rattle.ps_tree.specs.declared.relation.Sign.TheVariants.{GreaterEq}
use Rattle.ps_tree.specs.declared.stmt.StmtKind.{StmtKind}
use Rattle.ps_tree.specs.declared.stmt.StmtKind.TheVariants.{Assert}
use Rattle.ps_tree.specs.declared.stmt.StmtKind.TheBlock.{hidden-the_row-Stmt-0}
use Rattle.ps_graph.proofs.worked.connections.Goals as goal

zero_is_elsewhere : ◌≢◌ {A = ℕ} 0 1
zero_is_elsewhere e = let none : ⊥ = omega (arith, e) in none

two_is_elsewhere : ◌≢◌ {A = ℕ} 2 1
two_is_elsewhere e = let none : ⊥ = omega (arith, e) in none

three_is_elsewhere : ◌≢◌ {A = ℕ} 3 1
three_is_elsewhere e = let none : ⊥ = omega (arith, e) in none

-- what the terms of the counter are worth
counts : (z : ℤ) → ((pos 1 *ℤ z) +ℤ pos 0) +ℤ pos 1 ≡ (pos 1 *ℤ z) +ℤ pos 1
counts z = omega (arith, ints)

passes : (z : ℤ) → ((negsuc 0 *ℤ z) +ℤ pos 0) +ℤ pos 1 ≡ (pos 1 -ℤ ((pos 1 *ℤ z) +ℤ pos 0)) +ℤ pos 0
passes z = omega (arith, ints)

fails : (z : ℤ) → ((pos 1 *ℤ z) +ℤ pos 0) +ℤ pos 0 ≡ (((pos 1 *ℤ z) +ℤ pos 0) -ℤ pos 1) +ℤ pos 1
fails z = omega (arith, ints)

pub returns-clause-counter : goal.returns-clause-counter
returns-clause-counter c = (
  3,
  zero_is_elsewhere,
  (record { source = refl; target = refl; ops = (refl, λ values. counts (values x), refl); picks = refl }, tt),
  (
    2,
    three_is_elsewhere,
    (
      record { source = refl; target = refl; ops = (λ values. passes (values x), refl); picks = refl },
      (record { source = refl; target = refl; ops = (λ values. fails (values x), refl); picks = refl }, tt),
    ),
    (two_is_elsewhere, refl),
  ),
)

-- the counter's assertion
abbrev asserts : StmtKind
asserts = Assert (compare_with x GreaterEq (pos 1))

-- the edges of the assertion, where one edge counts from 0 to 3
second : (edges : List Edge) (b goal : ℕ) → 3 ≡ b → AreRealised counter_commands b (going_to goal (paths asserts)) (leaving b edges) →
    AreRealised counter_commands 3 (going_to goal (paths asserts)) (leaving 3 edges)
second edges b goal e d = subst (λ (n : ℕ). AreRealised counter_commands n (going_to goal (paths asserts)) (leaving n edges)) (sym e) d

further_leaves : RestBeginsAt counter_commands (counter_edges ++ edge 0 2 0 ∷ []) counter.body 0 → ⊥
further_leaves (b, ne, d, r) = d.1

goes_on : RestBeginsAt counter_commands (counter_edges ++ edge 2 3 0 ∷ []) counter.body 0 → ⊥
goes_on (b, ne, d, (goal, ne', d', (ne'', none))) =
    let es : List Edge = counter_edges ++ edge 2 3 0 ∷ [] in
    let at_three = second es b goal d.0.target d' in
    let no_such : edge 2 3 0 ∷ [] ≡ [] = subst (λ (n : ℕ). leaving n es ≡ []) (sym at_three.0.target) none in cc

leads_elsewhere : RestBeginsAt counter_commands (edge 0 3 0 ∷ edge 3 2 1 ∷ edge 3 2 2 ∷ []) counter.body 0 → ⊥
leads_elsewhere (b, ne, d, (goal, ne', d', end)) =
    let at_three = second (edge 0 3 0 ∷ edge 3 2 1 ∷ edge 3 2 2 ∷ []) b goal d.0.target d' in
    two_is_elsewhere at_three.1.0.target

wrong_row : RestBeginsAt counter_commands (edge 0 3 0 ∷ edge 3 2 2 ∷ edge 3 1 2 ∷ []) counter.body 0 → ⊥
wrong_row (b, ne, d, (goal, ne', d', end)) =
    let at_three = second (edge 0 3 0 ∷ edge 3 2 2 ∷ edge 3 1 2 ∷ []) b goal d.0.target d' in
    let no_such : pos 0 ≡ pos 1 = at_three.0.ops.0 (λ _. pos 0) in cc

pub returns-clause-counter_not : goal.returns-clause-counter_not
returns-clause-counter_not c = (further_leaves, goes_on, leads_elsewhere, wrong_row)

pub returns-clause-branch : goal.returns-clause-branch
unfolding hidden-the_row-Stmt-0 hidden
returns-clause-branch c = (
  2,
  zero_is_elsewhere,
  (
    2,
    3,
    (record { source = refl; target = refl; ops = refl; picks = refl }, (record { source = refl; target = refl; ops = refl; picks = refl }, tt)),
    refl,
    (2, three_is_elsewhere, (record { source = refl; target = refl; ops = refl; picks = refl }, tt), refl),
  ),
  (two_is_elsewhere, refl),
)

pub returns-clause-repeat : goal.returns-clause-repeat
unfolding hidden-the_row-Stmt-0 hidden
returns-clause-repeat c = (
  2,
  zero_is_elsewhere,
  (
    3,
    (record { source = refl; target = refl; ops = refl; picks = refl }, (record { source = refl; target = refl; ops = refl; picks = refl }, tt)),
    (0, three_is_elsewhere, (record { source = refl; target = refl; ops = refl; picks = refl }, tt), refl),
  ),
  (two_is_elsewhere, refl),
)
