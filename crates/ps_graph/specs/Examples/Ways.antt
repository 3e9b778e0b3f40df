-- Worked examples: the paths of statements, in order.
use Rattle.std.specs.Prelude.{◌≡◌, pos, true, false, [], ◌∷◌}
use Rattle.ps_graph.specs.Alternatives.{Bound, at_most, less_than}
use Rattle.ps_graph.specs.Examples.{does, number, plus, compare_with, x, y}
use Rattle.ps_graph.specs.Paths.{Guards, Assigns, Havocs, Chooses, Fails, is_failing, picks_of, paths}
use Rattle.ps_graph.specs.declared.edge.Pick.TheVariants.{Star as StarPick, Value}
use Rattle.ps_tree.specs.declared.cond.Cond.TheVariants.{Or}
use Rattle.ps_tree.specs.declared.cond.Test.TheVariants.{Star}
use Rattle.ps_tree.specs.declared.relation.Sign.TheVariants.{Greater, GreaterEq}
use Rattle.ps_tree.specs.declared.stmt.StmtKind.TheVariants.{Assign, Havoc, Assume, Assert, Skip, Atomic, If}
use Rattle.ps_tree.specs.declared.sum.Sum.{Sum}

-- `assert x >= 1 || y > 0;` goes on by each alternative of its condition, and then fails by those of its negation
abbrev pub PathsOfAssert : Type 0
PathsOfAssert =
    let u : Sum = plus x (pos 0) in
    let v : Sum = plus y (pos 0) in
    let held : Bound = at_most (number (pos 1)) u in
    let other : Bound = less_than (number (pos 0)) v in
    paths (Assert (Or (compare_with x GreaterEq (pos 1) ∷ compare_with y Greater (pos 0) ∷ [])))
    ≡ (Guards held ∷ []) ∷ (Guards other ∷ [])
    ∷ (Guards (less_than u (number (pos 1))) ∷ Guards (at_most v (number (pos 0))) ∷ Fails ∷ []) ∷ []

-- `assume x >= 1;` has no path that fails, and `skip;` the empty one
abbrev pub PathsOfAssume : Type 0
PathsOfAssume =
    (paths (Assume (compare_with x GreaterEq (pos 1))) ≡ (Guards (at_most (number (pos 1)) (plus x (pos 0))) ∷ []) ∷ [])
    × (paths Skip ≡ [] ∷ [])

-- `atomic { if (*) { assert x >= 1; } else { havoc x; } x := 7; }`: the first block's paths, of which the failing one
-- ends, and then the second's
abbrev pub PathsOfAtomic : Type 0
PathsOfAtomic =
    let u : Sum = plus x (pos 0) in
    let one : Sum = number (pos 1) in
    let seven : Sum = number (pos 7) in
    paths (Atomic (does (If Star (does (Assert (compare_with x GreaterEq (pos 1))) ∷ []) (does (Havoc x) ∷ [])) ∷ does (Assign x seven) ∷ []))
    ≡ (Chooses true ∷ Guards (at_most one u) ∷ Assigns x seven ∷ [])
    ∷ (Chooses true ∷ Guards (less_than u one) ∷ Fails ∷ [])
    ∷ (Chooses false ∷ Havocs x ∷ Assigns x seven ∷ []) ∷ []

-- the picks of a path are its choices, in order
abbrev pub PicksOfPath : Type 0
PicksOfPath = (picks_of (Chooses false ∷ Havocs x ∷ Assigns x (number (pos 7)) ∷ []) ≡ StarPick false ∷ Value ∷ [])
    × (is_failing (Chooses true ∷ Fails ∷ []) ≡ true) × (is_failing (Chooses true ∷ Havocs x ∷ []) ≡ false)
