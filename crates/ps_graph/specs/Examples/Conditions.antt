-- Worked examples: what sums and conditions are worth, and the alternatives of a condition.
use Rattle.std.specs.Prelude.{◌≡◌, ℤ, pos, negsuc, Bool, true, false, List, [], ◌∷◌, Some, None}
use Rattle.ps_command.specs.Values.{Values, value_at}
use Rattle.ps_graph.specs.Alternatives.{at_most, less_than, alternatives}
use Rattle.ps_graph.specs.Examples.{number, plus, compare_with, x, y}
use Rattle.ps_tree.specs.Cond.{compares, truth}
use Rattle.ps_tree.specs.Sum.{sum_value}
use Rattle.ps_tree.specs.declared.cond.Cond.{Cond}
use Rattle.ps_tree.specs.declared.cond.Cond.TheVariants.{Rel, Not, And, Or}
use Rattle.ps_tree.specs.declared.relation.Sign.{Sign}
use Rattle.ps_tree.specs.declared.relation.Sign.TheVariants.{Less, LessEq, Greater, GreaterEq, Equal, NotEqual}
use Rattle.ps_tree.specs.declared.sum.Sum.{Sum}

-- values of `x` and `y`
abbrev pub seen : ℤ → ℤ → Values
seen m n = record { globals = m ∷ n ∷ []; locals = [] }

-- `2 * x - 3 * y + 4` at 5 and 6 is -4
abbrev pub SumIsWorth : Type 0
SumIsWorth =
    let sum : Sum = record { terms = (pos 2, Some x) ∷ (negsuc 2, Some y) ∷ (pos 4, None) ∷ [] } in
    sum_value (value_at (seen (pos 5) (pos 6))) sum ≡ negsuc 3

-- how a sign compares 1 with 2, 2 with 2, and 3 with 2
abbrev pub at_three : Sign → List Bool
at_three sign = compares sign (pos 1) (pos 2) ∷ compares sign (pos 2) (pos 2) ∷ compares sign (pos 3) (pos 2) ∷ []

abbrev pub SignsCompare : Type 0
SignsCompare =
    (at_three Less ≡ true ∷ false ∷ false ∷ []) × (at_three LessEq ≡ true ∷ true ∷ false ∷ [])
    × (at_three Greater ≡ false ∷ false ∷ true ∷ []) × (at_three GreaterEq ≡ false ∷ true ∷ true ∷ [])
    × (at_three Equal ≡ false ∷ true ∷ false ∷ []) × (at_three NotEqual ≡ true ∷ false ∷ true ∷ [])

-- `(x <= 0 || y > 0) && !(x == y)`
abbrev pub both : Cond
both = And (Or (compare_with x LessEq (pos 0) ∷ compare_with y Greater (pos 0) ∷ [])
    ∷ Not (Rel (record { left = plus x (pos 0); sign = Equal; right = plus y (pos 0) })) ∷ [])

-- its truth at (0, 0), (0, 1), (1, 1) and (1, 0)
abbrev pub TruthIs : Type 0
TruthIs =
    let at : ℤ → ℤ → Bool = λ m n. truth (value_at (seen m n)) both in
    (at (pos 0) (pos 0) ≡ false) × (at (pos 0) (pos 1) ≡ true) × (at (pos 1) (pos 1) ≡ false) × (at (pos 1) (pos 0) ≡ false)

-- its alternatives, in order
abbrev pub AlternativesAre : Type 0
AlternativesAre =
    let zero : Sum = number (pos 0) in
    let u : Sum = plus x (pos 0) in
    let v : Sum = plus y (pos 0) in
    alternatives true both ≡
    (at_most u zero ∷ less_than u v ∷ []) ∷ (at_most u zero ∷ less_than v u ∷ [])
    ∷ (less_than zero v ∷ less_than u v ∷ []) ∷ (less_than zero v ∷ less_than v u ∷ []) ∷ []

-- those of its negation
abbrev pub NegationsAre : Type 0
NegationsAre =
    let zero : Sum = number (pos 0) in
    let u : Sum = plus x (pos 0) in
    let v : Sum = plus y (pos 0) in
    alternatives false both ≡ (less_than zero u ∷ at_most v zero ∷ []) ∷ (at_most u v ∷ at_most v u ∷ []) ∷ []
