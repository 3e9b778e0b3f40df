-- The alternatives of a condition: lists of bounds, of which all hold in one list exactly where the condition is true.
use Rattle.std.specs.Prelude.{ℤ, pos, ◌+ℤ◌, ◌-ℤ◌, Bool, true, false, not, List, [], ◌∷◌, ◌++◌, map, int_le}
use Rattle.std.specs.List.{list_all, list_any}
use Rattle.ps_tree.specs.Sum.{sum_value}
use Rattle.ps_tree.specs.declared.cond.Cond.{Cond, Rel, Not', And', Or', Row_of-Cond, end_of-Cond, more_of-Cond}
use Rattle.ps_tree.specs.declared.relation.Sign.{Sign}
use Rattle.ps_tree.specs.declared.relation.Sign.TheVariants.{Less, LessEq, Greater, GreaterEq, Equal, NotEqual}
use Rattle.ps_tree.specs.declared.sum.Sum.{Sum}
use Rattle.ps_term.specs.declared.var.Var.{Var}

-- a bound on two sums of the text: left - right + plus <= 0
pub record Bound : Type 0 where
  pub left : Sum
  pub right : Sum
  pub plus : ℤ

-- what the bounded side is worth
abbrev pub bound_value : (Var → ℤ) → Bound → ℤ
bound_value values b = (sum_value values b.left -ℤ sum_value values b.right) +ℤ b.plus

-- the bound holds of values
abbrev pub bound_holds : (Var → ℤ) → Bound → Bool
bound_holds values b = int_le (bound_value values b) (pos 0)

-- all bounds of an alternative hold
abbrev pub all_hold : (Var → ℤ) → List Bound → Bool
all_hold values bs = list_all (bound_holds values) bs

-- all bounds of some alternative hold
abbrev pub any_hold : (Var → ℤ) → List (List Bound) → Bool
any_hold values alts = list_any (all_hold values) alts

-- left <= right
abbrev pub at_most : Sum → Sum → Bound
at_most a b = record { left = a; right = b; plus = pos 0 }

-- left < right, which for whole numbers is left + 1 <= right
abbrev pub less_than : Sum → Sum → Bound
less_than a b = record { left = a; right = b; plus = pos 1 }

-- the sign that holds exactly where this one doesn't
abbrev pub opposite : Sign → Sign
opposite Less = GreaterEq
opposite LessEq = Greater
opposite Greater = LessEq
opposite GreaterEq = Less
opposite Equal = NotEqual
opposite NotEqual = Equal

-- the alternatives of one relation
abbrev pub of_relation : Sign → Sum → Sum → List (List Bound)
of_relation Less a b = (less_than a b ∷ []) ∷ []
of_relation LessEq a b = (at_most a b ∷ []) ∷ []
of_relation Greater a b = (less_than b a ∷ []) ∷ []
of_relation GreaterEq a b = (at_most b a ∷ []) ∷ []
of_relation Equal a b = (at_most a b ∷ at_most b a ∷ []) ∷ []
of_relation NotEqual a b = (less_than a b ∷ []) ∷ (less_than b a ∷ []) ∷ []

-- every list of the first with every list of the second after it, the first slowest
abbrev pub product : {X : Type 0} → List (List X) → List (List X) → List (List X)
product {X} [] ys = []
product {X} (x ∷ xs) ys = map (λ (y : List X). x ++ y) ys ++ product xs ys

-- The alternatives of a condition, at true, and of its negation, at false: `Not` turns the one into the other, `And`
-- takes one of each member, and `Or` one of any; in the negation these change places.
abbrev mutual
  pub alternatives : Bool → Cond → List (List Bound)
  alternatives true (Rel r) = of_relation r.sign r.left r.right
  alternatives false (Rel r) = of_relation (opposite r.sign) r.left r.right
  alternatives b (Not' _ (more_of-Cond c end_of-Cond)) = alternatives (not b) c
  alternatives true (And' _ members) = one_of_each true members
  alternatives false (And' _ members) = one_of_any false members
  alternatives true (Or' _ members) = one_of_any true members
  alternatives false (Or' _ members) = one_of_each false members

  pub one_of_each : Bool → {n : _} → Row_of-Cond n → List (List Bound)
  one_of_each b end_of-Cond = [] ∷ []
  one_of_each b (more_of-Cond c rest) = product (alternatives b c) (one_of_each b rest)

  pub one_of_any : Bool → {n : _} → Row_of-Cond n → List (List Bound)
  one_of_any b end_of-Cond = []
  one_of_any b (more_of-Cond c rest) = alternatives b c ++ one_of_any b rest
