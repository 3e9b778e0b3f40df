-- The truth of a condition.
use Rattle.std.specs.Prelude.{ℤ, Bool, true, false, not, ◌&&◌, ◌||◌, int_lt, int_le}
use Rattle.std.specs.Ordering.{int_eq}
use Rattle.ps_tree.specs.Sum.{sum_value}
use Rattle.ps_tree.specs.declared.cond.Cond.{Cond, Rel, Not', And', Or', Row_of-Cond, end_of-Cond, more_of-Cond}
use Rattle.ps_tree.specs.declared.relation.Relation.{Relation}
use Rattle.ps_tree.specs.declared.relation.Sign.{Sign}
use Rattle.ps_tree.specs.declared.relation.Sign.TheVariants.{Less, LessEq, Greater, GreaterEq, Equal, NotEqual}
use Rattle.ps_term.specs.declared.var.Var.{Var}

-- how the sign compares two whole numbers
abbrev pub compares : Sign → ℤ → ℤ → Bool
compares Less a b = int_lt a b
compares LessEq a b = int_le a b
compares Greater a b = int_lt b a
compares GreaterEq a b = int_le b a
compares Equal a b = int_eq a b
compares NotEqual a b = not (int_eq a b)

-- a relation is true where its sign holds between what its two sums are worth
abbrev pub is_true : (Var → ℤ) → Relation → Bool
is_true values r = compares r.sign (sum_value values r.left) (sum_value values r.right)

-- The truth of a condition at values of the variables: that of a relation, of the negation, of all members or of some.
abbrev mutual
  pub truth : (Var → ℤ) → Cond → Bool
  truth values (Rel r) = is_true values r
  truth values (Not' _ (more_of-Cond c end_of-Cond)) = not (truth values c)
  truth values (And' _ members) = all_true values members
  truth values (Or' _ members) = some_true values members

  pub all_true : (Var → ℤ) → {n : _} → Row_of-Cond n → Bool
  all_true values end_of-Cond = true
  all_true values (more_of-Cond c rest) = truth values c && all_true values rest

  pub some_true : (Var → ℤ) → {n : _} → Row_of-Cond n → Bool
  some_true values end_of-Cond = false
  some_true values (more_of-Cond c rest) = truth values c || some_true values rest
