-- The alternatives of a condition hold exactly where the condition is true.
use Rattle.std.proofs.Common.{◌≡◌, Bool, true, false, not, ◌&&◌, ◌||◌, refl, sym, ◌∙◌, ap, ap₂, ℤ, pos, ◌+ℤ◌, ◌-ℤ◌, ◌≤ℤ◌, ◌<ℤ◌, List, [], ◌∷◌, ◌++◌, map, arith}
use Rattle.std.specs.Prelude.{int_lt, int_le}
use Rattle.std.specs.Ordering.{int_eq}
use Rattle.std.proofs.lemmas.Int.{ints}
use Rattle.ps_graph.proofs.Bools.{and_true, or_false, or_assoc, and_assoc, and_or, or_and, not_and, not_or, not_not, same_test}
use Rattle.ps_graph.specs.Alternatives.{Bound, bound_holds, all_hold, any_hold, opposite, of_relation, product, alternatives, one_of_each, one_of_any}
use Rattle.ps_tree.specs.Cond.{compares, truth, all_true, some_true}
use Rattle.ps_tree.specs.Sum.{sum_value}
use Rattle.ps_tree.specs.declared.cond.Cond.{Cond, Rel, Not', And', Or', Row_of-Cond, end_of-Cond, more_of-Cond}
use Rattle.ps_tree.specs.declared.relation.Sign.{Sign}
use Rattle.ps_tree.specs.declared.relation.Sign.TheVariants.{Less, LessEq, Greater, GreaterEq, Equal, NotEqual}
use Rattle.ps_tree.specs.declared.sum.Sum.{Sum}
use Rattle.ps_term.specs.declared.var.Var.{Var}

le_yes : (a b : ℤ) → int_le a b ≡ true → a ≤ℤ b
le_yes a b h = grind (arith, ints)

yes_le : (a b : ℤ) → a ≤ℤ b → int_le a b ≡ true
yes_le a b h = grind (arith, ints)

lt_yes : (a b : ℤ) → int_lt a b ≡ true → a <ℤ b
lt_yes a b h = grind (arith, ints)

yes_lt : (a b : ℤ) → a <ℤ b → int_lt a b ≡ true
yes_lt a b h = grind (arith, ints)

eq_yes : (a b : ℤ) → int_eq a b ≡ true → a ≡ b
eq_yes a b h = grind (arith, ints)

yes_eq : (a b : ℤ) → a ≡ b → int_eq a b ≡ true
yes_eq a b h = grind (arith, ints)

less_is : (a b : ℤ) → int_le ((a -ℤ b) +ℤ pos 1) (pos 0) ≡ int_lt a b
less_is a b = same_test _ _
    (λ h. let m : ((a -ℤ b) +ℤ pos 1) ≤ℤ pos 0 = le_yes ((a -ℤ b) +ℤ pos 1) (pos 0) h in yes_lt a b (omega (arith, ints, m)))
    (λ h. let m : a <ℤ b = lt_yes a b h in yes_le ((a -ℤ b) +ℤ pos 1) (pos 0) (omega (arith, ints, m)))

most_is : (a b : ℤ) → int_le ((a -ℤ b) +ℤ pos 0) (pos 0) ≡ int_le a b
most_is a b = same_test _ _
    (λ h. let m : ((a -ℤ b) +ℤ pos 0) ≤ℤ pos 0 = le_yes ((a -ℤ b) +ℤ pos 0) (pos 0) h in yes_le a b (omega (arith, ints, m)))
    (λ h. let m : a ≤ℤ b = le_yes a b h in yes_le ((a -ℤ b) +ℤ pos 0) (pos 0) (omega (arith, ints, m)))

both_is : (a b : ℤ) → (int_le a b && int_le b a) ≡ int_eq a b
both_is a b = same_test _ _ (both_eq (int_le a b) (int_le b a) refl refl)
    (λ h. let same : a ≡ b = eq_yes a b h in
    let l : int_le a b ≡ true = yes_le a b (omega (arith, ints, same)) in
    let r : int_le b a ≡ true = yes_le b a (omega (arith, ints, same)) in
    ap₂ (λ p q. p && q) l r)
  where
    both_eq : (p q : Bool) → int_le a b ≡ p → int_le b a ≡ q → (p && q) ≡ true → int_eq a b ≡ true
    both_eq true true l r h =
        let m : a ≤ℤ b = le_yes a b l in
        let n : b ≤ℤ a = le_yes b a r in
        yes_eq a b (omega (arith, ints, m, n))
    both_eq true false l r h = cc
    both_eq false q l r h = cc

not_less : (a b : ℤ) → int_le b a ≡ not (int_lt a b)
not_less a b = cases (int_lt a b) refl
  where
    cases : (p : Bool) → int_lt a b ≡ p → int_le b a ≡ not p
    cases true h = none (int_le b a) refl
      where
        none : (q : Bool) → int_le b a ≡ q → q ≡ false
        none true l =
            let m : a <ℤ b = lt_yes a b h in
            let n : b ≤ℤ a = le_yes b a l in
            let no_such : ⊥ = omega (arith, ints, m, n) in absurd no_such
        none false l = refl
    cases false h = some (int_le b a) refl
      where
        some : (q : Bool) → int_le b a ≡ q → q ≡ true
        some true l = refl
        some false l = grind (arith, ints)

less_eq_not : (a b : ℤ) → int_lt b a ≡ not (int_le a b)
less_eq_not a b = sym (not_not (int_lt b a)) ∙ ap not (sym (not_less b a))

-- the sign turned round
pub compares-opposite : (s : Sign) (a b : ℤ) → compares (opposite s) a b ≡ not (compares s a b)
compares-opposite Less a b = not_less a b
compares-opposite LessEq a b = less_eq_not a b
compares-opposite Greater a b = not_less b a
compares-opposite GreaterEq a b = less_eq_not b a
compares-opposite Equal a b = refl
compares-opposite NotEqual a b = sym (not_not (int_eq a b))

-- two different numbers are less than each other one way or the other
apart : (a b : ℤ) → (int_lt a b || int_lt b a) ≡ not (int_eq a b)
apart a b =
    ap₂ (λ p q. p || q) (less_eq_not b a) (less_eq_not a b) ∙ sym (not_and (int_le b a) (int_le a b))
    ∙ ap not (both_is b a) ∙ ap not (swapped (int_eq b a) (int_eq a b) refl refl)
  where
    swapped : (p q : Bool) → int_eq b a ≡ p → int_eq a b ≡ q → int_eq b a ≡ int_eq a b
    swapped p q f g = same_test (int_eq b a) (int_eq a b)
        (λ h. let same : b ≡ a = eq_yes b a h in yes_eq a b (sym same))
        (λ h. let same : a ≡ b = eq_yes a b h in yes_eq b a (sym same))

-- the alternatives of a relation hold where the relation is true
pub any_hold-of_relation : (values : Var → ℤ) (s : Sign) (a b : Sum) →
    any_hold values (of_relation s a b) ≡ compares s (sum_value values a) (sum_value values b)
any_hold-of_relation values Less a b = or_false _ ∙ and_true _ ∙ less_is (sum_value values a) (sum_value values b)
any_hold-of_relation values LessEq a b = or_false _ ∙ and_true _ ∙ most_is (sum_value values a) (sum_value values b)
any_hold-of_relation values Greater a b = or_false _ ∙ and_true _ ∙ less_is (sum_value values b) (sum_value values a)
any_hold-of_relation values GreaterEq a b = or_false _ ∙ and_true _ ∙ most_is (sum_value values b) (sum_value values a)
any_hold-of_relation values Equal a b =
    or_false _
    ∙ ap₂ (λ p q. p && q) (most_is (sum_value values a) (sum_value values b)) (and_true _ ∙ most_is (sum_value values b) (sum_value values a))
    ∙ both_is (sum_value values a) (sum_value values b)
any_hold-of_relation values NotEqual a b =
    ap₂ (λ p q. p || q) (and_true _ ∙ less_is (sum_value values a) (sum_value values b))
    (or_false _ ∙ and_true _ ∙ less_is (sum_value values b) (sum_value values a))
    ∙ apart (sum_value values a) (sum_value values b)

pub all_hold-append : (values : Var → ℤ) (xs ys : List Bound) → all_hold values (xs ++ ys) ≡ (all_hold values xs && all_hold values ys)
all_hold-append values [] ys = refl
all_hold-append values (x ∷ xs) ys =
    ap (λ p. bound_holds values x && p) (all_hold-append values xs ys) ∙ sym (and_assoc (bound_holds values x) (all_hold values xs) (all_hold values ys))

pub any_hold-append : (values : Var → ℤ) (xs ys : List (List Bound)) → any_hold values (xs ++ ys) ≡ (any_hold values xs || any_hold values ys)
any_hold-append values [] ys = refl
any_hold-append values (x ∷ xs) ys =
    ap (λ p. all_hold values x || p) (any_hold-append values xs ys) ∙ sym (or_assoc (all_hold values x) (any_hold values xs) (any_hold values ys))

and_false : (a : Bool) → false ≡ (a && false)
and_false true = refl
and_false false = refl

any_hold-map : (values : Var → ℤ) (x : List Bound) (ys : List (List Bound)) →
    any_hold values (map (λ (y : List Bound). x ++ y) ys) ≡ (all_hold values x && any_hold values ys)
any_hold-map values x [] = and_false (all_hold values x)
any_hold-map values x (y ∷ ys) =
    ap₂ (λ p q. p || q) (all_hold-append values x y) (any_hold-map values x ys)
    ∙ and_or (all_hold values x) (all_hold values y) (any_hold values ys)

pub any_hold-product : (values : Var → ℤ) (xs ys : List (List Bound)) →
    any_hold values (product xs ys) ≡ (any_hold values xs && any_hold values ys)
any_hold-product values [] ys = refl
any_hold-product values (x ∷ xs) ys =
    any_hold-append values (map (λ (y : List Bound). x ++ y) ys) (product xs ys)
    ∙ ap₂ (λ p q. p || q) (any_hold-map values x ys) (any_hold-product values xs ys)
    ∙ or_and (all_hold values x) (any_hold values xs) (any_hold values ys)

-- the alternatives at true hold where the condition is true, and those at false where it isn't
mutual
  pub any_hold-true : (values : Var → ℤ) (c : Cond) → any_hold values (alternatives true c) ≡ truth values c
  any_hold-true values (Rel r) = any_hold-of_relation values r.sign r.left r.right
  any_hold-true values (Not' _ (more_of-Cond c end_of-Cond)) = any_hold-false values c
  any_hold-true values (And' _ members) = each_true values members
  any_hold-true values (Or' _ members) = any_true values members

  pub any_hold-false : (values : Var → ℤ) (c : Cond) → any_hold values (alternatives false c) ≡ not (truth values c)
  any_hold-false values (Rel r) =
      any_hold-of_relation values (opposite r.sign) r.left r.right ∙ compares-opposite r.sign (sum_value values r.left) (sum_value values r.right)
  any_hold-false values (Not' _ (more_of-Cond c end_of-Cond)) = any_hold-true values c ∙ sym (not_not (truth values c))
  any_hold-false values (And' _ members) = any_false values members
  any_hold-false values (Or' _ members) = each_false values members

  each_true : (values : Var → ℤ) {n : _} (row : Row_of-Cond n) → any_hold values (one_of_each true row) ≡ all_true values row
  each_true values end_of-Cond = refl
  each_true values (more_of-Cond c rest) =
      any_hold-product values (alternatives true c) (one_of_each true rest)
      ∙ ap₂ (λ p q. p && q) (any_hold-true values c) (each_true values rest)

  any_true : (values : Var → ℤ) {n : _} (row : Row_of-Cond n) → any_hold values (one_of_any true row) ≡ some_true values row
  any_true values end_of-Cond = refl
  any_true values (more_of-Cond c rest) =
      any_hold-append values (alternatives true c) (one_of_any true rest)
      ∙ ap₂ (λ p q. p || q) (any_hold-true values c) (any_true values rest)

  each_false : (values : Var → ℤ) {n : _} (row : Row_of-Cond n) → any_hold values (one_of_each false row) ≡ not (some_true values row)
  each_false values end_of-Cond = refl
  each_false values (more_of-Cond c rest) =
      any_hold-product values (alternatives false c) (one_of_each false rest)
      ∙ ap₂ (λ p q. p && q) (any_hold-false values c) (each_false values rest)
      ∙ sym (not_or (truth values c) (some_true values rest))

  any_false : (values : Var → ℤ) {n : _} (row : Row_of-Cond n) → any_hold values (one_of_any false row) ≡ not (all_true values row)
  any_false values end_of-Cond = refl
  any_false values (more_of-Cond c rest) =
      any_hold-append values (alternatives false c) (one_of_any false rest)
      ∙ ap₂ (λ p q. p || q) (any_hold-false values c) (any_false values rest)
      ∙ sym (not_and (truth values c) (all_true values rest))
