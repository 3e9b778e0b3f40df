-- A product added to a term: the exact term, and within 128 bits where numbers are small.
use Rattle.std.proofs.Common.{◌≡◌, refl, sym, ap, subst, ℕ, ◌+◌, ◌<◌, ◌^◌, ℤ, pos, negsuc, ◌+ℤ◌, ◌*ℤ◌, [], ◌∷◌, FitsSigned, arith, zero, suc, get_or, Bool, true, false, if◌then◌else◌, ◌*◌, ◌≤◌, drop, length, ◌∙◌, List}
use Rattle.std.specs.Prelude.{Option, Some, None}
use Rattle.std.specs.Int.{w128}
use Rattle.std.proofs.lemmas.Int.{ints}
use Rattle.ps_compile.proofs.Members.{all_at}
use Rattle.ps_compile.proofs.Worth.{product_value, product_canonical}
use Rattle.ps_compile.specs.Ops.{with_product, with_products}
use Rattle.ps_term.specs.Exact.{number_term, with_pair}
use Rattle.ps_tree.specs.Sum.{factor_value}
use Rattle.ps_term.proofs.Ring.{mul-one, mul-zero, one-mul}
use Rattle.ps_term.proofs.ExactTerms.{same_term, pair_value}
use Rattle.ps_term.specs.Pairs.{IsCanonical, coefficient}
use Rattle.ps_term.specs.Sums.{ScaledFits, TermFits}
use Rattle.ps_term.specs.Term.{value, variable_term}
use Rattle.ps_term.specs.declared.term.Term.{Term}
use Rattle.ps_term.specs.declared.var.Var.{Var}
use Rattle.ps_compile.specs.Conditions.{number_bound}
use Rattle.ps_compile.specs.inner.Near.{AreSmall, IsNear, IsNearTerm}
use Rattle.ps_term.proofs.Uniqueness.{unit_at, pairs_value-unit_at}
use Rattle.ps_term.specs.Var.{var_eq}

-- the term of a factor
abbrev pub factor_term : Option Var → Term
factor_term None = number_term (pos 1)
factor_term (Some x) = variable_term x

factor_worth : (v : Var → ℤ) (f : Option Var) → value v (factor_term f) ≡ factor_value v f
factor_worth v None = refl
factor_worth v (Some x) = omega (arith, ints, one-mul (v x))

pub product_made : (s t one : Term) (by : ℤ) (f : Option Var) → IsCanonical s.pairs → IsCanonical t.pairs → one ≡ factor_term f →
    ((v : Var → ℤ) → value v s ≡ (value v t +ℤ (by *ℤ value v one))) → s ≡ with_product by f t
product_made s t one by f c d e w = same_term s (with_product by f t) c (product_canonical by f t d) (λ v.
    omega (arith, ints, w v, product_value v by f t, ap (λ (u : Term). by *ℤ value v u) e, ap (λ (n : ℤ). by *ℤ n) (factor_worth v f)))

near_fits : (k : ℕ) (z : ℤ) → IsNear k z → k < 2 ^ 127 → FitsSigned w128 z
near_fits k (pos n) h l = record { sfits = omega (arith, ints, h.1, l) }
near_fits k (negsuc n) h l = record { sfits = omega (arith, ints, h.0, l) }

near_scaled : (k m : ℕ) (z by n : ℤ) → IsNear k z → IsNear m by → n ≡ pos 1 → k + m < 2 ^ 127 → ScaledFits z by n
near_scaled k m z by n h i e l =
    let same : (by *ℤ n) ≡ (by *ℤ pos 1) = ap (λ (j : ℤ). by *ℤ j) e in (
      near_fits (k + m) (by *ℤ n) (omega (arith, ints, h.0, h.1, i.0, i.1, same, mul-one by), omega (arith, ints, h.0, h.1, i.0, i.1, same, mul-one by)) l,
      near_fits (k + m) (z +ℤ (by *ℤ n)) (omega (arith, ints, h.0, h.1, i.0, i.1, same, mul-one by), omega (arith, ints, h.0, h.1, i.0, i.1, same, mul-one by)) l,
    )

near_nothing : (k m : ℕ) (z by n : ℤ) → IsNear k z → IsNear m by → n ≡ pos 0 → k + m < 2 ^ 127 → ScaledFits z by n
near_nothing k m z by n h i e l =
    let same : (by *ℤ n) ≡ (by *ℤ pos 0) = ap (λ (j : ℤ). by *ℤ j) e in (
      near_fits (k + m) (by *ℤ n) (omega (arith, ints, same), omega (arith, ints, same)) l,
      near_fits (k + m) (z +ℤ (by *ℤ n)) (omega (arith, ints, h.0, h.1, same), omega (arith, ints, h.0, h.1, same)) l,
    )

pub near_term : (k m : ℕ) (t one : Term) (by : ℤ) (f : Option Var) → one ≡ factor_term f → IsNearTerm k t → IsNear m by → k + m < 2 ^ 127 → TermFits t by one
near_term k m t one by f e h i l = subst_one (sym e)
  where
    fits : (g : Option Var) → TermFits t by (factor_term g)
    fits None = (λ j d q. (let no : ⊥ = omega (arith, q) in absurd no), near_scaled k m t.constant by (pos 1) h.1 i refl l)
    fits (Some x) = (
      λ j d q. at j d q,
      near_nothing k m t.constant by (pos 0) h.1 i refl l,
    )
      where
        at : (j : ℕ) (d : Var × ℤ) → j < 1 → ScaledFits (coefficient (get_or ((x, pos 1) ∷ []) j d).0 t.pairs) by (get_or ((x, pos 1) ∷ []) j d).1
        at zero d q = near_scaled k m (coefficient x t.pairs) by (pos 1) (h.0 x) i refl l
        at (suc j) d q = (let no : ⊥ = omega (arith, q) in absurd no)

    subst_one : factor_term f ≡ one → TermFits t by one
    subst_one p = subst (λ (u : Term). TermFits t by u) p (fits f)

-- ---- all products of a sum

unit_value : (x y : Var) (n : ℤ) → n *ℤ unit_at x y ≡ (if var_eq x y then n else pos 0)
unit_value x y n = at (var_eq x y)
  where
    at : (t : Bool) → n *ℤ (if t then pos 1 else pos 0) ≡ (if t then n else pos 0)
    at true = mul-one n
    at false = mul-zero n

pair_coefficient : (x y : Var) (n : ℤ) (ps : List (Var × ℤ)) → coefficient x (with_pair y n ps) ≡ ((if var_eq x y then n else pos 0) +ℤ coefficient x ps)
pair_coefficient x y n ps =
    omega (arith, ints, pairs_value-unit_at x (with_pair y n ps), pairs_value-unit_at x ps, pair_value (unit_at x) y n ps, unit_value x y n)

near_more : (k m : ℕ) (y n : ℤ) → IsNear k y → IsNear m n → IsNear (k + m) (n +ℤ y)
near_more k m y n h i = (omega (arith, ints, h.0, i.0), omega (arith, ints, h.1, i.1))

near_wider : (k m : ℕ) (y : ℤ) → IsNear k y → IsNear (k + m) y
near_wider k m y h = (omega (arith, ints, h.0), omega (arith, ints, h.1))

product_near : (k m : ℕ) (n : ℤ) (f : Option Var) (t : Term) → IsNearTerm k t → IsNear m n → IsNearTerm (k + m) (with_product n f t)
product_near k m n None t h i = (λ x. near_wider k m (coefficient x t.pairs) (h.0 x), near_more k m t.constant n h.1 i)
product_near k m n (Some y) t h i = (
  λ x. subst (IsNear (k + m)) (sym (pair_coefficient x y n t.pairs)) (at x (var_eq x y)),
  near_wider k m t.constant h.1,
)
  where
    at : (x : Var) (b : Bool) → IsNear (k + m) ((if b then n else pos 0) +ℤ coefficient x t.pairs)
    at x true = near_more k m (coefficient x t.pairs) n (h.0 x) i
    at x false = near_more k m (coefficient x t.pairs) (pos 0) (h.0 x) (omega (arith, ints), omega (arith, ints))

pub products_near : (k : ℕ) (by : ℤ) (ps : List (ℤ × Option Var)) (t : Term) → IsNearTerm k t → AreSmall by ps →
    IsNearTerm (k + length ps * number_bound) (with_products by ps t)
products_near k by [] t h s = subst (λ (n : ℕ). IsNearTerm n t) (let e : k ≡ k + 0 * number_bound = omega arith in e) h
products_near k by (p ∷ ps) t h s =
    subst (λ (n : ℕ). IsNearTerm n (with_products by (p ∷ ps) t))
    (let e : (k + length ps * number_bound) + number_bound ≡ k + length (p ∷ ps) * number_bound = omega arith in e)
    (product_near (k + length ps * number_bound) number_bound (by *ℤ p.0) p.1 (with_products by ps t) (products_near k by ps t h s.1) s.0)

small_rest : (by : ℤ) (i : ℕ) (ps : List (ℤ × Option Var)) → AreSmall by ps → AreSmall by (drop i ps)
small_rest by zero ps s = s
small_rest by (suc i) [] s = tt
small_rest by (suc i) (p ∷ ps) s = small_rest by i ps s.1

left_over : (n : ℕ) (ps : List (ℤ × Option Var)) → n < length ps → length (drop (suc n) ps) + 1 ≤ length ps
left_over n [] l = let none : ⊥ = omega (arith, l) in absurd none
left_over zero (p ∷ ps) l = omega arith
left_over (suc n) (p ∷ ps) l = let rest : length (drop (suc n) ps) + 1 ≤ length ps = left_over n ps (omega (arith, l)) in omega (arith, rest)

split_at : (n : ℕ) (ps : List (ℤ × Option Var)) (d : ℤ × Option Var) → n < length ps → drop n ps ≡ get_or ps n d ∷ drop (suc n) ps
split_at n [] d l = let none : ⊥ = omega (arith, l) in absurd none
split_at zero (p ∷ ps) d l = refl
split_at (suc n) (p ∷ ps) d l = split_at n ps d (omega (arith, l))

-- one turn, from a place to the one before it
pub products_step : (by : ℤ) (ps : List (ℤ × Option Var)) (t sum new : Term) (i n : ℕ) (d : ℤ × Option Var) → i ≡ suc n → n < length ps →
    sum ≡ with_products by (drop i ps) t → new ≡ with_product (by *ℤ (get_or ps n d).0) (get_or ps n d).1 sum → new ≡ with_products by (drop n ps) t
products_step by ps t sum new i n d one l e f =
    f ∙ ap (with_product (by *ℤ (get_or ps n d).0) (get_or ps n d).1) (e ∙ ap (λ (j : ℕ). with_products by (drop j ps) t) one)
    ∙ ap (λ (rest : List (ℤ × Option Var)). with_products by rest t) (sym (split_at n ps d l))

-- a turn passes 128 bits only where a number is far from 0
pub products_refused : (by : ℤ) (ps : List (ℤ × Option Var)) (t sum : Term) (i n : ℕ) (d : ℤ × Option Var) → i ≡ suc n → n < length ps →
    sum ≡ with_products by (drop i ps) t →
    ((k m : ℕ) → IsNearTerm k sum → IsNear m (by *ℤ (get_or ps n d).0) → k + m < 2 ^ 127 → ⊥) →
    (k : ℕ) → IsNearTerm k t → AreSmall by ps → k + length ps * number_bound < 2 ^ 127 → ⊥
products_refused by ps t sum i n d one l e past k near small less =
    let left : length (drop (suc n) ps) + 1 ≤ length ps = left_over n ps l in
    past (k + length (drop (suc n) ps) * number_bound) number_bound
    (subst (IsNearTerm (k + length (drop (suc n) ps) * number_bound)) (sym (e ∙ ap (λ (j : ℕ). with_products by (drop j ps) t) one))
    (products_near k by (drop (suc n) ps) t near (small_rest by (suc n) ps small)))
    (all_at (λ (p : ℤ × Option Var). IsNear number_bound (by *ℤ p.0)) ps n d l small)
    (let within : (k + length (drop (suc n) ps) * number_bound) + number_bound < 2 ^ 127 = omega (arith, left, less) in within)
