-- When the weighted sum of two terms stays within 128 bits.
use Rattle.std.proofs.Common.{◌≡◌, ℕ, ℤ, pos, ◌+ℤ◌, ◌*ℤ◌, Bool, true, false, List, [], ◌∷◌, FitsSigned, unsigned_abs, refl, sym, subst, subst₂, arith}
use Rattle.std.specs.Int.{w128, ◌∣◌}
use Rattle.std.specs.List.{AllByRecursion}
use Rattle.std.proofs.lemmas.Int.{ints}
use Rattle.std.proofs.lemmas.List.Elements.{All-from_recursion, recursion_from_All}
use Rattle.std.proofs.lemmas.Nat.Gcd.{dvd-zero}
use Rattle.ps_elim.specs.inner.Weights.{TermsFit}
use Rattle.ps_term.specs.declared.term.Term.{Term}
use Rattle.ps_term.specs.declared.var.Var.{Var}
use Rattle.ps_term.specs.Factors.{DividesAll}
use Rattle.ps_term.specs.Pairs.{IsCanonical, coefficient}
use Rattle.ps_term.specs.Sums.{ScaledFits, TermFits, PairsFit}
use Rattle.ps_term.specs.Var.{var_eq}
use Rattle.ps_term.proofs.Canonical.{coefficient-other, coefficient-below, IsBelowAll-canonical}
use Rattle.ps_term.proofs.Ring.{mul-zero}
use Rattle.ps_term.proofs.Uniqueness.{coefficient-first}
use Rattle.ps_term.proofs.Variables.{var_eq-true}

pub zero_fits : FitsSigned w128 (pos 0)
zero_fits = record { sfits = omega arith }

nothing_scaled : (s by : ℤ) → FitsSigned w128 s → ScaledFits s by (pos 0)
nothing_scaled s by f =
    let same : (s +ℤ (by *ℤ pos 0)) ≡ s = omega (arith, ints, mul-zero by) in
    (subst (λ (z : ℤ). FitsSigned w128 z) (sym (mul-zero by)) zero_fits, subst (λ (z : ℤ). FitsSigned w128 z) (sym same) f)

-- ---- what holds of the coefficient of each pair holds at each variable, and the other way round
at_variable : (left : Var → ℤ) (by : ℤ) (p : Var × ℤ) (ps : List (Var × ℤ)) (x : Var) → IsCanonical (p ∷ ps) → ScaledFits (left p.0) by p.1 → ScaledFits (left x) by (coefficient x ps) → (t : Bool) → var_eq x p.0 ≡ t → ScaledFits (left x) by (coefficient x (p ∷ ps))
at_variable left by p ps x c h rest true e =
    let same : p.0 ≡ x = sym (var_eq-true x p.0 e) in
    subst (λ (y : Var). ScaledFits (left y) by (coefficient y (p ∷ ps))) same (subst (λ (z : ℤ). ScaledFits (left p.0) by z) (sym (coefficient-first p ps c)) h)
at_variable left by p ps x c h rest false e =
    subst (λ (z : ℤ). ScaledFits (left x) by z) (sym (coefficient-other x p ps e)) rest

scaled_everywhere : (left : Var → ℤ) (by : ℤ) (ps : List (Var × ℤ)) → IsCanonical ps → ((x : Var) → FitsSigned w128 (left x)) → AllByRecursion (λ p. ScaledFits (left p.0) by p.1) ps → (x : Var) → ScaledFits (left x) by (coefficient x ps)
scaled_everywhere left by [] c f h x = nothing_scaled (left x) by (f x)
scaled_everywhere left by (p ∷ ps) c f h x =
    at_variable left by p ps x c h.0 (scaled_everywhere left by ps c.2 f h.1 x) (var_eq x p.0) refl

pub below_first : (p : Var × ℤ) (ps : List (Var × ℤ)) (x : Var) → IsCanonical (p ∷ ps) → var_eq x p.0 ≡ true → coefficient x ps ≡ pos 0
below_first p ps x c e =
    subst (λ (y : Var). coefficient y ps ≡ pos 0) (sym (var_eq-true x p.0 e)) (coefficient-below p.0 ps (IsBelowAll-canonical p.0 ps c.1 c.2))

past_first : (left : Var → ℤ) (by : ℤ) (p : Var × ℤ) (ps : List (Var × ℤ)) (x : Var) → IsCanonical (p ∷ ps) → FitsSigned w128 (left x) → ScaledFits (left x) by (coefficient x (p ∷ ps)) → (t : Bool) → var_eq x p.0 ≡ t → ScaledFits (left x) by (coefficient x ps)
past_first left by p ps x c f h true e =
    subst (λ (z : ℤ). ScaledFits (left x) by z) (sym (below_first p ps x c e)) (nothing_scaled (left x) by f)
past_first left by p ps x c f h false e =
    subst (λ (z : ℤ). ScaledFits (left x) by z) (coefficient-other x p ps e) h

scaled_at_pairs : (left : Var → ℤ) (by : ℤ) (ps : List (Var × ℤ)) → IsCanonical ps → ((x : Var) → FitsSigned w128 (left x)) → ((x : Var) → ScaledFits (left x) by (coefficient x ps)) → AllByRecursion (λ p. ScaledFits (left p.0) by p.1) ps
scaled_at_pairs left by [] c f h = tt
scaled_at_pairs left by (p ∷ ps) c f h =
    (subst (λ (z : ℤ). ScaledFits (left p.0) by z) (coefficient-first p ps c) (h p.0), scaled_at_pairs left by ps c.2 f (λ x. past_first left by p ps x c (f x) (h x) (var_eq x p.0) refl))

pairs_everywhere : (left : List (Var × ℤ)) (by : ℤ) (ps : List (Var × ℤ)) → IsCanonical ps → ((x : Var) → FitsSigned w128 (coefficient x left)) → PairsFit left by ps → (x : Var) → ScaledFits (coefficient x left) by (coefficient x ps)
pairs_everywhere left by ps c f h =
    scaled_everywhere (λ x. coefficient x left) by ps c f (recursion_from_All (λ p. ScaledFits (coefficient p.0 left) by p.1) ps h)

pairs_fit : (left : List (Var × ℤ)) (by : ℤ) (ps : List (Var × ℤ)) → IsCanonical ps → ((x : Var) → FitsSigned w128 (coefficient x left)) → ((x : Var) → ScaledFits (coefficient x left) by (coefficient x ps)) → PairsFit left by ps
pairs_fit left by ps c f h =
    All-from_recursion (λ p. ScaledFits (coefficient p.0 left) by p.1) ps (scaled_at_pairs (λ x. coefficient x left) by ps c f h)

-- ---- the two steps of the sum of two terms
abbrev pub nothing : Term
nothing = record { pairs = []; constant = pos 0 }

pub record IsPart (m : ℕ) (p part : Term) : Type 0 where
  pub coefficients : (x : Var) → coefficient x part.pairs ≡ (pos m *ℤ coefficient x p.pairs)
  pub constant : part.constant ≡ (pos m *ℤ p.constant)

pub part_of : (m : ℕ) (p none part : Term) (by : ℤ) → by ≡ pos m → none ≡ nothing →
    ((x : Var) → coefficient x part.pairs ≡ (coefficient x none.pairs +ℤ (by *ℤ coefficient x p.pairs))) → part.constant ≡ (none.constant +ℤ (by *ℤ p.constant)) → IsPart m p part
part_of m p none part by is e h k = record {
  coefficients = λ x. (let here : coefficient x part.pairs ≡ (pos 0 +ℤ (pos m *ℤ coefficient x p.pairs)) =
      subst₂ (λ (t : Term) (z : ℤ). coefficient x part.pairs ≡ (coefficient x t.pairs +ℤ (z *ℤ coefficient x p.pairs))) e is (h x) in omega (arith, ints, here));
  constant = (let here : part.constant ≡ (pos 0 +ℤ (pos m *ℤ p.constant)) =
      subst₂ (λ (t : Term) (z : ℤ). part.constant ≡ (t.constant +ℤ (z *ℤ p.constant))) e is k in omega (arith, ints, here));
}

alone : (z : ℤ) → (pos 0 +ℤ z) ≡ z
alone z = omega (arith, ints)

pub first_fits : (m : ℕ) (p : Term) (n : ℕ) (q : Term) (none : Term) → none ≡ nothing → IsCanonical p.pairs → TermsFit m p n q → TermFits none (pos m) p
first_fits m p n q none e c h =
    subst (λ (t : Term). TermFits t (pos m) p) (sym e) (pairs_fit [] (pos m) p.pairs c (λ _. zero_fits) (λ x. once (pos m *ℤ coefficient x p.pairs) (h.0 x).0), once (pos m *ℤ p.constant) h.1.0)
  where
    once : (z : ℤ) → FitsSigned w128 z → FitsSigned w128 z × FitsSigned w128 (pos 0 +ℤ z)
    once z f = (f, subst (λ (y : ℤ). FitsSigned w128 y) (sym (alone z)) f)

pub second_fits : (m : ℕ) (p : Term) (n : ℕ) (q : Term) (part : Term) → IsPart m p part → IsCanonical q.pairs → TermsFit m p n q → TermFits part (pos n) q
second_fits m p n q part is c h =
    (pairs_fit part.pairs (pos n) q.pairs c (λ x. subst (λ (z : ℤ). FitsSigned w128 z) (sym (is.coefficients x)) (h.0 x).0) (λ x. subst (λ (z : ℤ). ScaledFits z (pos n) (coefficient x q.pairs)) (sym (is.coefficients x)) (h.0 x).1), subst (λ (z : ℤ). ScaledFits z (pos n) q.constant) (sym is.constant) h.1.1)

pub both_fit : (m : ℕ) (p : Term) (n : ℕ) (q : Term) (none part : Term) → none ≡ nothing → IsPart m p part → IsCanonical p.pairs → IsCanonical q.pairs → TermFits none (pos m) p → TermFits part (pos n) q → TermsFit m p n q
both_fit m p n q none part e is c d h k =
    let first : TermFits nothing (pos m) p = subst (λ (t : Term). TermFits t (pos m) p) e h in
    let at : (x : Var) → FitsSigned w128 (pos m *ℤ coefficient x p.pairs) = λ x. (pairs_everywhere [] (pos m) p.pairs c (λ _. zero_fits) first.0 x).0 in
    let then : (x : Var) → ScaledFits (coefficient x part.pairs) (pos n) (coefficient x q.pairs) = pairs_everywhere part.pairs (pos n) q.pairs d (λ x. subst (λ (z : ℤ). FitsSigned w128 z) (sym (is.coefficients x)) (at x)) k.0 in
    (λ x. (at x, subst (λ (z : ℤ). ScaledFits z (pos n) (coefficient x q.pairs)) (is.coefficients x) (then x)), (first.1.0, subst (λ (z : ℤ). ScaledFits z (pos n) q.constant) is.constant k.1))

-- ---- the two steps of a weighted sum: from nothing to the part, and from the part to the sum
pub sum_coefficients : (m n : ℕ) (p q part sum : Term) (by : ℤ) → by ≡ pos n → IsPart m p part →
    ((x : Var) → coefficient x sum.pairs ≡ (coefficient x part.pairs +ℤ (by *ℤ coefficient x q.pairs))) →
    (x : Var) → coefficient x sum.pairs ≡ ((pos m *ℤ coefficient x p.pairs) +ℤ (pos n *ℤ coefficient x q.pairs))
sum_coefficients m n p q part sum by by_is is h x =
    subst₂ (λ (y z : ℤ). coefficient x sum.pairs ≡ (y +ℤ (z *ℤ coefficient x q.pairs))) (is.coefficients x) by_is (h x)

pub sum_constant : (m n : ℕ) (p q part sum : Term) (by : ℤ) → by ≡ pos n → IsPart m p part →
    sum.constant ≡ (part.constant +ℤ (by *ℤ q.constant)) → sum.constant ≡ ((pos m *ℤ p.constant) +ℤ (pos n *ℤ q.constant))
sum_constant m n p q part sum by by_is is h =
    subst₂ (λ (y z : ℤ). sum.constant ≡ (y +ℤ (z *ℤ q.constant))) is.constant by_is h

-- ---- what divides each coefficient divides that of each pair
pub divides_pairs : (d : ℕ) (ps : List (Var × ℤ)) → IsCanonical ps → ((x : Var) → d ∣ unsigned_abs (coefficient x ps)) → DividesAll d ps
divides_pairs d ps c h = All-from_recursion (λ p. d ∣ unsigned_abs p.1) ps (at_pairs ps c h)
  where
    past : (p : Var × ℤ) (qs : List (Var × ℤ)) (x : Var) → IsCanonical (p ∷ qs) → d ∣ unsigned_abs (coefficient x (p ∷ qs)) → (t : Bool) → var_eq x p.0 ≡ t → d ∣ unsigned_abs (coefficient x qs)
    past p qs x k g true e = subst (λ (z : ℤ). d ∣ unsigned_abs z) (sym (below_first p qs x k e)) (dvd-zero d)
    past p qs x k g false e = subst (λ (z : ℤ). d ∣ unsigned_abs z) (coefficient-other x p qs e) g

    at_pairs : (qs : List (Var × ℤ)) → IsCanonical qs → ((x : Var) → d ∣ unsigned_abs (coefficient x qs)) → AllByRecursion (λ p. d ∣ unsigned_abs p.1) qs
    at_pairs [] k g = tt
    at_pairs (p ∷ qs) k g =
        (subst (λ (z : ℤ). d ∣ unsigned_abs z) (coefficient-first p qs k) (g p.0), at_pairs qs k.2 (λ x. past p qs x k (g x) (var_eq x p.0) refl))
