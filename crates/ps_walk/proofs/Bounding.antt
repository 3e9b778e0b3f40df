-- The bound that a row gives to a variable, from a division that rounds up.
use Rattle.std.proofs.Common.{◌≡◌, ◌≢◌, ◌↔◌, zero, suc, ◌<◌, ◌^◌, ℤ, pos, negsuc, neg_ℤ, ◌+ℤ◌, ◌*ℤ◌, ◌≤ℤ◌, ◌<ℤ◌, FitsSigned, Option, Some, None, IfSome, IfNone, SomeIff, false, refl, sym, ap, ◌∙◌, subst, arith}
use Rattle.std.specs.Int.{w128}
use Rattle.std.proofs.lemmas.Int.{ints}
use lib.Signed.{lt_z}
use Rattle.ps_term.specs.Whole.{IsCeiling}
use Rattle.ps_term.proofs.Ceilings.{times_mono}
use Rattle.ps_term.proofs.Ring.{distribute, distribute_right, mul-zero, zero-mul}

pub times_neg : (a n : ℤ) → (a *ℤ neg_ℤ n) ≡ neg_ℤ (a *ℤ n)
times_neg a n =
    let none : (n +ℤ neg_ℤ n) ≡ pos 0 = omega (arith, ints) in
    let e : (a *ℤ (n +ℤ neg_ℤ n)) ≡ pos 0 = ap (λ (z : ℤ). a *ℤ z) none ∙ mul-zero a in
    omega (arith, ints, e, distribute a n (neg_ℤ n))

neg_times : (a n : ℤ) → (neg_ℤ a *ℤ n) ≡ neg_ℤ (a *ℤ n)
neg_times a n =
    let none : (a +ℤ neg_ℤ a) ≡ pos 0 = omega (arith, ints) in
    let e : ((a +ℤ neg_ℤ a) *ℤ n) ≡ pos 0 = ap (λ (z : ℤ). z *ℤ n) none ∙ zero-mul n in
    omega (arith, ints, e, distribute_right a (neg_ℤ a) n)

-- with a positive coefficient the bound is above, the negation of a quotient rounded up
pub greatest_is : (a c q : ℤ) → pos 0 <ℤ a → IsCeiling c a q → (n : ℤ) → (((a *ℤ n) +ℤ c) ≤ℤ pos 0) ↔ (n ≤ℤ neg_ℤ q)
greatest_is (pos k) c q h w n =
    (λ le. (let up : q ≤ℤ neg_ℤ n = w.least (neg_ℤ n) (omega (arith, ints, times_neg (pos k) n, le)) in omega (arith, ints, up)), λ le. (let up : (pos k *ℤ q) ≤ℤ (pos k *ℤ neg_ℤ n) = times_mono k q (neg_ℤ n) (omega (arith, ints, le)) in omega (arith, ints, up, times_neg (pos k) n, w.reaches)))
greatest_is (negsuc k) c q h w n = absurd (omega (arith, ints))

-- with a negative one it is below, the quotient by the negation
pub least_is : (a b c q : ℤ) → a <ℤ pos 0 → b ≡ neg_ℤ a → IsCeiling c b q → (n : ℤ) → (((a *ℤ n) +ℤ c) ≤ℤ pos 0) ↔ (q ≤ℤ n)
least_is a (pos k) c q h e w n =
    let is : (pos k *ℤ n) ≡ neg_ℤ (a *ℤ n) = ap (λ (z : ℤ). z *ℤ n) e ∙ neg_times a n in
    (λ le. w.least n (omega (arith, ints, is, le)), λ le. (let up : (pos k *ℤ q) ≤ℤ (pos k *ℤ n) = times_mono k q n le in omega (arith, ints, up, is, w.reaches)))
least_is a (negsuc k) c q h e w n = absurd (omega (arith, ints, e))

-- a condition has one upper bound, and one lower bound, and not both
pub same_upper : (P : ℤ → Type 0) (u b : ℤ) → ((n : ℤ) → P n ↔ (n ≤ℤ u)) → ((n : ℤ) → P n ↔ (n ≤ℤ b)) → b ≡ u
same_upper P u b is other =
    let below : b ≤ℤ u = (is b).0 ((other b).1 (omega (arith, ints))) in
    let above : u ≤ℤ b = (other u).0 ((is u).1 (omega (arith, ints))) in
    omega (arith, ints, below, above)

pub same_lower : (P : ℤ → Type 0) (l b : ℤ) → ((n : ℤ) → P n ↔ (l ≤ℤ n)) → ((n : ℤ) → P n ↔ (b ≤ℤ n)) → b ≡ l
same_lower P l b is other =
    let below : l ≤ℤ b = (is b).0 ((other b).1 (omega (arith, ints))) in
    let above : b ≤ℤ l = (other l).0 ((is l).1 (omega (arith, ints))) in
    omega (arith, ints, below, above)

pub not_both : (P : ℤ → Type 0) (u l : ℤ) → ((n : ℤ) → P n ↔ (n ≤ℤ u)) → ((n : ℤ) → P n ↔ (l ≤ℤ n)) → ⊥
not_both P u l above below =
    let le : l ≤ℤ u = (above l).0 ((below l).1 (omega (arith, ints))) in
    let beyond : (u +ℤ pos 1) ≤ℤ u = (above (u +ℤ pos 1)).0 ((below (u +ℤ pos 1)).1 (omega (arith, ints, le))) in
    omega (arith, ints, beyond)

pub greatest_some : (o : Option ℤ) (a c q : ℤ) → pos 0 <ℤ a → IsCeiling c a q → SomeIff o (FitsSigned w128 (neg_ℤ q)) (neg_ℤ q) → IfSome o (λ u. (n : ℤ) → (((a *ℤ n) +ℤ c) ≤ℤ pos 0) ↔ (n ≤ℤ u))
greatest_some None a c q h w s = tt
greatest_some (Some u) a c q h w s =
    subst (λ (z : ℤ). (n : ℤ) → (((a *ℤ n) +ℤ c) ≤ℤ pos 0) ↔ (n ≤ℤ z)) (sym s.1) (greatest_is a c q h w)

pub greatest_none : (o : Option ℤ) (a c q : ℤ) → pos 0 <ℤ a → IsCeiling c a q → SomeIff o (FitsSigned w128 (neg_ℤ q)) (neg_ℤ q) → IfNone o ((u : ℤ) × ((n : ℤ) → (((a *ℤ n) +ℤ c) ≤ℤ pos 0) ↔ (n ≤ℤ u)) × ¬ FitsSigned w128 u)
greatest_none None a c q h w s = (neg_ℤ q, greatest_is a c q h w, s)
greatest_none (Some u) a c q h w s = tt

-- the one number that fits while its negation doesn't
pub least_number : (a : ℤ) → a <ℤ pos 0 → FitsSigned w128 a → ¬ FitsSigned w128 (neg_ℤ a) → a ≡ negsuc 170141183460469231731687303715884105727
least_number (pos n) lt f g = absurd (omega (arith, ints))
least_number (negsuc n) lt f g =
    let past : suc n < 2 ^ 127 → ⊥ = λ l. g (record { sfits = l }) in
    ap negsuc (omega (arith, past, f.sfits))

nonzero : (a : ℤ) → a ≢ pos 0 → a ≤ℤ pos 0 → a <ℤ pos 0
nonzero (pos zero) n h = absurd (n refl)
nonzero (pos (suc k)) n h = absurd (omega (arith, ints))
nonzero (negsuc k) n h = omega (arith, ints)

pub below_zero : (a : ℤ) → a ≢ pos 0 → lt_z (pos 0) a ≡ false → a <ℤ pos 0
below_zero a n h = nonzero a n (grind (arith, ints))
