-- Division that rounds up, from bounds on the multiple that it gives.
use Rattle.std.proofs.Common.{◌≡◌, ℕ, zero, suc, ◌+◌, ◌-◌, ◌*◌, ◌<◌, ◌/◌, ℤ, pos, negsuc, neg_ℤ, ◌+ℤ◌, ◌*ℤ◌, ◌≤ℤ◌, ◌<ℤ◌, min, ◌%◌, unsigned_abs, refl, sym, subst₂, arith, ap}
use Rattle.std.specs.Int.{div_ceil}
use Rattle.std.proofs.lemmas.Int.{ints, by_lt_z}
use Rattle.std.proofs.lemmas.Grind.{div_ceil_times}
use Rattle.ps_term.specs.Whole.{IsCeiling}
use Rattle.ps_term.proofs.Ring.{distribute, mul-zero}

-- a greater number has a greater multiple
difference : (m n : ℤ) → m ≤ℤ n → (k : ℕ) × (n ≡ (m +ℤ pos k))
difference (pos m) (pos n) h = (n - m, omega (arith, ints))
difference (pos m) (negsuc n) h = absurd (omega (arith, ints))
difference (negsuc m) (pos n) h = (n + m + 1, omega (arith, ints))
difference (negsuc m) (negsuc n) h = (m - n, omega (arith, ints))

pub times_mono : (b : ℕ) (m n : ℤ) → m ≤ℤ n → (pos b *ℤ m) ≤ℤ (pos b *ℤ n)
times_mono b m n h =
    let d = difference m n h in
    let e : (pos b *ℤ n) ≡ (pos b *ℤ (m +ℤ pos d.0)) = ap (λ (z : ℤ). pos b *ℤ z) d.1 in
    let p : (pos b *ℤ pos d.0) ≡ pos (b * d.0) = omega (arith, ints) in
    omega (arith, ints, e, p, distribute (pos b) m (pos d.0))

least_from : (a : ℤ) (b : ℕ) (q m : ℤ) → (pos b *ℤ q) <ℤ (a +ℤ pos b) → a ≤ℤ (pos b *ℤ m) → q ≤ℤ m
least_from a b q m below h = by_lt_z {P = q ≤ℤ m} m q (λ lt. absurd (beyond lt)) (λ le. le)
  where
    beyond : m <ℤ q → ⊥
    beyond lt =
        let up : (pos b *ℤ (m +ℤ pos 1)) ≤ℤ (pos b *ℤ q) = times_mono b (m +ℤ pos 1) q (omega (arith, ints)) in
        let one : (pos b *ℤ pos 1) ≡ pos b = omega (arith, ints) in
        omega (arith, ints, up, one, distribute (pos b) m (pos 1))

pub ceiling_from : (a : ℤ) (b : ℕ) (q : ℤ) → a ≤ℤ (pos b *ℤ q) → (pos b *ℤ q) <ℤ (a +ℤ pos b) → IsCeiling a (pos b) q
ceiling_from a b q reaches below = record { reaches = reaches; least = λ m h. least_from a b q m below h }

abs_positive : (a : ℤ) → pos 1 ≤ℤ a → a ≡ pos (unsigned_abs a)
abs_positive (pos n) h = refl
abs_positive (negsuc n) h = absurd (omega (arith, ints))

abs_negative : (a : ℤ) → a ≤ℤ pos 0 → a ≡ neg_ℤ (pos (unsigned_abs a))
abs_negative (pos zero) h = refl
abs_negative (pos (suc n)) h = absurd (omega (arith, ints))
abs_negative (negsuc n) h = refl

pub ceiling_of_positive : (n b : ℕ) → 0 < b → IsCeiling (pos n) (pos b) (pos (n / b + min 1 (n % b)))
ceiling_of_positive n b h =
    let t = div_ceil_times n b h in
    ceiling_from (pos n) b (pos (n / b + min 1 (n % b))) (omega (arith, ints, t)) (omega (arith, ints, t))

minus_times : (b k : ℕ) → (pos b *ℤ neg_ℤ (pos k)) ≡ neg_ℤ (pos (b * k))
minus_times b zero = omega (arith, ints, mul-zero (pos b))
minus_times b (suc k) = omega (arith, ints)

pub ceiling_of_negative : (n b : ℕ) → 0 < b → IsCeiling (neg_ℤ (pos n)) (pos b) (neg_ℤ (pos (n / b)))
ceiling_of_negative n b h =
    ceiling_from (neg_ℤ (pos n)) b (neg_ℤ (pos (n / b))) (omega (arith, ints, minus_times b (n / b))) (omega (arith, ints, minus_times b (n / b)))

pub positive_ceiling : (a : ℤ) (b q : ℕ) → pos 1 ≤ℤ a → 0 < b → q ≡ div_ceil (unsigned_abs a) b → IsCeiling a (pos b) (pos q)
positive_ceiling a b q h k e =
    subst₂ (λ (n : ℤ) (m : ℕ). IsCeiling n (pos b) (pos m)) (sym (abs_positive a h)) (sym e) (ceiling_of_positive (unsigned_abs a) b k)

pub negative_ceiling : (a : ℤ) (b q : ℕ) → a ≤ℤ pos 0 → 0 < b → q ≡ unsigned_abs a / b → IsCeiling a (pos b) (neg_ℤ (pos q))
negative_ceiling a b q h k e =
    subst₂ (λ (n : ℤ) (m : ℕ). IsCeiling n (pos b) (neg_ℤ (pos m))) (sym (abs_negative a h)) (sym e) (ceiling_of_negative (unsigned_abs a) b k)
