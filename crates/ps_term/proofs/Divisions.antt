-- Common factors of coefficients, and lists of pairs divided by them.
use Rattle.std.proofs.Common.{◌≡◌, ◌↔◌, ℕ, zero, suc, ◌+◌, ◌*◌, ◌/◌, ◌%◌, ◌<◌, ℤ, pos, negsuc, neg_ℤ, ◌+ℤ◌, ◌*ℤ◌, ◌≤ℤ◌, Bool, true, false, if◌then◌else◌, List, [], ◌∷◌, ◌++◌, length, get_or, take, All, unsigned_abs, refl, sym, ap, ◌∙◌, subst, arith, length-append}
use Rattle.std.specs.Int.{IsGcd, ◌∣◌}
use Rattle.std.proofs.lemmas.Int.{ints, unsigned_abs-mul}
use Rattle.std.proofs.lemmas.List.{take_more, get_or_append_left, get_or_at, get_or_default}
use Rattle.std.proofs.lemmas.List.Elements.{All-push, all_zip_more, All-head, All-tail, All-cons, All-nil}
use Rattle.std.proofs.lemmas.Nat.Gcd.{dvd_trans, dvd-zero, mod-eq-zero_of_dvd}
use Rattle.std.proofs.Math.Nat.{eq-one_of_dvd-one, eq-zero_of_zero-dvd, mul-dvd-mul_left, dvd_of_mul-dvd-mul_left}
use Rattle.ps_term.specs.declared.var.Var.{Var}
use Rattle.ps_term.specs.Factors.{AreDivided, DividesAll}
use Rattle.ps_term.specs.inner.Common.{IsCommonFactor}
use Rattle.ps_term.specs.Pairs.{IsBelow, IsCanonical, coefficient, pairs_value}
use Rattle.ps_term.specs.Tightened.{IsTightened}
use Rattle.ps_term.specs.Var.{var_eq}
use Rattle.ps_term.specs.declared.row.Row.{Row}
use Rattle.ps_term.specs.Whole.{IsCeiling}
use Rattle.ps_term.proofs.Ceilings.{times_mono}
use Rattle.ps_term.proofs.Ring.{distribute, assoc, mul-zero, one-mul}

-- ---- the common factor
all_front : {X : Type 0} (P : X → Type 0) (xs : List X) (x : X) → All P (xs ++ x ∷ []) → All P xs × P x
all_front P xs x h =
    (λ k d l. subst P (get_or_append_left xs (x ∷ []) d k l) (h k d (omega (arith, length-append xs (x ∷ [])))), subst P (get_or_at xs x [] x (length xs) refl) (h (length xs) x (omega (arith, length-append xs (x ∷ [])))))

pub IsCommonFactor-start : IsCommonFactor [] 0
IsCommonFactor-start = record { divides = λ k d h. absurd (omega arith); greatest = λ d h. dvd-zero d }

dividing_more : (f g : ℕ) (ps : List (Var × ℤ)) → g ∣ f → DividesAll f ps → DividesAll g ps
dividing_more f g ps h all k d l = dvd_trans g h (all k d l)

common_push : (ps : List (Var × ℤ)) (p : Var × ℤ) (f g : ℕ) → IsCommonFactor ps f → IsGcd f (unsigned_abs p.1) g → IsCommonFactor (ps ++ p ∷ []) g
common_push ps p f g c d =
    record {
      divides = All-push (λ q. g ∣ unsigned_abs q.1) ps p (dividing_more f g ps d.0 c.divides) d.1;
      greatest = λ e h. (let both = all_front (λ q. e ∣ unsigned_abs q.1) ps p h in d.2 e (c.greatest e both.0) both.1);
    }

pub IsCommonFactor-step : (ps : List (Var × ℤ)) (i : ℕ) (d : Var × ℤ) (f g : ℕ) → IsCommonFactor (take i ps) f → i < length ps → IsGcd f (unsigned_abs (get_or ps i d).1) g → IsCommonFactor (take (i + 1) ps) g
IsCommonFactor-step ps i d f g c l h = rw (take_more ps i d l) (common_push (take i ps) (get_or ps i d) f g c h)

zero_abs : (n : ℤ) → unsigned_abs n ≡ 0 → n ≡ pos 0
zero_abs (pos n) e = ap pos e
zero_abs (negsuc n) e = absurd (omega arith)

-- 0 divides all coefficients of no list but the empty one
pub zero_factor : (ps : List (Var × ℤ)) → IsCanonical ps → DividesAll 0 ps → ps ≡ []
zero_factor [] c h = refl
zero_factor (p ∷ ps) c h =
    absurd (c.0 (zero_abs p.1 (eq-zero_of_zero-dvd (All-head (λ q. 0 ∣ unsigned_abs q.1) p ps h))))

pub factor_of_none : (ps : List (Var × ℤ)) (f : ℕ) → IsCommonFactor ps f → ps ≡ [] → f ≡ 0
factor_of_none ps f c e =
    eq-zero_of_zero-dvd (c.greatest 0 (subst (λ (qs : List (Var × ℤ)). DividesAll 0 qs) (sym e) (λ k d h. absurd (omega arith))))

-- ---- exact division
multiple : (n : ℤ) (f : ℕ) → 0 < f → f ∣ unsigned_abs n → (m : ℤ) × (n ≡ (pos f *ℤ m))
multiple (pos n) f h d =
    let z : n % f ≡ 0 = mod-eq-zero_of_dvd f d in
    (pos (n / f), omega (arith, ints))
multiple (negsuc n) f h d =
    let z : suc n % f ≡ 0 = mod-eq-zero_of_dvd f d in
    (neg_ℤ (pos (suc n / f)), below (suc n / f) (omega (arith, z)))
  where
    below : (k : ℕ) → f * k ≡ suc n → negsuc n ≡ (pos f *ℤ neg_ℤ (pos k))
    below zero e = absurd (omega arith)
    below (suc k) e = omega (arith, ints)

pub exact_ceiling : (n : ℤ) (f : ℕ) (q : ℤ) → 0 < f → f ∣ unsigned_abs n → IsCeiling n (pos f) q → n ≡ (pos f *ℤ q)
exact_ceiling n f q h d c =
    let m = multiple n f h d in
    let low : q ≤ℤ m.0 = c.least m.0 (omega (arith, ints, m.1)) in
    let up = times_mono f q m.0 low in
    omega (arith, ints, up, m.1, c.reaches)

-- ---- divided lists
pub AreDivided-step : (f : ℕ) (ps : List (Var × ℤ)) (qs : List (Var × ℤ)) (i : ℕ) (d : Var × ℤ) (q : ℤ) → 0 < f → DividesAll f ps → i < length ps → AreDivided f (take i ps) qs → IsCeiling (get_or ps i d).1 (pos f) q → AreDivided f (take (i + 1) ps) (qs ++ ((get_or ps i d).0, q) ∷ [])
AreDivided-step f ps qs i d q h all l z c =
    let p = get_or ps i d in
    all_zip_more (λ r s. (s.0 ≡ r.0) × (r.1 ≡ (pos f *ℤ s.1))) ps qs i p (p.0, q) l (get_or_default ps i d p l) z (refl, exact_ceiling p.1 f q h (all i d l) c)

divided_below : (f : ℕ) (x y : Var) (ps qs : List (Var × ℤ)) → y ≡ x → AreDivided f ps qs → IsBelow x ps → IsBelow y qs
divided_below f x y [] [] e z b = tt
divided_below f x y [] (q ∷ qs) e z b = absurd z
divided_below f x y (p ∷ ps) [] e z b = absurd z
divided_below f x y (p ∷ ps) (q ∷ qs) e z b = rw (e, z.0.0) b

pub divided_canonical : (f : ℕ) (ps qs : List (Var × ℤ)) → AreDivided f ps qs → IsCanonical ps → IsCanonical qs
divided_canonical f [] [] z c = tt
divided_canonical f [] (q ∷ qs) z c = absurd z
divided_canonical f (p ∷ ps) [] z c = absurd z
divided_canonical f (p ∷ ps) (q ∷ qs) z c =
    (λ e. c.0 (z.0.1 ∙ (ap (λ (n : ℤ). pos f *ℤ n) e ∙ mul-zero (pos f))), divided_below f p.0 q.0 ps qs z.0.0 z.1 c.1, divided_canonical f ps qs z.1 c.2)

factor_if : (f : ℤ) (m n : ℤ) (t : Bool) → m ≡ (f *ℤ n) → (if t then m else pos 0) ≡ (f *ℤ (if t then n else pos 0))
factor_if f m n true e = e
factor_if f m n false e = sym (mul-zero f)

pub divided_coefficient : (f : ℕ) (x : Var) (ps qs : List (Var × ℤ)) → AreDivided f ps qs → coefficient x ps ≡ (pos f *ℤ coefficient x qs)
divided_coefficient f x [] [] z = sym (mul-zero (pos f))
divided_coefficient f x [] (q ∷ qs) z = absurd z
divided_coefficient f x (p ∷ ps) [] z = absurd z
divided_coefficient f x (p ∷ ps) (q ∷ qs) z =
    let front : (if var_eq x p.0 then p.1 else pos 0) ≡ (pos f *ℤ (if var_eq x q.0 then q.1 else pos 0)) = (rw z.0.0 (factor_if (pos f) p.1 q.1 (var_eq x p.0) z.0.1)) in
    omega (arith, ints, front, divided_coefficient f x ps qs z.1, distribute (pos f) (if var_eq x q.0 then q.1 else pos 0) (coefficient x qs))

pub divided_value : (f : ℕ) (v : Var → ℤ) (ps qs : List (Var × ℤ)) → AreDivided f ps qs → pairs_value v ps ≡ (pos f *ℤ pairs_value v qs)
divided_value f v [] [] z = sym (mul-zero (pos f))
divided_value f v [] (q ∷ qs) z = absurd z
divided_value f v (p ∷ ps) [] z = absurd z
divided_value f v (p ∷ ps) (q ∷ qs) z =
    let front : (p.1 *ℤ v p.0) ≡ ((pos f *ℤ q.1) *ℤ v q.0) = (rw (z.0.0, z.0.1) refl) in
    omega (arith, ints, front, assoc (pos f) q.1 (v q.0), divided_value f v ps qs z.1, distribute (pos f) (q.1 *ℤ v q.0) (pairs_value v qs))

-- what divides the new coefficients, times the factor, divides the old ones
divides_times : (f d : ℕ) (ps qs : List (Var × ℤ)) → AreDivided f ps qs → DividesAll d qs → DividesAll (f * d) ps
divides_times f d [] [] z h = All-nil (λ p. (f * d) ∣ unsigned_abs p.1)
divides_times f d [] (q ∷ qs) z h = absurd z
divides_times f d (p ∷ ps) [] z h = absurd z
divides_times f d (p ∷ ps) (q ∷ qs) z h =
    let size : unsigned_abs p.1 ≡ f * unsigned_abs q.1 = ap unsigned_abs z.0.1 ∙ unsigned_abs-mul (pos f) q.1 in
    All-cons (λ r. (f * d) ∣ unsigned_abs r.1) p ps (subst (λ (n : ℕ). (f * d) ∣ n) (sym size) (mul-dvd-mul_left d f (All-head (λ r. d ∣ unsigned_abs r.1) q qs h))) (divides_times f d ps qs z.1 (All-tail (λ r. d ∣ unsigned_abs r.1) q qs h))

pub divided_coprime : (f d : ℕ) (ps qs : List (Var × ℤ)) → 0 < f → IsCommonFactor ps f → AreDivided f ps qs → DividesAll d qs → d ≡ 1
divided_coprime f d ps qs h c z all =
    let times : (f * d) ∣ f = c.greatest (f * d) (divides_times f d ps qs z all) in
    let one : f ≡ f * 1 = omega arith in
    eq-one_of_dvd-one (dvd_of_mul-dvd-mul_left {k = f} d {n = 1} h (subst (λ (n : ℕ). (f * d) ∣ n) one times))

-- ---- the same whole-number solutions
minus : (f : ℕ) (p : ℤ) → (pos f *ℤ neg_ℤ p) ≡ neg_ℤ (pos f *ℤ p)
minus f p =
    let none : (p +ℤ neg_ℤ p) ≡ pos 0 = omega (arith, ints) in
    let e : (pos f *ℤ (p +ℤ neg_ℤ p)) ≡ pos 0 = ap (λ (z : ℤ). pos f *ℤ z) none ∙ mul-zero (pos f) in
    omega (arith, ints, e, distribute (pos f) p (neg_ℤ p))

pub same_solutions : (f : ℕ) (old new constant ceiling : ℤ) → old ≡ (pos f *ℤ new) → IsCeiling constant (pos f) ceiling → ((new +ℤ ceiling) ≤ℤ pos 0) ↔ ((old +ℤ constant) ≤ℤ pos 0)
same_solutions f old new constant ceiling e c =
    (λ h. (let up : (pos f *ℤ (new +ℤ ceiling)) ≤ℤ (pos f *ℤ pos 0) = times_mono f (new +ℤ ceiling) (pos 0) h in omega (arith, ints, up, mul-zero (pos f), distribute (pos f) new ceiling, c.reaches, e)), λ h. (let low : ceiling ≤ℤ neg_ℤ new = c.least (neg_ℤ new) (omega (arith, ints, minus f new, e, h)) in omega (arith, ints, low)))

-- ---- nothing in common
pub tight_itself : (row : Row) → IsCommonFactor row.term.pairs 1 → IsTightened row row
tight_itself row c = record {
  factor = 1;
  positive = omega arith;
  coefficients = λ x. sym (one-mul (coefficient x row.term.pairs));
  coprime = λ d all. eq-one_of_dvd-one (c.greatest d all);
  constant = record {
    reaches = omega (arith, ints, one-mul row.term.constant);
    least = λ m h. omega (arith, ints, one-mul m, h);
  };
}
