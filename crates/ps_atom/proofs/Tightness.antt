-- A row has one tightened row: Gauss's lemma on lists of coefficients, and the same for multiples of a row.
use Rattle.std.proofs.Common.{◌≡◌, ◌≢◌, ◌+◌, ◌-◌, ◌*◌, ◌/◌, ◌%◌, ◌<◌, ◌≤◌, ℕ, ℤ, pos, ◌+ℤ◌, ◌*ℤ◌, ◌≤ℤ◌, ◌<ℤ◌, unsigned_abs, List, [], ◌∷◌, sym, ap, ◌∙◌, subst, suc, zero, arith}
use Rattle.std.specs.Int.{◌∣◌}
use Rattle.std.specs.List.{AllByRecursion}
use Rattle.std.proofs.Math.Nat.{dvd-add, dvd-sub, dvd-mul_right_of_dvd, dvd-mul_right, div-add-mod}
use Rattle.std.proofs.lemmas.Int.{ints, by_lt_z, unsigned_abs-mul}
use Rattle.std.proofs.lemmas.List.Elements.{All-from_recursion}
use Rattle.std.proofs.lemmas.Nat.Gcd.{dvd_refl, dvd-zero, dvd_trans, dvd_antisymm}
use Rattle.ps_term.specs.declared.row.Row.{Row}
use Rattle.ps_term.specs.declared.var.Var.{Var}
use Rattle.ps_term.specs.Factors.{DividesAll}
use Rattle.ps_term.specs.Pairs.{IsCanonical, coefficient}
use Rattle.ps_term.specs.Tightened.{IsTightened}
use Rattle.ps_term.specs.Whole.{IsCeiling}
use Rattle.ps_term.proofs.Canonical.{IsBelowAll, IsBelowAll-canonical, coefficient-other}
use Rattle.ps_term.proofs.Ceilings.{times_mono}
use Rattle.ps_term.proofs.Ring.{assoc, distribute}
use Rattle.ps_term.proofs.Uniqueness.{coefficient-first, same_coefficients}
use Rattle.ps_term.proofs.Variables.{var_gt-var_eq}

-- ---- a common divisor through which each one goes, scaled too
record HasDivisor (a b : ℕ) : Type 0 where
  pub divisor : ℕ
  pub left : divisor ∣ a
  pub right : divisor ∣ b
  pub scaled : (d k : ℕ) → d ∣ k * a → d ∣ k * b → d ∣ k * divisor

rest_scaled : (k q b r a : ℕ) → b * q + r ≡ a → k * a - k * b * q ≡ k * r
rest_scaled k q b r a e =
    let whole : k * a ≡ k * (b * q + r) = ap (λ n. k * n) (sym e) in
    omega (arith, whole)

divisor_of : (fuel a b : ℕ) → b ≤ fuel → HasDivisor a b
divisor_of fuel a zero h = record { divisor = a; left = dvd_refl a; right = dvd-zero a; scaled = λ d k l r. l }
divisor_of zero a (suc b) h = absurd (omega (arith, h))
divisor_of (suc fuel) a (suc b) h =
    let less : a % suc b < suc b = omega arith in
    let r = divisor_of fuel (suc b) (a % suc b) (omega (arith, less, h)) in
    record {
      divisor = r.divisor;
      left = subst (λ (n : ℕ). r.divisor ∣ n) (div-add-mod a (suc b)) (dvd-add r.divisor (dvd-mul_right_of_dvd r.divisor r.left (a / suc b)) r.right);
      right = r.left;
      scaled = λ d k l m. r.scaled d k m (subst (λ (n : ℕ). d ∣ n) (rest_scaled k (a / suc b) (suc b) (a % suc b) a (div-add-mod a (suc b))) (dvd-sub d l (dvd-mul_right_of_dvd d m (a / suc b))));
    }

-- each number of the pairs, k-fold, has the divisor
abbrev pub DividesScaled : ℕ → ℕ → List (Var × ℤ) → Type 0
DividesScaled d k ps = AllByRecursion (λ p. d ∣ k * unsigned_abs p.1) ps

record HasListDivisor (ps : List (Var × ℤ)) : Type 0 where
  pub divisor : ℕ
  pub divides : AllByRecursion (λ p. divisor ∣ unsigned_abs p.1) ps
  pub scaled : (d k : ℕ) → DividesScaled d k ps → d ∣ k * divisor

through : (d e : ℕ) (ps : List (Var × ℤ)) → d ∣ e → AllByRecursion (λ p. e ∣ unsigned_abs p.1) ps → AllByRecursion (λ p. d ∣ unsigned_abs p.1) ps
through d e [] h a = tt
through d e (p ∷ ps) h a = (dvd_trans d h a.0, through d e ps h a.1)

list_divisor : (ps : List (Var × ℤ)) → HasListDivisor ps
list_divisor [] = record { divisor = 0; divides = tt; scaled = λ d k a. (let e : 0 ≡ k * 0 = omega arith in subst (λ (n : ℕ). d ∣ n) e (dvd-zero d)) }
list_divisor (p ∷ ps) =
    let r = list_divisor ps in
    let g = divisor_of r.divisor (unsigned_abs p.1) r.divisor (omega arith) in
    record {
      divisor = g.divisor;
      divides = (g.left, through g.divisor r.divisor ps g.right r.divides);
      scaled = λ d k a. g.scaled d k a.0 (r.scaled d k a.1);
    }

abbrev pub IsCoprime : List (Var × ℤ) → Type 0
IsCoprime ps = (d : ℕ) → DividesAll d ps → d ≡ 1

pub coprime_scaled : (ps : List (Var × ℤ)) (d k : ℕ) → IsCoprime ps → DividesScaled d k ps → d ∣ k
coprime_scaled ps d k coprime a =
    let r = list_divisor ps in
    let one : r.divisor ≡ 1 = coprime r.divisor (All-from_recursion (λ p. r.divisor ∣ unsigned_abs p.1) ps r.divides) in
    let e : k * r.divisor ≡ k = ap (λ n. k * n) one ∙ omega arith in
    subst (λ (n : ℕ). d ∣ n) e (r.scaled d k a)

pub same_factor : (ps qs : List (Var × ℤ)) (f g : ℕ) → IsCoprime ps → IsCoprime qs → DividesScaled g f ps → DividesScaled f g qs → f ≡ g
same_factor ps qs f g c d a b = dvd_antisymm (coprime_scaled qs f g d b) (coprime_scaled ps g f c a)

-- ---- coefficients of members
pub all_members : (ps : List (Var × ℤ)) → IsCanonical ps → AllByRecursion (λ p. coefficient p.0 ps ≡ p.1) ps
all_members [] c = tt
all_members (p ∷ ps) c = (coefficient-first p ps c, later ps (IsBelowAll-canonical p.0 ps c.1 c.2) (all_members ps c.2))
  where
    later : (qs : List (Var × ℤ)) → IsBelowAll p.0 qs → AllByRecursion (λ q. coefficient q.0 ps ≡ q.1) qs → AllByRecursion (λ q. coefficient q.0 (p ∷ ps) ≡ q.1) qs
    later [] h a = tt
    later (q ∷ qs) h a = (coefficient-other q.0 p ps (var_gt-var_eq p.0 q.0 h.0) ∙ a.0, later qs h.1 a.1)

abs_times : (f : ℕ) (n : ℤ) → unsigned_abs (pos f *ℤ n) ≡ f * unsigned_abs n
abs_times f n = unsigned_abs-mul (pos f) n

scaled_by : (f g : ℕ) (m n : ℤ) → (pos f *ℤ m) ≡ (pos g *ℤ n) → f ∣ g * unsigned_abs n
scaled_by f g m n e =
    subst (λ (k : ℕ). f ∣ k) (sym (abs_times f m) ∙ (ap unsigned_abs e ∙ abs_times g n)) (dvd-mul_right f (unsigned_abs m))

-- where each coefficient's multiple is also a multiple by f
pub divides_scaled : (f g : ℕ) (ps : List (Var × ℤ)) → IsCanonical ps → ((x : Var) → coefficient x ps ≢ pos 0 → (m : ℤ) × ((pos f *ℤ m) ≡ (pos g *ℤ coefficient x ps))) → DividesScaled f g ps
divides_scaled f g ps c h = go ps (all_nonzero ps c) (all_members ps c)
  where
    all_nonzero : (qs : List (Var × ℤ)) → IsCanonical qs → AllByRecursion (λ q. q.1 ≢ pos 0) qs
    all_nonzero [] d = tt
    all_nonzero (q ∷ qs) d = (d.0, all_nonzero qs d.2)

    go : (qs : List (Var × ℤ)) → AllByRecursion (λ q. q.1 ≢ pos 0) qs → AllByRecursion (λ q. coefficient q.0 ps ≡ q.1) qs → DividesScaled f g qs
    go [] z a = tt
    go (q ∷ qs) z a = ((let m = h q.0 (λ e. z.0 (sym a.0 ∙ e)) in scaled_by f g m.0 q.1 (m.1 ∙ ap (λ (n : ℤ). pos g *ℤ n) a.0)), go qs z.1 a.1)

-- ---- cancelling
pub cancel_le : (f : ℕ) (m n : ℤ) → 1 ≤ f → (pos f *ℤ m) ≤ℤ (pos f *ℤ n) → m ≤ℤ n
cancel_le f m n h le = by_lt_z {P = m ≤ℤ n} n m (λ lt. absurd (beyond lt)) (λ ok. ok)
  where
    beyond : n <ℤ m → ⊥
    beyond lt =
        let up : (pos f *ℤ (n +ℤ pos 1)) ≤ℤ (pos f *ℤ m) = times_mono f (n +ℤ pos 1) m (omega (arith, ints)) in
        let one : (pos f *ℤ pos 1) ≡ pos f = omega (arith, ints) in
        omega (arith, ints, up, one, h, le, distribute (pos f) n (pos 1))

pub cancel : (f : ℕ) (m n : ℤ) → 1 ≤ f → (pos f *ℤ m) ≡ (pos f *ℤ n) → m ≡ n
cancel f m n h e =
    let a : m ≤ℤ n = cancel_le f m n h (omega (arith, ints, e)) in
    let b : n ≤ℤ m = cancel_le f n m h (omega (arith, ints, e)) in
    omega (arith, ints)

pub same_ceiling : (c d q r : ℤ) → IsCeiling c d q → IsCeiling c d r → q ≡ r
same_ceiling c d q r a b =
    let le : q ≤ℤ r = a.least r b.reaches in
    let ge : r ≤ℤ q = b.least q a.reaches in
    omega (arith, ints)

pub row_is : (a b : Row) → a.term.pairs ≡ b.term.pairs → a.term.constant ≡ b.term.constant → a ≡ b
row_is a b p c = λ i. record { term = record { pairs = p i; constant = c i } }

pub same_tight : (old a b : Row) → IsTightened old a → IsTightened old b → IsCanonical a.term.pairs → IsCanonical b.term.pairs → a ≡ b
same_tight old a b s t c d =
    let factors : s.factor ≡ t.factor = same_factor a.term.pairs b.term.pairs s.factor t.factor s.coprime t.coprime (divides_scaled t.factor s.factor a.term.pairs c (λ x n. (coefficient x b.term.pairs, sym (t.coefficients x) ∙ s.coefficients x))) (divides_scaled s.factor t.factor b.term.pairs d (λ x n. (coefficient x a.term.pairs, sym (s.coefficients x) ∙ t.coefficients x))) in
    let pairs : a.term.pairs ≡ b.term.pairs = same_coefficients a.term.pairs b.term.pairs c d (λ x. cancel t.factor (coefficient x a.term.pairs) (coefficient x b.term.pairs) t.positive (subst (λ (f : ℕ). (pos f *ℤ coefficient x a.term.pairs) ≡ (pos t.factor *ℤ coefficient x b.term.pairs)) factors (sym (s.coefficients x) ∙ t.coefficients x))) in
    let constant : a.term.constant ≡ b.term.constant = same_ceiling old.term.constant (pos t.factor) a.term.constant b.term.constant (subst (λ (f : ℕ). IsCeiling old.term.constant (pos f) a.term.constant) factors s.constant) t.constant in
    row_is a b pairs constant

-- ---- a multiple of a row
pub multiple_tight : (k : ℕ) (old new tight : Row) → 1 ≤ k → ((x : Var) → coefficient x new.term.pairs ≡ (pos k *ℤ coefficient x old.term.pairs)) → new.term.constant ≡ (pos k *ℤ old.term.constant) → IsTightened old tight → IsTightened new tight
multiple_tight k old new tight h scaled constant t =
    let product : (pos k *ℤ pos t.factor) ≡ pos (k * t.factor) = omega (arith, ints) in
    record {
      factor = k * t.factor;
      positive = one_le k t.factor h t.positive;
      coefficients = λ x. scaled x ∙ (ap (λ (n : ℤ). pos k *ℤ n) (t.coefficients x) ∙ (sym (assoc (pos k) (pos t.factor) (coefficient x tight.term.pairs)) ∙ ap (λ (f : ℤ). f *ℤ coefficient x tight.term.pairs) product));
      coprime = t.coprime;
      constant = subst (λ (n : ℤ). IsCeiling n (pos (k * t.factor)) tight.term.constant) (sym constant) (subst (λ (f : ℤ). IsCeiling (pos k *ℤ old.term.constant) f tight.term.constant) product (record {
        reaches = subst (λ (n : ℤ). (pos k *ℤ old.term.constant) ≤ℤ n) (sym (assoc (pos k) (pos t.factor) tight.term.constant)) (times_mono k old.term.constant (pos t.factor *ℤ tight.term.constant) t.constant.reaches);
        least = λ m le. t.constant.least m (cancel_le k old.term.constant (pos t.factor *ℤ m) h (subst (λ (n : ℤ). (pos k *ℤ old.term.constant) ≤ℤ n) (assoc (pos k) (pos t.factor) m) le));
      }));
    }
  where
    one_le : (a b : ℕ) → 1 ≤ a → 1 ≤ b → 1 ≤ a * b
    one_le (suc a) (suc b) g j = omega arith
    one_le zero b g j = absurd (omega (arith, g))
    one_le a zero g j = absurd (omega (arith, j))
