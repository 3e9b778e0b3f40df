-- Vectors of multipliers as sums of rows.
use Rattle.std.proofs.Common.{◌≡◌, ◌≢◌, ℕ, zero, suc, ◌+◌, ◌*◌, ◌/◌, ◌^◌, ◌<◌, ◌≤◌, ℤ, pos, negsuc, ◌+ℤ◌, ◌*ℤ◌, ◌≤ℤ◌, ◌==◌, eq-eqb, eqb-true, Bool, true, false, if◌then◌else◌, List, [], ◌∷◌, length, map, get_or, set, replicate, All, FitsSigned, unsigned_abs, refl, sym, ap, ap₂, ◌∙◌, subst, subst₂, arith, inl, inr, ◌⊎◌}
use Rattle.std.specs.Int.{w128, ◌∣◌}
use Rattle.std.specs.List.{AllByRecursion, AllZip, range_with_len}
use Rattle.std.proofs.lemmas.Bool.{cases_eq, cases_lt, ne_eqb}
use Rattle.std.proofs.lemmas.Int.{ints, unsigned_abs-mul}
use Rattle.std.proofs.lemmas.List.{get_or-replicate, get_or-set_other, get_or-set_same, get_or_past, length-replicate, length-set, same_lists}
use Rattle.std.proofs.lemmas.List.Elements.{recursion_from_All}
use Rattle.std.proofs.lemmas.List.FromFn.{get_or-map-range_with_len, get_or-range_with_len, length-map-range_with_len, length-range_with_len}
use Rattle.std.proofs.lemmas.Nat.Gcd.{dvd_antisymm, dvd-zero}
use Rattle.std.proofs.Math.Nat.{mul-div_cancel_left}
use Rattle.ps_elim.specs.Combining.{WeightedFits, weighted_entries}
use Rattle.ps_elim.specs.Divisors.{divisor_of_all}
use Rattle.ps_elim.specs.inner.Entries.{AreEntries, IsPlace, entries_of, entry_at}
use Rattle.ps_elim.specs.inner.Weights.{TermsFit}
use Rattle.ps_elim.proofs.Gcds.{divisor_of_all-common, divisor_of_all-greatest}
use Rattle.ps_elim.proofs.Rows.{below_first, divides_pairs, zero_fits}
use Rattle.ps_elim.proofs.Sums.{length-weighted_entries, product_zero}
use Rattle.ps_term.specs.Factors.{DividesAll}
use Rattle.ps_term.specs.inner.Common.{IsCommonFactor}
use Rattle.ps_term.specs.Pairs.{IsCanonical, coefficient}
use Rattle.ps_term.specs.Term.{variable_term}
use Rattle.ps_term.specs.Var.{var_eq}
use Rattle.ps_term.specs.declared.term.Term.{Term}
use Rattle.ps_term.specs.declared.var.Var.{Var}
use Rattle.ps_term.specs.declared.var.Var.TheVariants.{Global, Local, Havoc}
use Rattle.ps_term.proofs.Canonical.{coefficient-other, coefficient-same}
use Rattle.ps_term.proofs.Ring.{mul-zero}

-- ---- numbers
magnitude : (z : ℤ) → pos 0 ≤ℤ z → z ≡ pos (unsigned_abs z)
magnitude (pos n) h = refl
magnitude (negsuc n) h = absurd (omega (arith, ints, h))

zero_or_not : (z : ℤ) → (z ≡ pos 0) ⊎ (z ≢ pos 0)
zero_or_not (pos zero) = inl refl
zero_or_not (pos (suc n)) = inr (λ e. omega (arith, ints, e))
zero_or_not (negsuc n) = inr (λ e. omega (arith, ints, e))

-- ---- the entries
pub length-entries_of : (t : Term) (n : ℕ) → length (entries_of t n) ≡ n
length-entries_of t n = length-map-range_with_len (entry_at t) 0 n

pub get_or-entries_of : (t : Term) (n k d : ℕ) → k < n → get_or (entries_of t n) k d ≡ entry_at t k
get_or-entries_of t n k d h = get_or-map-range_with_len (entry_at t) 0 n k k d h (omega arith)

pub coefficient_is : (t : Term) (n : ℕ) → AreEntries t n → (k : ℕ) → coefficient (Global k) t.pairs ≡ pos (entry_at t k)
coefficient_is t n h k = magnitude (coefficient (Global k) t.pairs) (h.positive (Global k))

pub none_elsewhere : (t : Term) (n : ℕ) → AreEntries t n → (x : Var) → ¬ IsPlace x n → coefficient x t.pairs ≡ pos 0
none_elsewhere t n h x absent = elim (zero_or_not (coefficient x t.pairs)) [ inl e ↦ e | inr d ↦ absurd (absent (h.within x d)) ]

pub none_past : (t : Term) (n : ℕ) → AreEntries t n → (k : ℕ) → n ≤ k → entry_at t k ≡ 0
none_past t n h k l = ap unsigned_abs (none_elsewhere t n h (Global k) (λ m. omega (arith, l, m)))

pub get_or-all_entries : (t : Term) (n k : ℕ) → AreEntries t n → get_or (entries_of t n) k 0 ≡ entry_at t k
get_or-all_entries t n k h = elim (cases_lt k n) [
  | inl l ↦ get_or-entries_of t n k 0 l
  | inr g ↦ get_or_past (entries_of t n) k 0 (omega (arith, g, length-entries_of t n)) ∙ sym (none_past t n h k g)
]

-- two vectors of one length have as many places
pub same_places : (p q : Term) (m n : ℕ) (u v : List ℕ) → entries_of p m ≡ u → entries_of q n ≡ v → length u ≡ length v → n ≡ m
same_places p q m n u v e f h =
    sym (length-entries_of q n) ∙ (ap (λ (ns : List ℕ). length ns) f ∙ (sym h ∙ (sym (ap (λ (ns : List ℕ). length ns) e) ∙ length-entries_of p m)))

-- what holds at each place, and of what is 0, holds of each variable
pub at_each : (P : Var → Type 0) (n : ℕ) → ((k : ℕ) → k < n → P (Global k)) → ((x : Var) → ¬ IsPlace x n → P x) → (x : Var) → P x
at_each P n here elsewhere (Global k) = elim (cases_lt k n) [ inl l ↦ here k l | inr g ↦ elsewhere (Global k) (λ m. omega (arith, g, m)) ]
at_each P n here elsewhere (Local s m) = elsewhere (Local s m) (λ absent. absent)
at_each P n here elsewhere (Havoc m) = elsewhere (Havoc m) (λ absent. absent)

-- ---- the vector of one row
abbrev unit_at : (t : Bool) → ℕ
unit_at t = unsigned_abs ((if t then pos 1 else pos 0) +ℤ pos 0)

pub unit_is : (place n : ℕ) → place < n → entries_of (variable_term (Global place)) n ≡ set (replicate n 0) place 1
unit_is place n l = same_lists (entries_of (variable_term (Global place)) n) (set (replicate n 0) place 1) (length-entries_of (variable_term (Global place)) n ∙ sym long) at
  where
    long : length {A = ℕ} (set (replicate n 0) place 1) ≡ n
    long = length-set {A = ℕ} (replicate n 0) place 1 ∙ length-replicate {A = ℕ} n 0

    at : (k d : ℕ) → k < length (entries_of (variable_term (Global place)) n) → get_or (entries_of (variable_term (Global place)) n) k d ≡ get_or (set (replicate n 0) place 1) k d
    at k d m =
        let within : k < n = omega (arith, m, length-entries_of (variable_term (Global place)) n) in
        get_or-entries_of (variable_term (Global place)) n k d within ∙ sym (by_place within (cases_eq k place))
      where
        by_place : k < n → (k ≡ place) ⊎ (k ≡ place → ⊥) → get_or (set (replicate n 0) place 1) k d ≡ unsigned_abs ((if k == place then pos 1 else pos 0) +ℤ pos 0)
        by_place within (inl e) =
            ap (λ (i : ℕ). get_or (set (replicate n 0) place 1) i d) e ∙ (get_or-set_same (replicate n 0) place 1 d (omega (arith, l, length-replicate {A = ℕ} n 0)) ∙ sym (ap unit_at (eq-eqb k place e)))
        by_place within (inr o) =
            get_or-set_other (replicate n 0) place k 1 d o ∙ (get_or-replicate n k 0 d within ∙ sym (ap unit_at (ne_eqb k place o)))

one_or_none : (t : Bool) → pos 0 ≤ℤ ((if t then pos 1 else pos 0) +ℤ pos 0)
one_or_none true = omega (arith, ints)
one_or_none false = omega (arith, ints)

only_there : (t : Bool) → ((if t then pos 1 else pos 0) +ℤ pos 0) ≢ pos 0 → t ≡ true
only_there true h = refl
only_there false h = absurd (h refl)

unit_within : (place n : ℕ) → place < n → (x : Var) → coefficient x (variable_term (Global place)).pairs ≢ pos 0 → IsPlace x n
unit_within place n l (Global k) h = let same : k ≡ place = eqb-true k place (only_there (k == place) h) in omega (arith, l, same)
unit_within place n l (Local s m) h = h refl
unit_within place n l (Havoc m) h = h refl

pub unit_entries : (place n : ℕ) → place < n → n ≤ 2 ^ 32 → AreEntries (variable_term (Global place)) n
unit_entries place n l few = record {
  few = few;
  constant = refl;
  positive = λ x. one_or_none (var_eq x (Global place));
  within = unit_within place n l;
}

-- ---- a weighted sum
abbrev pub EntriesFit : ℕ → ℕ → List ℕ → List ℕ → Type 0
EntriesFit m n = AllZip (λ i j. WeightedFits m (pos i) n (pos j))

pub record IsWeightedSum (m : ℕ) (p : Term) (n : ℕ) (q sum : Term) : Type 0 where
  pub coefficients : (x : Var) → coefficient x sum.pairs ≡ ((pos m *ℤ coefficient x p.pairs) +ℤ (pos n *ℤ coefficient x q.pairs))
  pub constant : sum.constant ≡ ((pos m *ℤ p.constant) +ℤ (pos n *ℤ q.constant))

sum_of_none : (m n : ℕ) (a b : ℤ) → a ≡ pos 0 → b ≡ pos 0 → ((pos m *ℤ a) +ℤ (pos n *ℤ b)) ≡ pos 0
sum_of_none m n a b e f =
    ap₂ (λ (x y : ℤ). (pos m *ℤ x) +ℤ (pos n *ℤ y)) e f ∙ omega (arith, ints, mul-zero (pos m), mul-zero (pos n))

sum_positive : (m n : ℕ) (a b : ℤ) → pos 0 ≤ℤ a → pos 0 ≤ℤ b → pos 0 ≤ℤ ((pos m *ℤ a) +ℤ (pos n *ℤ b))
sum_positive m n (pos i) (pos j) h k = omega (arith, ints)
sum_positive m n (pos i) (negsuc j) h k = absurd (omega (arith, ints, k))
sum_positive m n (negsuc i) b h k = absurd (omega (arith, ints, h))

pub sum_entries : (m : ℕ) (p : Term) (n : ℕ) (q sum : Term) (places : ℕ) → AreEntries p places → AreEntries q places → IsWeightedSum m p n q sum → AreEntries sum places
sum_entries m p n q sum places h k s = record {
  few = h.few;
  constant = s.constant ∙ sum_of_none m n p.constant q.constant h.constant k.constant;
  positive = λ x. subst (λ (z : ℤ). pos 0 ≤ℤ z) (sym (s.coefficients x)) (sum_positive m n (coefficient x p.pairs) (coefficient x q.pairs) (h.positive x) (k.positive x));
  within = λ x d. within x d (zero_or_not (coefficient x p.pairs)) (zero_or_not (coefficient x q.pairs));
}
  where
    within : (x : Var) → coefficient x sum.pairs ≢ pos 0 → (coefficient x p.pairs ≡ pos 0) ⊎ (coefficient x p.pairs ≢ pos 0) → (coefficient x q.pairs ≡ pos 0) ⊎ (coefficient x q.pairs ≢ pos 0) → IsPlace x places
    within x d (inr a) b = h.within x a
    within x d (inl a) (inr b) = k.within x b
    within x d (inl a) (inl b) = absurd (d (s.coefficients x ∙ sum_of_none m n (coefficient x p.pairs) (coefficient x q.pairs) a b))

get_or-weighted_entries : (m : ℕ) (u : List ℕ) (n : ℕ) (v : List ℕ) (k d : ℕ) → length u ≡ length v → k < length u → get_or (weighted_entries m u n v) k d ≡ (m * get_or u k d) + (n * get_or v k d)
get_or-weighted_entries m [] n v k d e l = absurd (omega arith)
get_or-weighted_entries m (i ∷ u) n [] k d e l = absurd (omega arith)
get_or-weighted_entries m (i ∷ u) n (j ∷ v) zero d e l = refl
get_or-weighted_entries m (i ∷ u) n (j ∷ v) (suc k) d e l = get_or-weighted_entries m u n v k d (omega arith) (omega arith)

sum_entry : (m : ℕ) (p : Term) (n : ℕ) (q sum : Term) (places : ℕ) → AreEntries p places → AreEntries q places → IsWeightedSum m p n q sum → (k : ℕ) → entry_at sum k ≡ (m * entry_at p k) + (n * entry_at q k)
sum_entry m p n q sum places h g s k =
    ap unsigned_abs (s.coefficients (Global k) ∙ ap₂ (λ (x y : ℤ). (pos m *ℤ x) +ℤ (pos n *ℤ y)) (coefficient_is p places h k) (coefficient_is q places g k))

pub sum_is : (m : ℕ) (p : Term) (n : ℕ) (q sum : Term) (places : ℕ) → AreEntries p places → AreEntries q places → IsWeightedSum m p n q sum → entries_of sum places ≡ weighted_entries m (entries_of p places) n (entries_of q places)
sum_is m p n q sum places h g s = same_lists (entries_of sum places) (weighted_entries m (entries_of p places) n (entries_of q places)) (length-entries_of sum places ∙ sym (length-weighted_entries m (entries_of p places) n (entries_of q places) same ∙ length-entries_of p places)) at
  where
    same : length (entries_of p places) ≡ length (entries_of q places)
    same = length-entries_of p places ∙ sym (length-entries_of q places)

    at : (k d : ℕ) → k < length (entries_of sum places) → get_or (entries_of sum places) k d ≡ get_or (weighted_entries m (entries_of p places) n (entries_of q places)) k d
    at k d l =
        let within : k < places = omega (arith, l, length-entries_of sum places) in
        let right : get_or (weighted_entries m (entries_of p places) n (entries_of q places)) k d ≡ (m * get_or (entries_of p places) k d) + (n * get_or (entries_of q places) k d) = get_or-weighted_entries m (entries_of p places) n (entries_of q places) k d same (omega (arith, within, length-entries_of p places)) in
        get_or-entries_of sum places k d within ∙ (sum_entry m p n q sum places h g s k ∙ sym (right ∙ ap₂ (λ (x y : ℕ). (m * x) + (n * y)) (get_or-entries_of p places k d within) (get_or-entries_of q places k d within)))

small_entry : (z : ℤ) → pos 0 ≤ℤ z → FitsSigned w128 z → unsigned_abs z < 2 ^ 127
small_entry (pos n) h f = let within = f.sfits in omega (arith, ints, within)
small_entry (negsuc n) h f = absurd (omega (arith, ints, h))

pub sum_small : (m : ℕ) (p : Term) (n : ℕ) (q sum : Term) (places : ℕ) → AreEntries sum places → IsWeightedSum m p n q sum → TermsFit m p n q → All (λ n. n < 2 ^ 127) (entries_of sum places)
sum_small m p n q sum places h s f k d l =
    let fits : FitsSigned w128 (coefficient (Global k) sum.pairs) = subst (λ (z : ℤ). FitsSigned w128 z) (sym (s.coefficients (Global k))) (f.0 (Global k)).1.1 in
    subst (λ (i : ℕ). i < 2 ^ 127) (sym (get_or-entries_of sum places k d (omega (arith, l, length-entries_of sum places)))) (small_entry (coefficient (Global k) sum.pairs) (h.positive (Global k)) fits)

zip_of : (R : ℕ → ℕ → Type 0) (f g : ℕ → ℕ) (ks : List ℕ) → ((k : ℕ) → R (f k) (g k)) → AllZip R (map f ks) (map g ks)
zip_of R f g [] h = tt
zip_of R f g (k ∷ ks) h = (h k, zip_of R f g ks h)

at_zip : (R : ℕ → ℕ → Type 0) (f g : ℕ → ℕ) (ks : List ℕ) (i : ℕ) → i < length ks → AllZip R (map f ks) (map g ks) → R (f (get_or ks i 0)) (g (get_or ks i 0))
at_zip R f g [] i l h = absurd (omega arith)
at_zip R f g (k ∷ ks) zero l h = h.0
at_zip R f g (k ∷ ks) (suc i) l h = at_zip R f g ks i (omega arith) h.1

pub entries_fit : (m : ℕ) (p : Term) (n : ℕ) (q : Term) (places : ℕ) → AreEntries p places → AreEntries q places → TermsFit m p n q → EntriesFit m n (entries_of p places) (entries_of q places)
entries_fit m p n q places h g f = zip_of (λ i j. WeightedFits m (pos i) n (pos j)) (entry_at p) (entry_at q) (range_with_len 0 places) (λ k. subst₂ (λ (x y : ℤ). WeightedFits m x n y) (coefficient_is p places h k) (coefficient_is q places g k) (f.0 (Global k)))

none_fits : (m n : ℕ) (a b : ℤ) → a ≡ pos 0 → b ≡ pos 0 → WeightedFits m a n b
none_fits m n a b e f =
    let first : (pos m *ℤ a) ≡ pos 0 = ap (λ (x : ℤ). pos m *ℤ x) e ∙ mul-zero (pos m) in
    let second : (pos n *ℤ b) ≡ pos 0 = ap (λ (x : ℤ). pos n *ℤ x) f ∙ mul-zero (pos n) in
    let both : ((pos m *ℤ a) +ℤ (pos n *ℤ b)) ≡ pos 0 = sum_of_none m n a b e f in
    (subst (λ (z : ℤ). FitsSigned w128 z) (sym first) zero_fits, (subst (λ (z : ℤ). FitsSigned w128 z) (sym second) zero_fits, subst (λ (z : ℤ). FitsSigned w128 z) (sym both) zero_fits))

pub terms_fit : (m : ℕ) (p : Term) (n : ℕ) (q : Term) (places : ℕ) → AreEntries p places → AreEntries q places → EntriesFit m n (entries_of p places) (entries_of q places) → TermsFit m p n q
terms_fit m p n q places h g f = (at_each (λ x. WeightedFits m (coefficient x p.pairs) n (coefficient x q.pairs)) places here (λ x absent. none_fits m n (coefficient x p.pairs) (coefficient x q.pairs) (none_elsewhere p places h x absent) (none_elsewhere q places g x absent)), none_fits m n p.constant q.constant h.constant g.constant)
  where
    here : (k : ℕ) → k < places → WeightedFits m (coefficient (Global k) p.pairs) n (coefficient (Global k) q.pairs)
    here k l =
        let place : get_or (range_with_len 0 places) k 0 ≡ k = get_or-range_with_len 0 places k 0 l ∙ omega arith in
        let at : WeightedFits m (pos (entry_at p (get_or (range_with_len 0 places) k 0))) n (pos (entry_at q (get_or (range_with_len 0 places) k 0))) = at_zip (λ i j. WeightedFits m (pos i) n (pos j)) (entry_at p) (entry_at q) (range_with_len 0 places) k (omega (arith, l, length-range_with_len 0 places)) f in
        subst₂ (λ (x y : ℤ). WeightedFits m x n y) (sym (coefficient_is p places h k)) (sym (coefficient_is q places g k)) (subst (λ (i : ℕ). WeightedFits m (pos (entry_at p i)) n (pos (entry_at q i))) place at)

-- ---- what divides the entries
pub divides_coefficients : (d : ℕ) (t : Term) (places : ℕ) → AreEntries t places → All (λ n. d ∣ n) (entries_of t places) → (x : Var) → d ∣ unsigned_abs (coefficient x t.pairs)
divides_coefficients d t places h all = at_each (λ x. d ∣ unsigned_abs (coefficient x t.pairs)) places (λ k l. subst (λ (n : ℕ). d ∣ n) (get_or-entries_of t places k 0 l) (all k 0 (omega (arith, l, length-entries_of t places)))) (λ x absent. subst (λ (z : ℤ). d ∣ unsigned_abs z) (sym (none_elsewhere t places h x absent)) (dvd-zero d))

divides_coefficient : (d : ℕ) (ps : List (Var × ℤ)) → IsCanonical ps → AllByRecursion (λ p. d ∣ unsigned_abs p.1) ps → (x : Var) → d ∣ unsigned_abs (coefficient x ps)
divides_coefficient d [] c h x = dvd-zero d
divides_coefficient d (p ∷ ps) c h x = by_test (var_eq x p.0) refl (divides_coefficient d ps c.2 h.1 x)
  where
    by_test : (t : Bool) → var_eq x p.0 ≡ t → d ∣ unsigned_abs (coefficient x ps) → d ∣ unsigned_abs (coefficient x (p ∷ ps))
    by_test true e rest =
        let none : coefficient x ps ≡ pos 0 = below_first p ps x c e in
        let here : coefficient x (p ∷ ps) ≡ p.1 = coefficient-same x p ps e ∙ omega (arith, ints, none) in
        subst (λ (z : ℤ). d ∣ unsigned_abs z) (sym here) h.0
    by_test false e rest = subst (λ (z : ℤ). d ∣ unsigned_abs z) (sym (coefficient-other x p ps e)) rest

pub divisor_is : (t : Term) (places factor : ℕ) → AreEntries t places → IsCanonical t.pairs → IsCommonFactor t.pairs factor → factor ≡ divisor_of_all (entries_of t places)
divisor_is t places factor h c common =
    let all : All (λ n. factor ∣ n) (entries_of t places) = λ k d l. subst (λ (n : ℕ). factor ∣ n) (sym (get_or-entries_of t places k d (omega (arith, l, length-entries_of t places)))) (divides_coefficient factor t.pairs c (recursion_from_All (λ p. factor ∣ unsigned_abs p.1) t.pairs common.divides) (Global k)) in
    let pairs : DividesAll (divisor_of_all (entries_of t places)) t.pairs = divides_pairs (divisor_of_all (entries_of t places)) t.pairs c (divides_coefficients (divisor_of_all (entries_of t places)) t places h (divisor_of_all-common (entries_of t places))) in
    dvd_antisymm (divisor_of_all-greatest (entries_of t places) factor all) (common.greatest (divisor_of_all (entries_of t places)) pairs)

-- ---- division
pub record IsQuotient (d : ℕ) (old new : Term) : Type 0 where
  pub coefficients : (x : Var) → coefficient x old.pairs ≡ (pos d *ℤ coefficient x new.pairs)
  pub constant : old.constant ≡ (pos d *ℤ new.constant)

quotient_positive : (d : ℕ) (z : ℤ) → 0 < d → pos 0 ≤ℤ (pos d *ℤ z) → pos 0 ≤ℤ z
quotient_positive d (pos n) l h = omega (arith, ints)
quotient_positive zero (negsuc n) l h = absurd (omega arith)
quotient_positive (suc d) (negsuc n) l h = absurd (omega (arith, ints, h))

pub quotient_entries : (d : ℕ) (old new : Term) (places : ℕ) → 0 < d → AreEntries old places → IsQuotient d old new → AreEntries new places
quotient_entries d old new places l h q = record {
  few = h.few;
  constant = product_zero d new.constant l (sym q.constant ∙ h.constant);
  positive = λ x. quotient_positive d (coefficient x new.pairs) l (subst (λ (z : ℤ). pos 0 ≤ℤ z) (q.coefficients x) (h.positive x));
  within = λ x o. h.within x (λ e. o (product_zero d (coefficient x new.pairs) l (sym (q.coefficients x) ∙ e)));
}

quotient_entry : (d : ℕ) (old new : Term) → 0 < d → IsQuotient d old new → (k : ℕ) → entry_at new k ≡ entry_at old k / d
quotient_entry d old new l q k =
    let product : entry_at old k ≡ d * entry_at new k = ap unsigned_abs (q.coefficients (Global k)) ∙ unsigned_abs-mul (pos d) (coefficient (Global k) new.pairs) in
    sym (ap (λ (n : ℕ). n / d) product ∙ mul-div_cancel_left (entry_at new k) l)

same_maps : (f g h : ℕ → ℕ) → ((k : ℕ) → f k ≡ h (g k)) → (ks : List ℕ) → map f ks ≡ map h (map g ks)
same_maps f g h e [] = refl
same_maps f g h e (k ∷ ks) = ap₂ (λ (n : ℕ) (ns : List ℕ). n ∷ ns) (e k) (same_maps f g h e ks)

pub quotient_is : (d : ℕ) (old new : Term) (places : ℕ) → 0 < d → IsQuotient d old new → entries_of new places ≡ map (λ n. n / d) (entries_of old places)
quotient_is d old new places l q = same_maps (entry_at new) (entry_at old) (λ n. n / d) (quotient_entry d old new l q) (range_with_len 0 places)
