-- Sums by variable: what was added, with what is left, is all.
use Rattle.std.proofs.Common.{◌≡◌, ◌+◌, ◌<◌, ◌≤◌, ℕ, suc, zero, ℤ, pos, ◌+ℤ◌, ◌*ℤ◌, Bool, true, false, if◌then◌else◌, List, [], ◌∷◌, ◌++◌, length, get_or, drop, refl, sym, ap, ◌∙◌, subst, arith}
use Rattle.std.specs.List.{AllByRecursion}
use Rattle.std.specs.List.Sorted.{IsPartitionedBy, IsPartitionPoint}
use Rattle.std.specs.Ordering.{int_eq}
use Rattle.std.proofs.lemmas.Bool.{false≢true}
use Rattle.std.proofs.lemmas.Bool.Decides.{Decides-int_eq}
use Rattle.std.proofs.lemmas.Int.{ints}
use Rattle.std.proofs.lemmas.List.{drop_more}
use Rattle.ps_term.specs.inner.Accumulated.{IsRising, standing}
use Rattle.ps_term.specs.inner.Front.{front_coefficient, is_first}
use Rattle.ps_term.specs.Pairs.{IsBelow, IsCanonical, coefficient, pairs_value}
use Rattle.ps_term.specs.Placed.{put}
use Rattle.ps_term.specs.Sums.{ScaledFits}
use Rattle.ps_term.specs.Var.{var_eq, var_lt}
use Rattle.ps_term.specs.declared.var.Var.{Var}
use Rattle.ps_term.proofs.Canonical.{IsBelowAll, IsBelowAll-canonical, IsBelow_trans, coefficient-below, coefficient-other}
use Rattle.ps_term.proofs.Placing.{IsPlace, front_before, front_beyond, next_place, stands_here, stands_within}
use Rattle.ps_term.proofs.Ring.{assoc, distribute, distribute_right, mul-zero, zero-mul}
use Rattle.ps_term.proofs.Uniqueness.{pairs_value-unit_at, unit_at}
use Rattle.ps_term.proofs.Variables.{var_eq-true, var_eq_refl, var_gt-var_eq, var_lt-var_eq, var_lt_or_gt, var_lt_trans}

-- ---- rising sums
below_rising : (x : Var) (ps : List (Var × ℤ)) → IsBelow x ps → IsRising ps → IsBelowAll x ps
below_rising x [] b c = tt
below_rising x (p ∷ ps) b c = (b, below_rising x ps (IsBelow_trans x p.0 ps b c.0) c.1)

past_first : (x : Var) (p : Var × ℤ) (ps : List (Var × ℤ)) → IsRising (p ∷ ps) → var_eq x p.0 ≡ true → coefficient x ps ≡ pos 0
past_first x p ps c e =
    coefficient-below x ps (subst (λ (y : Var). IsBelowAll y ps) (sym (var_eq-true x p.0 e)) (below_rising p.0 ps c.0 c.1))

-- ---- searches in the sums
rises : (x : Var) (ps : List (Var × ℤ)) (j : ℕ) (d : Var × ℤ) → IsBelowAll x ps → j < length ps → var_lt x (get_or ps j d).0 ≡ true
rises x [] j d b h = absurd (omega arith)
rises x (p ∷ ps) zero d b h = b.0
rises x (p ∷ ps) (suc j) d b h = rises x ps j d b.1 (omega arith)

ascending : (ps : List (Var × ℤ)) → IsRising ps → (i j : ℕ) (d : Var × ℤ) → i < j → j < length ps → var_lt (get_or ps i d).0 (get_or ps j d).0 ≡ true
ascending [] c i j d lt h = absurd (omega arith)
ascending (p ∷ ps) c i zero d lt h = absurd (omega arith)
ascending (p ∷ ps) c zero (suc j) d lt h = rises p.0 ps j d (below_rising p.0 ps c.0 c.1) (omega arith)
ascending (p ∷ ps) c (suc i) (suc j) d lt h = ascending ps c.1 i j d (omega arith) (omega arith)

pub parted_rising : (x : Var) (ps : List (Var × ℤ)) → IsRising ps → IsPartitionedBy (λ p. var_lt p.0 x) ps
parted_rising x [] c i j d le h up = absurd (omega arith)
parted_rising x (p ∷ ps) c zero zero d le h up = up
parted_rising x (p ∷ ps) c zero (suc j) d le h up =
    var_lt_trans p.0 (get_or ps j d).0 x (rises p.0 ps j d (below_rising p.0 ps c.0 c.1) (omega arith)) up
parted_rising x (p ∷ ps) c (suc i) zero d le h up = absurd (omega arith)
parted_rising x (p ∷ ps) c (suc i) (suc j) d le h up = parted_rising x ps c.1 i j d (omega arith) (omega arith) up

-- a place at which the variable stands parts the sums
pub parts_standing : (x : Var) (ps : List (Var × ℤ)) (i : ℕ) → IsRising ps → is_first x (drop i ps) ≡ true → IsPartitionPoint (λ p. var_lt p.0 x ≡ true) (λ p. var_lt p.0 x ≡ false) ps i
parts_standing x ps i c e = (before, beyond)
  where
    at : (d : Var × ℤ) → (get_or ps i d).0 ≡ x
    at d = stands_here x ps i d e

    below : (j k : ℕ) (d : Var × ℤ) → j < k → k < length ps → var_lt (get_or ps j d).0 (get_or ps k d).0 ≡ true
    below j k d lt h = ascending ps c j k d lt h

    before : (k : ℕ) (d : Var × ℤ) → 0 ≤ k → k < i → var_lt (get_or ps k d).0 x ≡ true
    before k d z lt = subst (λ (y : Var). var_lt (get_or ps k d).0 y ≡ true) (at d) (below k i d lt (stands_within x ps i e))

    beyond : (k : ℕ) (d : Var × ℤ) → i ≤ k → k < length ps → var_lt (get_or ps k d).0 x ≡ false
    beyond k d le h = by_test (var_lt (get_or ps k d).0 x) refl
      where
        by_test : (t : Bool) → var_lt (get_or ps k d).0 x ≡ t → var_lt (get_or ps k d).0 x ≡ false
        by_test false f = f
        by_test true f =
            let up : var_lt (get_or ps i d).0 x ≡ true = parted_rising x ps c i k d le h f in
            absurd (false≢true (sym (var_lt-var_eq x x (subst (λ (y : Var). var_lt y x ≡ true) (at d) up)) ∙ var_eq_refl x))

-- the sum of a variable is that at its place
pub sum_at_place : (x : Var) (ps : List (Var × ℤ)) (i : ℕ) → IsRising ps → IsPlace x ps i → front_coefficient x (drop i ps) ≡ coefficient x ps
sum_at_place x [] zero c w = refl
sum_at_place x [] (suc i) c w = refl
sum_at_place x (p ∷ ps) zero c w = at (var_eq x p.0) refl
  where
    at : (t : Bool) → var_eq x p.0 ≡ t → (if t then p.1 else pos 0) ≡ ((if t then p.1 else pos 0) +ℤ coefficient x ps)
    at true e = let none : coefficient x ps ≡ pos 0 = past_first x p ps c e in omega (arith, ints, none)
    at false e =
        let none : coefficient x ps ≡ pos 0 = coefficient-below x ps (below_rising x ps (IsBelow_trans x p.0 ps (front_beyond x p ps w e) c.0) c.1) in
        omega (arith, ints, none)
sum_at_place x (p ∷ ps) (suc i) c w =
    sum_at_place x ps i c.1 (next_place x p ps i w) ∙ sym (coefficient-other x p ps (var_gt-var_eq p.0 x (front_before x p ps i w)))

-- ---- one sum is put
below_with : (z x : Var) (n : ℤ) (p : Var × ℤ) (ps more : List (Var × ℤ)) (t u : Bool) → var_lt z x ≡ true → var_lt z p.0 ≡ true → IsBelow z (if t then (x, n) ∷ ps else (if u then (x, n) ∷ p ∷ ps else p ∷ more))
below_with z x n p ps more true u h k = h
below_with z x n p ps more false true h k = h
below_with z x n p ps more false false h k = k

put_below : (z x : Var) (n : ℤ) (ps : List (Var × ℤ)) → var_lt z x ≡ true → IsBelow z ps → IsBelow z (put x n ps)
put_below z x n [] h k = h
put_below z x n (p ∷ ps) h k = below_with z x n p ps (put x n ps) (var_eq x p.0) (var_lt x p.0) h k

rising_by : (x : Var) (n : ℤ) (p : Var × ℤ) (ps more : List (Var × ℤ)) (t u : Bool) → var_eq x p.0 ≡ t → var_lt x p.0 ≡ u → IsRising (p ∷ ps) → (var_lt p.0 x ≡ true → IsBelow p.0 more) → IsRising more → IsRising (if t then (x, n) ∷ ps else (if u then (x, n) ∷ p ∷ ps else p ∷ more))
rising_by x n p ps more true u e f c b m = (subst (λ (y : Var). IsBelow y ps) (sym (var_eq-true x p.0 e)) c.0, c.1)
rising_by x n p ps more false true e f c b m = (f, c)
rising_by x n p ps more false false e f c b m = (b (var_lt_or_gt x p.0 e f), m)

pub put_rising : (x : Var) (n : ℤ) (ps : List (Var × ℤ)) → IsRising ps → IsRising (put x n ps)
put_rising x n [] c = (tt, tt)
put_rising x n (p ∷ ps) c =
    rising_by x n p ps (put x n ps) (var_eq x p.0) (var_lt x p.0) refl refl c (λ gt. put_below p.0 x n ps gt c.0) (put_rising x n ps c.1)

value_by : (v : Var → ℤ) (x : Var) (n : ℤ) (p : Var × ℤ) (ps : List (Var × ℤ)) → IsRising (p ∷ ps) → (pairs_value v (put x n ps) +ℤ (coefficient x ps *ℤ v x)) ≡ (pairs_value v ps +ℤ (n *ℤ v x)) → (t u : Bool) → var_eq x p.0 ≡ t → var_lt x p.0 ≡ u
    → (pairs_value v (if t then (x, n) ∷ ps else (if u then (x, n) ∷ p ∷ ps else p ∷ put x n ps)) +ℤ (((if t then p.1 else pos 0) +ℤ coefficient x ps) *ℤ v x)) ≡ (pairs_value v (p ∷ ps) +ℤ (n *ℤ v x))
value_by v x n p ps c rest true u e f =
    let here : x ≡ p.0 = var_eq-true x p.0 e in
    let none : (coefficient x ps *ℤ v x) ≡ pos 0 = ap (λ (z : ℤ). z *ℤ v x) (past_first x p ps c e) ∙ zero-mul (v x) in
    let old : (p.1 *ℤ v x) ≡ (p.1 *ℤ v p.0) = ap (λ (y : Var). p.1 *ℤ v y) here in
    omega (arith, ints, none, old, distribute_right p.1 (coefficient x ps) (v x))
value_by v x n p ps c rest false true e f =
    let below : coefficient x ps ≡ pos 0 = coefficient-below x ps (below_rising x ps (IsBelow_trans x p.0 ps f c.0) c.1) in
    let none : (coefficient x ps *ℤ v x) ≡ pos 0 = ap (λ (z : ℤ). z *ℤ v x) below ∙ zero-mul (v x) in
    omega (arith, ints, none, zero-mul (v x), distribute_right (pos 0) (coefficient x ps) (v x))
value_by v x n p ps c rest false false e f =
    omega (arith, ints, rest, zero-mul (v x), distribute_right (pos 0) (coefficient x ps) (v x))

put_value : (v : Var → ℤ) (x : Var) (n : ℤ) (ps : List (Var × ℤ)) → IsRising ps → (pairs_value v (put x n ps) +ℤ (coefficient x ps *ℤ v x)) ≡ (pairs_value v ps +ℤ (n *ℤ v x))
put_value v x n [] c = omega (arith, ints, zero-mul (v x))
put_value v x n (p ∷ ps) c =
    value_by v x n p ps c (put_value v x n ps c.1) (var_eq x p.0) (var_lt x p.0) refl refl

added_value : (v : Var → ℤ) (x : Var) (by n : ℤ) (ps : List (Var × ℤ)) → IsRising ps → pairs_value v (put x (coefficient x ps +ℤ (by *ℤ n)) ps) ≡ (pairs_value v ps +ℤ (by *ℤ (n *ℤ v x)))
added_value v x by n ps c =
    omega (arith, ints, put_value v x (coefficient x ps +ℤ (by *ℤ n)) ps c, distribute_right (coefficient x ps) (by *ℤ n) (v x), assoc by n (v x))

-- the sums of other variables stay
other_sum : (y x : Var) (m : ℤ) (ps : List (Var × ℤ)) → IsRising ps → var_eq y x ≡ false → coefficient y (put x m ps) ≡ coefficient y ps
other_sum y x m ps c e =
    let zero_here : unit_at y x ≡ pos 0 = rw e refl in
    let old : (coefficient x ps *ℤ unit_at y x) ≡ pos 0 = ap (λ (z : ℤ). coefficient x ps *ℤ z) zero_here ∙ mul-zero (coefficient x ps) in
    let new : (m *ℤ unit_at y x) ≡ pos 0 = ap (λ (z : ℤ). m *ℤ z) zero_here ∙ mul-zero m in
    omega (arith, ints, put_value (unit_at y) x m ps c, old, new, pairs_value-unit_at y ps, pairs_value-unit_at y (put x m ps))

-- ---- pairs are added one by one
abbrev pub FitBy : List (Var × ℤ) → ℤ → List (Var × ℤ) → Type 0
FitBy left by right = AllByRecursion (λ p. ScaledFits (coefficient p.0 left) by p.1) right

pub record Added (by : ℤ) (start pairs sums rest : List (Var × ℤ)) : Type 0 where
  pub rising : IsRising sums
  pub canonical : IsCanonical rest
  pub worth : (v : Var → ℤ) → (pairs_value v sums +ℤ (by *ℤ pairs_value v rest)) ≡ (pairs_value v start +ℤ (by *ℤ pairs_value v pairs))
  pub fits : FitBy sums by rest → FitBy start by pairs
  pub fit : FitBy start by pairs → FitBy sums by rest

pub Added-start : (by : ℤ) (start pairs : List (Var × ℤ)) → IsRising start → IsCanonical pairs → Added by start pairs start pairs
Added-start by start pairs c d = record { rising = c; canonical = d; worth = λ v. refl; fits = λ h. h; fit = λ h. h }

refit : (by : ℤ) (left other qs : List (Var × ℤ)) → AllByRecursion (λ q. coefficient q.0 left ≡ coefficient q.0 other) qs → FitBy left by qs → FitBy other by qs
refit by left other [] same h = tt
refit by left other (q ∷ qs) same h =
    (subst (λ (z : ℤ). ScaledFits z by q.1) same.0 h.0, refit by left other qs same.1 h.1)

turned : (left other qs : List (Var × ℤ)) → AllByRecursion (λ q. coefficient q.0 left ≡ coefficient q.0 other) qs → AllByRecursion (λ q. coefficient q.0 other ≡ coefficient q.0 left) qs
turned left other [] same = tt
turned left other (q ∷ qs) same = (sym same.0, turned left other qs same.1)

others_stay : (x : Var) (m : ℤ) (sums qs : List (Var × ℤ)) → IsRising sums → IsBelowAll x qs → AllByRecursion (λ q. coefficient q.0 (put x m sums) ≡ coefficient q.0 sums) qs
others_stay x m sums [] c b = tt
others_stay x m sums (q ∷ qs) c b =
    (other_sum q.0 x m sums c (var_gt-var_eq x q.0 b.0), others_stay x m sums qs c b.1)

pub Added-turn : (by : ℤ) (start pairs sums new : List (Var × ℤ)) (q : Var × ℤ) (rest : List (Var × ℤ)) → Added by start pairs sums (q ∷ rest) → new ≡ put q.0 (coefficient q.0 sums +ℤ (by *ℤ q.1)) sums → ScaledFits (coefficient q.0 sums) by q.1 → Added by start pairs new rest
Added-turn by start pairs sums new q rest a is fits =
    let m : ℤ = coefficient q.0 sums +ℤ (by *ℤ q.1) in
    let stay : AllByRecursion (λ r. coefficient r.0 (put q.0 m sums) ≡ coefficient r.0 sums) rest = others_stay q.0 m sums rest a.rising (IsBelowAll-canonical q.0 rest a.canonical.1 a.canonical.2) in
    subst (λ (ss : List (Var × ℤ)). Added by start pairs ss rest) (sym is) (record {
      rising = put_rising q.0 m sums a.rising;
      canonical = a.canonical.2;
      worth = λ v. omega (arith, ints, a.worth v, added_value v q.0 by q.1 sums a.rising, distribute by (q.1 *ℤ v q.0) (pairs_value v rest));
      fits = λ h. a.fits (fits, refit by (put q.0 m sums) sums rest stay h);
      fit = λ h. refit by sums (put q.0 m sums) rest (turned (put q.0 m sums) sums rest stay) (a.fit h).1;
    })

-- the same at a place of the pairs
pub Added-step : (by : ℤ) (start pairs sums new : List (Var × ℤ)) (i : ℕ) (d : Var × ℤ) → Added by start pairs sums (drop i pairs) → i < length pairs → new ≡ put (get_or pairs i d).0 (coefficient (get_or pairs i d).0 sums +ℤ (by *ℤ (get_or pairs i d).1)) sums → ScaledFits (coefficient (get_or pairs i d).0 sums) by (get_or pairs i d).1 → Added by start pairs new (drop (i + 1) pairs)
Added-step by start pairs sums new i d a l is fits =
    Added-turn by start pairs sums new (get_or pairs i d) (drop (i + 1) pairs) (subst (λ (qs : List (Var × ℤ)). Added by start pairs sums qs) (drop_more pairs i d l) a) is fits

pub Added-refused : (by : ℤ) (start pairs sums : List (Var × ℤ)) (i : ℕ) (d : Var × ℤ) → Added by start pairs sums (drop i pairs) → i < length pairs → ¬ ScaledFits (coefficient (get_or pairs i d).0 sums) by (get_or pairs i d).1 → ¬ FitBy start by pairs
Added-refused by start pairs sums i d a l past h =
    let here : FitBy sums by (get_or pairs i d ∷ drop (i + 1) pairs) = subst (λ (qs : List (Var × ℤ)). FitBy sums by qs) (drop_more pairs i d l) (a.fit h) in
    past here.0

pub Added-end : (by : ℤ) (start pairs sums rest : List (Var × ℤ)) → Added by start pairs sums rest → rest ≡ [] → (v : Var → ℤ) → pairs_value v sums ≡ (pairs_value v start +ℤ (by *ℤ pairs_value v pairs))
Added-end by start pairs sums rest a e v =
    let none : (by *ℤ pairs_value v rest) ≡ pos 0 = ap (λ (qs : List (Var × ℤ)). by *ℤ pairs_value v qs) e ∙ mul-zero by in
    omega (arith, ints, a.worth v, none)

-- ---- the sums that aren't 0
standing_below : (x : Var) (ps : List (Var × ℤ)) → IsBelowAll x ps → IsBelow x (standing ps)
standing_below x [] b = tt
standing_below x (p ∷ ps) b = by_test (standing_below x ps b.1) (int_eq p.1 (pos 0))
  where
    by_test : IsBelow x (standing ps) → (t : Bool) → IsBelow x ((if t then [] else (p.0, p.1) ∷ []) ++ standing ps)
    by_test rest true = rest
    by_test rest false = b.0

standing_by : (p : Var × ℤ) (ps : List (Var × ℤ)) → IsBelow p.0 ps → IsCanonical ps → (t : Bool) → int_eq p.1 (pos 0) ≡ t → IsCanonical ((if t then [] else (p.0, p.1) ∷ []) ++ ps)
standing_by p ps b c true e = c
standing_by p ps b c false e = ((λ z. false≢true (sym e ∙ (Decides-int_eq p.1 (pos 0)).1 z)), b, c)

pub standing_canonical : (ps : List (Var × ℤ)) → IsRising ps → IsCanonical (standing ps)
standing_canonical [] c = tt
standing_canonical (p ∷ ps) c =
    standing_by p (standing ps) (standing_below p.0 ps (below_rising p.0 ps c.0 c.1)) (standing_canonical ps c.1) (int_eq p.1 (pos 0)) refl

kept_by : (v : Var → ℤ) (p : Var × ℤ) (ps : List (Var × ℤ)) (t : Bool) → int_eq p.1 (pos 0) ≡ t → pairs_value v ((if t then [] else (p.0, p.1) ∷ []) ++ ps) ≡ ((p.1 *ℤ v p.0) +ℤ pairs_value v ps)
kept_by v p ps true e =
    let none : p.1 ≡ pos 0 = (Decides-int_eq p.1 (pos 0)).0 e in
    let nothing : (p.1 *ℤ v p.0) ≡ pos 0 = ap (λ (z : ℤ). z *ℤ v p.0) none ∙ zero-mul (v p.0) in
    omega (arith, ints, nothing)
kept_by v p ps false e = refl

pub standing_value : (v : Var → ℤ) (ps : List (Var × ℤ)) → pairs_value v (standing ps) ≡ pairs_value v ps
standing_value v [] = refl
standing_value v (p ∷ ps) =
    kept_by v p (standing ps) (int_eq p.1 (pos 0)) refl ∙ ap (λ (z : ℤ). (p.1 *ℤ v p.0) +ℤ z) (standing_value v ps)
