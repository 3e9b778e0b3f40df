-- A binary search in canonical pairs: what stands before its place and from it on.
use Rattle.std.proofs.Common.{◌≡◌, ◌≤◌, ◌-◌, ◌≢◌, ◌⊎◌, ℕ, suc, zero, ◌<◌, ◌+◌, ℤ, pos, ◌+ℤ◌, Bool, true, false, not, List, [], ◌∷◌, ◌++◌, length, get_or, take, drop, Option, Some, None, IfSome, refl, sym, ap, ◌∙◌, subst, inl, inr, arith, take-append-drop, get_or-take, get_or-drop, length-take, length-drop}
use Rattle.std.specs.List.{AllByRecursion, AllWithin}
use Rattle.std.specs.List.Sorted.{IsPartitionedBy, IsPartitionPoint}
use Rattle.std.proofs.lemmas.Bool.{true≢false, false≢true, cases_eq}
use Rattle.std.proofs.lemmas.Int.{ints}
use Rattle.std.proofs.lemmas.List.Elements.{recursion_from_All, All-from_recursion}
use Rattle.ps_term.specs.declared.var.Var.{Var}
use Rattle.ps_term.specs.Var.{var_lt, var_eq}
use Rattle.ps_term.specs.inner.Front.{first_variable, front_coefficient}
use Rattle.ps_term.specs.inner.Bound.{is_within, up_to}
use Rattle.ps_term.specs.declared.bound.Bound.{Bound}
use Rattle.ps_term.specs.declared.bound.Bound.TheVariants.{Before, UpTo, Nothing}
use Rattle.ps_term.specs.Lookup.{is_up_to, IsAfter, IsBefore}
use Rattle.ps_term.specs.Pairs.{IsBelow, IsCanonical, coefficient}
use Rattle.ps_term.proofs.Variables.{var_eq-true, var_gt-var_eq, var_lt_or_gt, var_lt_trans}
use Rattle.ps_term.proofs.Canonical.{IsBelowAll, IsBelowAll-canonical, IsAtOrBelow, coefficient-other, coefficient-below, coefficient-front, IsCanonical-suffix}
use Rattle.ps_term.proofs.Uniqueness.{coefficient-first}

-- ---- the tests of the searches hold of a first part
rises : (ps : List (Var × ℤ)) (i j : ℕ) (d : Var × ℤ) → IsCanonical ps → i < j → j < length ps → var_lt (get_or ps i d).0 (get_or ps j d).0 ≡ true
rises [] i j d c lt h = absurd (omega arith)
rises (p ∷ ps) i zero d c lt h = absurd (omega arith)
rises (p ∷ ps) zero (suc j) d c lt h =
    let below : IsBelowAll p.0 ps = IsBelowAll-canonical p.0 ps c.1 c.2 in
    All-from_recursion (λ q. var_lt p.0 q.0 ≡ true) ps below j d (omega arith)
rises (p ∷ ps) (suc i) (suc j) d c lt h = rises ps i j d c.2 (omega arith) (omega arith)

parted : (t : Var → Bool) → ((x y : Var) → var_lt x y ≡ true → t y ≡ true → t x ≡ true) → (ps : List (Var × ℤ)) → IsCanonical ps → IsPartitionedBy (λ p. t p.0) ps
parted t falls ps c i j d le h up = by_order (cases_eq i j)
  where
    by_order : (i ≡ j) ⊎ (i ≡ j → ⊥) → t (get_or ps i d).0 ≡ true
    by_order (inl e) = subst (λ (k : ℕ). t (get_or ps k d).0 ≡ true) (sym e) up
    by_order (inr n) = falls (get_or ps i d).0 (get_or ps j d).0 (rises ps i j d c (omega arith) h) up

is_up_to-falls : (last : Option Var) (x y : Var) → var_lt x y ≡ true → is_up_to last y ≡ true → is_up_to last x ≡ true
is_up_to-falls None x y lt up = absurd (false≢true up)
is_up_to-falls (Some z) x y lt up = by_test (var_lt z x) refl
  where
    by_test : (t : Bool) → var_lt z x ≡ t → not t ≡ true
    by_test false e = refl
    by_test true e = absurd (false≢true (sym (ap not (var_lt_trans z x y e lt)) ∙ up))

-- a bound is passed by a first part of the pairs
pub parted-within : (bound : Bound) (ps : List (Var × ℤ)) → IsCanonical ps → IsPartitionedBy (λ p. is_within bound p.0) ps
parted-within (Before end) ps c = parted (λ y. var_lt y end) (λ y z lt up. var_lt_trans y z end lt up) ps c
parted-within (UpTo end) ps c = parted (is_up_to (Some end)) (is_up_to-falls (Some end)) ps c
parted-within Nothing ps c = parted (λ _. false) (λ y z lt up. absurd (false≢true up)) ps c

beyond : (t : Var × ℤ → Bool) (ps : List (Var × ℤ)) (i k : ℕ) (d : Var × ℤ) → IsPartitionedBy t ps → i ≤ k → k < length ps → t (get_or ps i d) ≡ false → (u : Bool) → t (get_or ps k d) ≡ u → t (get_or ps k d) ≡ false
beyond t ps i k d part le lt back false e = e
beyond t ps i k d part le lt back true e = absurd (true≢false (sym (part i k d le lt e) ∙ back))

-- a place parts the pairs where the pair before it passes the test and the pair at it doesn't
pub parts-here : (t : Var × ℤ → Bool) (ps : List (Var × ℤ)) (i : ℕ) → IsPartitionedBy t ps → i ≤ length ps → ((d : Var × ℤ) → 0 < i → t (get_or ps (i - 1) d) ≡ true) → ((d : Var × ℤ) → i < length ps → t (get_or ps i d) ≡ false) → IsPartitionPoint (λ p. t p ≡ true) (λ p. t p ≡ false) ps i
parts-here t ps i part h front back =
    (λ k d z lt. part k (i - 1) d (omega arith) (omega arith) (front d (omega arith)), λ k d le lt. (let here : t (get_or ps i d) ≡ false = back d (omega arith) in beyond t ps i k d part le lt here (t (get_or ps k d)) refl))

-- the place of the bound up to the last variable is that of the variables up to it
pub point-up_to : (last : Option Var) (ps : List (Var × ℤ)) (i : ℕ) → IsPartitionPoint (λ p. is_within (up_to last) p.0 ≡ true) (λ p. is_within (up_to last) p.0 ≡ false) ps i → IsPartitionPoint (λ p. is_up_to last p.0 ≡ true) (λ p. is_up_to last p.0 ≡ false) ps i
point-up_to None ps i w = w
point-up_to (Some y) ps i w = w

-- ---- the two parts
front_part : (P : Var × ℤ → Type 0) (ps : List (Var × ℤ)) (i : ℕ) → AllWithin P ps 0 i → AllByRecursion P (take i ps)
front_part P ps i w =
    recursion_from_All P (take i ps) (λ k d h. (let lt : k < i = omega (arith, length-take i ps) in subst P (sym (get_or-take i ps k d lt)) (w k d (omega arith) lt)))

back_part : (P : Var × ℤ → Type 0) (ps : List (Var × ℤ)) (i : ℕ) → AllWithin P ps i (length ps) → AllByRecursion P (drop i ps)
back_part P ps i w =
    recursion_from_All P (drop i ps) (λ k d h. subst P (sym (get_or-drop i ps k d)) (w (i + k) d (omega arith) (omega (arith, length-drop i ps))))

back_canonical : (ps : List (Var × ℤ)) (i : ℕ) → IsCanonical ps → IsCanonical (drop i ps)
back_canonical ps i c =
    IsCanonical-suffix (take i ps) (drop i ps) (subst (λ (qs : List (Var × ℤ)). IsCanonical qs) (sym (take-append-drop i ps)) c)

pub coefficient-none : (x : Var) (ps : List (Var × ℤ)) → AllByRecursion (λ p. var_eq x p.0 ≡ false) ps → coefficient x ps ≡ pos 0
coefficient-none x [] h = refl
coefficient-none x (p ∷ ps) h = coefficient-other x p ps h.0 ∙ coefficient-none x ps h.1

pub coefficient-append : (x : Var) (ps qs : List (Var × ℤ)) → coefficient x (ps ++ qs) ≡ (coefficient x ps +ℤ coefficient x qs)
coefficient-append x [] qs = omega (arith, ints)
coefficient-append x (p ∷ ps) qs = let h = coefficient-append x ps qs in omega (arith, ints)

-- where the first part lacks the variable, its coefficient is that of the second part
coefficient-back : (x : Var) (ps : List (Var × ℤ)) (i : ℕ) → AllByRecursion (λ p. var_eq x p.0 ≡ false) (take i ps) → coefficient x ps ≡ coefficient x (drop i ps)
coefficient-back x ps i h =
    let none : coefficient x (take i ps) ≡ pos 0 = coefficient-none x (take i ps) h in
    ap (λ (qs : List (Var × ℤ)). coefficient x qs) (sym (take-append-drop i ps)) ∙ (coefficient-append x (take i ps) (drop i ps) ∙ omega (arith, ints))

mapped : (P Q : Var × ℤ → Type 0) (ps : List (Var × ℤ)) → ((p : Var × ℤ) → P p → Q p) → AllByRecursion P ps → AllByRecursion Q ps
mapped P Q [] f h = tt
mapped P Q (p ∷ ps) f h = (f p h.0, mapped P Q ps f h.1)

-- ---- the coefficient of a variable
at_or_below : (x : Var) (ps : List (Var × ℤ)) → AllByRecursion (λ p. var_lt p.0 x ≡ false) ps → IsAtOrBelow x ps
at_or_below x [] h = tt
at_or_below x (p ∷ ps) h = by_test (var_eq x p.0) refl (var_lt x p.0) refl
  where
    by_test : (t : Bool) → var_eq x p.0 ≡ t → (u : Bool) → var_lt x p.0 ≡ u → (var_eq x p.0 ≡ true) ⊎ (var_lt x p.0 ≡ true)
    by_test true e u b = inl e
    by_test false e true b = inr b
    by_test false e false b = absurd (true≢false (sym (var_lt_or_gt x p.0 e b) ∙ h.0))

pub coefficient-searched : (x : Var) (ps : List (Var × ℤ)) (i : ℕ) → IsCanonical ps → IsPartitionPoint (λ p. var_lt p.0 x ≡ true) (λ p. var_lt p.0 x ≡ false) ps i → front_coefficient x (drop i ps) ≡ coefficient x ps
coefficient-searched x ps i c w =
    let front : AllByRecursion (λ p. var_eq x p.0 ≡ false) (take i ps) = mapped (λ p. var_lt p.0 x ≡ true) (λ p. var_eq x p.0 ≡ false) (take i ps) (λ p h. var_gt-var_eq p.0 x h) (front_part (λ p. var_lt p.0 x ≡ true) ps i w.0) in
    let back : IsAtOrBelow x (drop i ps) = at_or_below x (drop i ps) (back_part (λ p. var_lt p.0 x ≡ false) ps i w.1) in
    sym (coefficient-back x ps i front ∙ coefficient-front x (drop i ps) back (back_canonical ps i c))

-- ---- the next variable
apart : (last : Option Var) (x y : Var) → IsAfter last x → is_up_to last y ≡ true → (t : Bool) → var_eq x y ≡ t → var_eq x y ≡ false
apart last x y after up false e = e
apart last x y after up true e =
    absurd (true≢false (sym up ∙ (ap (is_up_to last) (sym (var_eq-true x y e)) ∙ after)))

lacks : (last : Option Var) (x : Var) (ps : List (Var × ℤ)) → IsAfter last x → AllByRecursion (λ p. is_up_to last p.0 ≡ true) ps → AllByRecursion (λ p. var_eq x p.0 ≡ false) ps
lacks last x ps after h =
    mapped (λ p. is_up_to last p.0 ≡ true) (λ p. var_eq x p.0 ≡ false) ps (λ p up. apart last x p.0 after up (var_eq x p.0) refl) h

below_first : (x : Var) (ps : List (Var × ℤ)) → IsBefore x (first_variable ps) → IsBelow x ps
below_first x [] h = tt
below_first x (p ∷ ps) h = h

pub skipped-searched : (last : Option Var) (ps : List (Var × ℤ)) (i : ℕ) → IsCanonical ps → IsPartitionPoint (λ p. is_up_to last p.0 ≡ true) (λ p. is_up_to last p.0 ≡ false) ps i → (x : Var) → IsAfter last x → IsBefore x (first_variable (drop i ps)) → coefficient x ps ≡ pos 0
skipped-searched last ps i c w x after before =
    coefficient-back x ps i (lacks last x (take i ps) after (front_part (λ p. is_up_to last p.0 ≡ true) ps i w.0)) ∙ coefficient-below x (drop i ps) (IsBelowAll-canonical x (drop i ps) (below_first x (drop i ps) before) (back_canonical ps i c))

first_stands : (last : Option Var) (qs : List (Var × ℤ)) → IsCanonical qs → AllByRecursion (λ p. is_up_to last p.0 ≡ false) qs → IfSome (first_variable qs) (λ x. IsAfter last x × (coefficient x qs ≢ pos 0))
first_stands last [] c h = tt
first_stands last (q ∷ qs) c h = (h.0, λ e. c.0 (sym (coefficient-first q qs c) ∙ e))

stands_by : (last : Option Var) (ps : List (Var × ℤ)) (i : ℕ) (first : Option Var) → AllByRecursion (λ p. is_up_to last p.0 ≡ true) (take i ps) → IfSome first (λ x. IsAfter last x × (coefficient x (drop i ps) ≢ pos 0)) → IfSome first (λ x. IsAfter last x × (coefficient x ps ≢ pos 0))
stands_by last ps i None w h = tt
stands_by last ps i (Some x) w h = (h.0, λ e. h.1 (sym (coefficient-back x ps i (lacks last x (take i ps) h.0 w)) ∙ e))

pub stands-searched : (last : Option Var) (ps : List (Var × ℤ)) (i : ℕ) → IsCanonical ps → IsPartitionPoint (λ p. is_up_to last p.0 ≡ true) (λ p. is_up_to last p.0 ≡ false) ps i → IfSome (first_variable (drop i ps)) (λ x. IsAfter last x × (coefficient x ps ≢ pos 0))
stands-searched last ps i c w =
    stands_by last ps i (first_variable (drop i ps)) (front_part (λ p. is_up_to last p.0 ≡ true) ps i w.0) (first_stands last (drop i ps) (back_canonical ps i c) (back_part (λ p. is_up_to last p.0 ≡ false) ps i w.1))
