-- The merge of two lists of pairs: what is done, with what is left of the two, is all.
use Rattle.std.proofs.Common.{◌≡◌, ◌⊎◌, ◌+◌, ◌<◌, ℤ, pos, ◌+ℤ◌, ◌*ℤ◌, Bool, true, false, List, [], ◌∷◌, ◌++◌, length, if◌then◌else◌, Some, None, FitsSigned, refl, sym, ap, ◌∙◌, subst, inl, inr, arith, append_assoc, append-nil}
use Rattle.std.specs.Int.{w128}
use Rattle.std.specs.List.{AllByRecursion}
use Rattle.std.specs.Ordering.{int_eq}
use Rattle.std.proofs.lemmas.Bool.Decides.{Decides-int_eq}
use Rattle.std.proofs.lemmas.Bool.{false≢true}
use Rattle.std.proofs.lemmas.Int.{ints}
use Rattle.std.proofs.lemmas.List.Elements.{All-from_recursion, recursion_from_All}
use Rattle.std.proofs.lemmas.Option.{same_Some, none-some}
use Rattle.ps_term.specs.declared.var.Var.{Var}
use Rattle.ps_term.specs.Var.{var_lt, var_eq}
use Rattle.ps_term.specs.Pairs.{IsBelow, IsCanonical, pairs_value, coefficient}
use Rattle.ps_term.specs.inner.Front.{least_front, front_coefficient, after_front, kept_pair}
use Rattle.ps_term.specs.Sums.{ScaledFits, PairsFit}
use Rattle.ps_term.proofs.Ring.{distribute, distribute_right, assoc, mul-zero, zero-mul}
use Rattle.ps_term.proofs.Variables.{var_eq-true, var_eq_refl, var_lt_or_gt}
use Rattle.ps_term.proofs.Canonical.{IsBelowAll, IsBelowAll-canonical, IsAtOrBelow, after_front-canonical, after_front-value, after_front-coefficient, coefficient-front, pairs_value-append, IsCanonical-suffix, IsCanonical-replace, IsCanonical-skip}

-- `PairsFit` by recursion
abbrev pub FitsBy : List (Var × ℤ) → ℤ → List (Var × ℤ) → Type 0
FitsBy left by right = AllByRecursion (λ p. ScaledFits (coefficient p.0 left) by p.1) right

pub record Merged (by : ℤ) (cs bs out left right : List (Var × ℤ)) : Type 0 where
  pub left_canonical : IsCanonical (out ++ left)
  pub right_canonical : IsCanonical (out ++ right)
  pub worth : (v : Var → ℤ) → (pairs_value v out +ℤ (pairs_value v left +ℤ (by *ℤ pairs_value v right))) ≡ (pairs_value v cs +ℤ (by *ℤ pairs_value v bs))
  pub fits : FitsBy left by right → FitsBy cs by bs
  pub fit : FitsBy cs by bs → FitsBy left by right

pub Merged-start : (by : ℤ) (cs bs : List (Var × ℤ)) → IsCanonical cs → IsCanonical bs → Merged by cs bs [] cs bs
Merged-start by cs bs c d =
    record { left_canonical = c; right_canonical = d; worth = λ v. omega (arith, ints); fits = λ h. h; fit = λ h. h }

-- ---- the variable in front
record IsFront (x : Var) (ps : List (Var × ℤ)) : Type 0 where
  pub number : ℤ
  pub rest : List (Var × ℤ)
  pub is : ps ≡ (x, number) ∷ rest

record IsLeast (x : Var) (ps qs : List (Var × ℤ)) : Type 0 where
  pub left : IsAtOrBelow x ps
  pub right : IsAtOrBelow x qs
  pub stands : IsFront x ps ⊎ IsFront x qs

front_at : (x : Var) (p : Var × ℤ) (ps : List (Var × ℤ)) → p.0 ≡ x → IsFront x (p ∷ ps)
front_at x p ps e = record { number = p.1; rest = ps; is = ap (λ (y : Var). (y, p.1) ∷ ps) e }

at_front : (x : Var) (p : Var × ℤ) (ps : List (Var × ℤ)) → p.0 ≡ x → IsAtOrBelow x (p ∷ ps)
at_front x p ps e = inl (subst (λ (y : Var). var_eq y p.0 ≡ true) e (var_eq_refl p.0))

below_front : (x : Var) (p q : Var × ℤ) (qs : List (Var × ℤ)) → p.0 ≡ x → var_lt q.0 p.0 ≡ false → (t : Bool) → var_eq q.0 p.0 ≡ t → IsAtOrBelow x (q ∷ qs)
below_front x p q qs e h true f = at_front x q qs (var_eq-true q.0 p.0 f ∙ e)
below_front x p q qs e h false f = inr (subst (λ (y : Var). var_lt y q.0 ≡ true) e (var_lt_or_gt q.0 p.0 f h))

least_front-cases : (p q : Var × ℤ) (ps qs : List (Var × ℤ)) (x : Var) (t : Bool) → var_lt q.0 p.0 ≡ t → (if t then Some q.0 else Some p.0) ≡ Some x → IsLeast x (p ∷ ps) (q ∷ qs)
least_front-cases p q ps qs x true h e =
    let s : q.0 ≡ x = same_Some q.0 x e in
    record { left = inr (subst (λ (y : Var). var_lt y p.0 ≡ true) s h); right = at_front x q qs s; stands = inr (front_at x q qs s) }
least_front-cases p q ps qs x false h e =
    let s : p.0 ≡ x = same_Some p.0 x e in
    record { left = at_front x p ps s; right = below_front x p q qs s h (var_eq q.0 p.0) refl; stands = inl (front_at x p ps s) }

least_front-some : (ps qs : List (Var × ℤ)) (x : Var) → least_front ps qs ≡ Some x → IsLeast x ps qs
least_front-some [] [] x e = absurd (none-some x e)
least_front-some [] (q ∷ qs) x e =
    let s : q.0 ≡ x = same_Some q.0 x e in
    record { left = tt; right = at_front x q qs s; stands = inr (front_at x q qs s) }
least_front-some (p ∷ ps) [] x e =
    let s : p.0 ≡ x = same_Some p.0 x e in
    record { left = at_front x p ps s; right = tt; stands = inl (front_at x p ps s) }
least_front-some (p ∷ ps) (q ∷ qs) x e = least_front-cases p q ps qs x (var_lt q.0 p.0) refl e

some_is : (p q : Var) (t : Bool) → (if t then Some q else Some p) ≡ None → ⊥
some_is p q true e = none-some q (sym e)
some_is p q false e = none-some p (sym e)

pub least_front-none : (ps qs : List (Var × ℤ)) → least_front ps qs ≡ None → (ps ≡ []) × (qs ≡ [])
least_front-none [] [] e = (refl, refl)
least_front-none [] (q ∷ qs) e = absurd (none-some q.0 (sym e))
least_front-none (p ∷ ps) [] e = absurd (none-some p.0 (sym e))
least_front-none (p ∷ ps) (q ∷ qs) e = absurd (some_is p.0 q.0 (var_lt q.0 p.0) e)

-- ---- each turn takes a pair
after_front-shorter : (x : Var) (ps : List (Var × ℤ)) → IsFront x ps → length (after_front x ps) < length ps
after_front-shorter x ps f =
    rw (f.is, var_eq_refl x) (omega arith)

after_front-cases : (t : Bool) (p : Var × ℤ) (ps : List (Var × ℤ)) → length (if t then ps else p ∷ ps) < length (p ∷ ps) + 1
after_front-cases true p ps = omega arith
after_front-cases false p ps = omega arith

after_front-no_longer : (x : Var) (ps : List (Var × ℤ)) → length (after_front x ps) < length ps + 1
after_front-no_longer x [] = omega arith
after_front-no_longer x (p ∷ ps) = after_front-cases (var_eq x p.0) p ps

shorter_by : (x : Var) (ps qs : List (Var × ℤ)) → IsFront x ps ⊎ IsFront x qs → length (after_front x ps) + length (after_front x qs) < length ps + length qs
shorter_by x ps qs (inl f) = omega (arith, after_front-shorter x ps f, after_front-no_longer x qs)
shorter_by x ps qs (inr f) = omega (arith, after_front-shorter x qs f, after_front-no_longer x ps)

pub after_fronts-shorter : (ps qs : List (Var × ℤ)) (x : Var) → least_front ps qs ≡ Some x → length (after_front x ps) + length (after_front x qs) < length ps + length qs
after_fronts-shorter ps qs x e = shorter_by x ps qs (least_front-some ps qs x e).stands

-- ---- what a turn adds
kept_pair-value_cases : (v : Var → ℤ) (x : Var) (n : ℤ) (t : Bool) → int_eq n (pos 0) ≡ t → pairs_value v (if t then [] else (x, n) ∷ []) ≡ (n *ℤ v x)
kept_pair-value_cases v x n true e =
    let h : n ≡ pos 0 = (Decides-int_eq n (pos 0)).0 e in
    rw h (sym (zero-mul (v x)))
kept_pair-value_cases v x n false e = omega (arith, ints)

kept_pair-value : (v : Var → ℤ) (x : Var) (n : ℤ) → pairs_value v (kept_pair x n) ≡ (n *ℤ v x)
kept_pair-value v x n = kept_pair-value_cases v x n (int_eq n (pos 0)) refl

kept_pair-canonical_cases : (out ps qs : List (Var × ℤ)) (x : Var) (m n : ℤ) → IsCanonical (out ++ (x, m) ∷ ps) → IsBelow x qs → IsCanonical qs → (t : Bool) → int_eq n (pos 0) ≡ t → IsCanonical (out ++ ((if t then [] else (x, n) ∷ []) ++ qs))
kept_pair-canonical_cases out ps qs x m n c b d true e = IsCanonical-skip out ps qs x m c b d
kept_pair-canonical_cases out ps qs x m n c b d false e =
    IsCanonical-replace out ps qs x m n c (λ z. false≢true (sym e ∙ (Decides-int_eq n (pos 0)).1 z)) b d

kept_pair-canonical : (out qs : List (Var × ℤ)) (x : Var) (n : ℤ) → (m : ℤ) (ps : List (Var × ℤ)) → IsCanonical (out ++ (x, m) ∷ ps) → IsBelow x qs → IsCanonical qs → IsCanonical ((out ++ kept_pair x n) ++ qs)
kept_pair-canonical out qs x n m ps c b d =
    rw (append_assoc out (kept_pair x n) qs) (kept_pair-canonical_cases out ps qs x m n c b d (int_eq n (pos 0)) refl)

kept_by : (out left right qs : List (Var × ℤ)) (x : Var) (n : ℤ) → IsFront x left ⊎ IsFront x right → IsCanonical (out ++ left) → IsCanonical (out ++ right) → IsBelow x qs → IsCanonical qs → IsCanonical ((out ++ kept_pair x n) ++ qs)
kept_by out left right qs x n (inl f) c d b e =
    kept_pair-canonical out qs x n f.number f.rest (subst (λ (ps : List (Var × ℤ)). IsCanonical (out ++ ps)) f.is c) b e
kept_by out left right qs x n (inr f) c d b e =
    kept_pair-canonical out qs x n f.number f.rest (subst (λ (ps : List (Var × ℤ)). IsCanonical (out ++ ps)) f.is d) b e

-- ---- what fits
-- above a variable, a list of pairs fits over a list and over what is left of it after the variable
fits_over : (x : Var) (left : List (Var × ℤ)) (by : ℤ) (qs : List (Var × ℤ)) → IsBelowAll x qs → FitsBy (after_front x left) by qs → FitsBy left by qs
fits_over x left by [] b h = tt
fits_over x left by (q ∷ qs) b h =
    (subst (λ (n : ℤ). ScaledFits n by q.1) (after_front-coefficient x q.0 left b.0) h.0, fits_over x left by qs b.1 h.1)

fit_over : (x : Var) (left : List (Var × ℤ)) (by : ℤ) (qs : List (Var × ℤ)) → IsBelowAll x qs → FitsBy left by qs → FitsBy (after_front x left) by qs
fit_over x left by [] b h = tt
fit_over x left by (q ∷ qs) b h =
    (subst (λ (n : ℤ). ScaledFits n by q.1) (sym (after_front-coefficient x q.0 left b.0)) h.0, fit_over x left by qs b.1 h.1)

-- what fits after the front pair, with the front pair, is what fits
fits_front_cases : (x : Var) (left : List (Var × ℤ)) (by : ℤ) (q : Var × ℤ) (qs : List (Var × ℤ)) (t : Bool) → var_eq x q.0 ≡ t → ScaledFits (coefficient x left) by (if t then q.1 else pos 0) → FitsBy left by (if t then qs else q ∷ qs) → FitsBy left by (q ∷ qs)
fits_front_cases x left by q qs true e s h =
    (subst (λ (y : Var). ScaledFits (coefficient y left) by q.1) (var_eq-true x q.0 e) s, h)
fits_front_cases x left by q qs false e s h = h

fits_front : (x : Var) (left : List (Var × ℤ)) (by : ℤ) (qs : List (Var × ℤ)) → ScaledFits (coefficient x left) by (front_coefficient x qs) → FitsBy left by (after_front x qs) → FitsBy left by qs
fits_front x left by [] s h = tt
fits_front x left by (q ∷ qs) s h = fits_front_cases x left by q qs (var_eq x q.0) refl s h

fit_after_cases : (left : List (Var × ℤ)) (by : ℤ) (q : Var × ℤ) (qs : List (Var × ℤ)) (t : Bool) → FitsBy left by (q ∷ qs) → FitsBy left by (if t then qs else q ∷ qs)
fit_after_cases left by q qs true h = h.1
fit_after_cases left by q qs false h = h

fit_after : (x : Var) (left : List (Var × ℤ)) (by : ℤ) (qs : List (Var × ℤ)) → FitsBy left by qs → FitsBy left by (after_front x qs)
fit_after x left by [] h = tt
fit_after x left by (q ∷ qs) h = fit_after_cases left by q qs (var_eq x q.0) h

nothing_fits : (m by : ℤ) → FitsSigned w128 m → ScaledFits m by (pos 0)
nothing_fits m by f =
    let z : by *ℤ pos 0 ≡ pos 0 = mul-zero by in
    let s : (m +ℤ (by *ℤ pos 0)) ≡ m = omega (arith, ints, z) in
    (subst (λ (n : ℤ). FitsSigned w128 n) (sym z) (record { sfits = omega arith }), subst (λ (n : ℤ). FitsSigned w128 n) (sym s) f)

fit_in_front_cases : (x : Var) (left : List (Var × ℤ)) (by : ℤ) (q : Var × ℤ) (qs : List (Var × ℤ)) → FitsSigned w128 (coefficient x left) → (t : Bool) → var_eq x q.0 ≡ t → FitsBy left by (q ∷ qs) → ScaledFits (coefficient x left) by (if t then q.1 else pos 0)
fit_in_front_cases x left by q qs f true e h =
    subst (λ (y : Var). ScaledFits (coefficient y left) by q.1) (sym (var_eq-true x q.0 e)) h.0
fit_in_front_cases x left by q qs f false e h = nothing_fits (coefficient x left) by f

fit_in_front : (x : Var) (left : List (Var × ℤ)) (by : ℤ) (qs : List (Var × ℤ)) → FitsSigned w128 (coefficient x left) → FitsBy left by qs → ScaledFits (coefficient x left) by (front_coefficient x qs)
fit_in_front x left by [] f h = nothing_fits (coefficient x left) by f
fit_in_front x left by (q ∷ qs) f h = fit_in_front_cases x left by q qs f (var_eq x q.0) refl h

-- ---- the turn, the end and the refusal
turn_worth : (by out kept l fl l' r fr r' n vx total : ℤ) → kept ≡ (n *ℤ vx) → n ≡ (fl +ℤ (by *ℤ fr)) → l ≡ ((fl *ℤ vx) +ℤ l') → r ≡ ((fr *ℤ vx) +ℤ r') → (out +ℤ (l +ℤ (by *ℤ r))) ≡ total → ((out +ℤ kept) +ℤ (l' +ℤ (by *ℤ r'))) ≡ total
turn_worth by out kept l fl l' r fr r' n vx total ek en el er et =
    let a : (n *ℤ vx) ≡ ((fl *ℤ vx) +ℤ ((by *ℤ fr) *ℤ vx)) = ap (λ (z : ℤ). z *ℤ vx) en ∙ distribute_right fl (by *ℤ fr) vx in
    let b : (by *ℤ r) ≡ ((by *ℤ (fr *ℤ vx)) +ℤ (by *ℤ r')) = ap (λ (z : ℤ). by *ℤ z) er ∙ distribute by (fr *ℤ vx) r' in
    omega (arith, ints, a, b, assoc by fr vx, ek, el, et)

pub Merged-turn : (by : ℤ) (cs bs out left right : List (Var × ℤ)) (x : Var) (n : ℤ) → Merged by cs bs out left right → least_front left right ≡ Some x → ScaledFits (front_coefficient x left) by (front_coefficient x right) → n ≡ (front_coefficient x left +ℤ (by *ℤ front_coefficient x right)) → Merged by cs bs (out ++ kept_pair x n) (after_front x left) (after_front x right)
Merged-turn by cs bs out left right x n m e s en =
    let f = least_front-some left right x e in
    let cl : IsCanonical left = IsCanonical-suffix out left m.left_canonical in
    let cr : IsCanonical right = IsCanonical-suffix out right m.right_canonical in
    let al : IsBelow x (after_front x left) × IsCanonical (after_front x left) = after_front-canonical x left f.left cl in
    let ar : IsBelow x (after_front x right) × IsCanonical (after_front x right) = after_front-canonical x right f.right cr in
    let above : IsBelowAll x (after_front x right) = IsBelowAll-canonical x (after_front x right) ar.0 ar.1 in
    record {
      left_canonical = kept_by out left right (after_front x left) x n f.stands m.left_canonical m.right_canonical al.0 al.1;
      right_canonical = kept_by out left right (after_front x right) x n f.stands m.left_canonical m.right_canonical ar.0 ar.1;
      worth = λ v. rw (pairs_value-append v out (kept_pair x n)) (turn_worth by (pairs_value v out) (pairs_value v (kept_pair x n)) (pairs_value v left) (front_coefficient x left) (pairs_value v (after_front x left)) (pairs_value v right) (front_coefficient x right) (pairs_value v (after_front x right)) n (v x) (pairs_value v cs +ℤ (by *ℤ pairs_value v bs)) (kept_pair-value v x n) en (after_front-value v x left) (after_front-value v x right) (m.worth v));
      fits = λ h. m.fits (fits_front x left by right (subst (λ (k : ℤ). ScaledFits k by (front_coefficient x right)) (sym (coefficient-front x left f.left cl)) s) (fits_over x left by (after_front x right) above h));
      fit = λ h. fit_over x left by (after_front x right) above (fit_after x left by right (m.fit h));
    }

pub record MergedAll (by : ℤ) (cs bs out : List (Var × ℤ)) : Type 0 where
  pub canonical : IsCanonical out
  pub worth : (v : Var → ℤ) → pairs_value v out ≡ (pairs_value v cs +ℤ (by *ℤ pairs_value v bs))
  pub fits : PairsFit cs by bs

at_end : (by : ℤ) (cs bs out left right : List (Var × ℤ)) → left ≡ [] → right ≡ [] → Merged by cs bs out left right → Merged by cs bs out [] []
at_end by cs bs out left right e f m =
    subst (λ (qs : List (Var × ℤ)). Merged by cs bs out [] qs) f (subst (λ (ps : List (Var × ℤ)). Merged by cs bs out ps right) e m)

ended : (by : ℤ) (cs bs out : List (Var × ℤ)) → Merged by cs bs out [] [] → MergedAll by cs bs out
ended by cs bs out m =
    record {
      canonical = subst (λ (ps : List (Var × ℤ)). IsCanonical ps) (append-nil out) m.left_canonical;
      worth = λ v. (let z : by *ℤ pos 0 ≡ pos 0 = mul-zero by in omega (arith, ints, z, m.worth v));
      fits = All-from_recursion (λ p. ScaledFits (coefficient p.0 cs) by p.1) bs (m.fits tt);
    }

pub Merged-end : (by : ℤ) (cs bs out left right : List (Var × ℤ)) → Merged by cs bs out left right → least_front left right ≡ None → MergedAll by cs bs out
Merged-end by cs bs out left right m e =
    let n = least_front-none left right e in
    ended by cs bs out (at_end by cs bs out left right n.0 n.1 m)

pub Merged-refused : (by : ℤ) (cs bs out left right : List (Var × ℤ)) (x : Var) → Merged by cs bs out left right → least_front left right ≡ Some x → FitsSigned w128 (front_coefficient x left) → ¬ ScaledFits (front_coefficient x left) by (front_coefficient x right) → ¬ PairsFit cs by bs
Merged-refused by cs bs out left right x m e f s h =
    let cl : IsCanonical left = IsCanonical-suffix out left m.left_canonical in
    let c : coefficient x left ≡ front_coefficient x left = coefficient-front x left (least_front-some left right x e).left cl in
    s (subst (λ (k : ℤ). ScaledFits k by (front_coefficient x right)) c (fit_in_front x left by right (subst (λ (k : ℤ). FitsSigned w128 k) (sym c) f) (m.fit (recursion_from_All (λ p. ScaledFits (coefficient p.0 cs) by p.1) bs h))))
