-- Canonical lists of pairs: what stands above a variable, values and coefficients by the front pair.
use Rattle.std.proofs.Common.{◌≡◌, ◌≢◌, ◌⊎◌, ℤ, pos, ◌+ℤ◌, ◌*ℤ◌, Bool, true, false, List, [], ◌∷◌, ◌++◌, if◌then◌else◌, refl, sym, ap, ◌∙◌, subst, inl, inr, arith}
use Rattle.std.specs.List.{AllByRecursion}
use Rattle.std.proofs.lemmas.Int.{ints}
use Rattle.std.proofs.lemmas.Bool.{false≢true}
use Rattle.ps_term.specs.declared.var.Var.{Var}
use Rattle.ps_term.specs.Var.{var_lt, var_eq}
use Rattle.ps_term.specs.Pairs.{IsBelow, IsCanonical, pairs_value, coefficient}
use Rattle.ps_term.specs.inner.Front.{front_coefficient, after_front}
use Rattle.ps_term.proofs.Ring.{zero-mul}
use Rattle.ps_term.proofs.Variables.{var_eq-true, var_lt-var_eq, var_gt-var_eq, var_lt_trans}

-- the variable comes before all of the list
abbrev pub IsBelowAll : Var → List (Var × ℤ) → Type 0
IsBelowAll x ps = AllByRecursion (λ p. var_lt x p.0 ≡ true) ps

pub IsBelow_trans : (x y : Var) (ps : List (Var × ℤ)) → var_lt x y ≡ true → IsBelow y ps → IsBelow x ps
IsBelow_trans x y [] h b = tt
IsBelow_trans x y (p ∷ ps) h b = var_lt_trans x y p.0 h b

pub IsBelowAll-canonical : (x : Var) (ps : List (Var × ℤ)) → IsBelow x ps → IsCanonical ps → IsBelowAll x ps
IsBelowAll-canonical x [] b c = tt
IsBelowAll-canonical x (p ∷ ps) b c = (b, IsBelowAll-canonical x ps (IsBelow_trans x p.0 ps b c.1) c.2)

-- what isn't the variable of the pair has its coefficient in the rest
pub coefficient-other : (x : Var) (p : Var × ℤ) (ps : List (Var × ℤ)) → var_eq x p.0 ≡ false → coefficient x (p ∷ ps) ≡ coefficient x ps
coefficient-other x p ps e = rw e (omega (arith, ints))

pub coefficient-same : (x : Var) (p : Var × ℤ) (ps : List (Var × ℤ)) → var_eq x p.0 ≡ true → coefficient x (p ∷ ps) ≡ (p.1 +ℤ coefficient x ps)
coefficient-same x p ps e = rw e refl

pub coefficient-below : (x : Var) (ps : List (Var × ℤ)) → IsBelowAll x ps → coefficient x ps ≡ pos 0
coefficient-below x [] b = refl
coefficient-below x (p ∷ ps) b = coefficient-other x p ps (var_lt-var_eq x p.0 b.0) ∙ coefficient-below x ps b.1

pub pairs_value-append : (v : Var → ℤ) (ps qs : List (Var × ℤ)) → pairs_value v (ps ++ qs) ≡ (pairs_value v ps +ℤ pairs_value v qs)
pairs_value-append v [] qs = omega (arith, ints)
pairs_value-append v (p ∷ ps) qs = let h = pairs_value-append v ps qs in omega (arith, ints)

-- the variable comes before all of the list, or is its first
abbrev pub IsAtOrBelow : Var → List (Var × ℤ) → Type 0
IsAtOrBelow x [] = Unit {0}
IsAtOrBelow x (p ∷ ps) = (var_eq x p.0 ≡ true) ⊎ (var_lt x p.0 ≡ true)

-- the rest after the front pair is canonical and above the variable
after_front-cases : (x : Var) (p : Var × ℤ) (ps : List (Var × ℤ)) → IsAtOrBelow x (p ∷ ps) → IsCanonical (p ∷ ps) → (t : Bool) → var_eq x p.0 ≡ t → IsBelow x (if t then ps else p ∷ ps) × IsCanonical (if t then ps else p ∷ ps)
after_front-cases x p ps a c true e = (subst (λ (y : Var). IsBelow y ps) (sym (var_eq-true x p.0 e)) c.1, c.2)
after_front-cases x p ps (inl b) c false e = absurd (false≢true (sym e ∙ b))
after_front-cases x p ps (inr b) c false e = (b, c)

pub after_front-canonical : (x : Var) (ps : List (Var × ℤ)) → IsAtOrBelow x ps → IsCanonical ps → IsBelow x (after_front x ps) × IsCanonical (after_front x ps)
after_front-canonical x [] a c = (tt, tt)
after_front-canonical x (p ∷ ps) a c = after_front-cases x p ps a c (var_eq x p.0) refl

after_front-value_cases : (v : Var → ℤ) (x : Var) (p : Var × ℤ) (ps : List (Var × ℤ)) (t : Bool) → var_eq x p.0 ≡ t → pairs_value v (p ∷ ps) ≡ (((if t then p.1 else pos 0) *ℤ v x) +ℤ pairs_value v (if t then ps else p ∷ ps))
after_front-value_cases v x p ps true e = ap (λ (y : Var). (p.1 *ℤ v y) +ℤ pairs_value v ps) (sym (var_eq-true x p.0 e))
after_front-value_cases v x p ps false e = omega (arith, ints, zero-mul (v x))

pub after_front-value : (v : Var → ℤ) (x : Var) (ps : List (Var × ℤ)) → pairs_value v ps ≡ ((front_coefficient x ps *ℤ v x) +ℤ pairs_value v (after_front x ps))
after_front-value v x [] = omega (arith, ints, zero-mul (v x))
after_front-value v x (p ∷ ps) = after_front-value_cases v x p ps (var_eq x p.0) refl

after_front-coefficient_cases : (x y : Var) (p : Var × ℤ) (ps : List (Var × ℤ)) → var_lt x y ≡ true → (t : Bool) → var_eq x p.0 ≡ t → coefficient y (if t then ps else p ∷ ps) ≡ coefficient y (p ∷ ps)
after_front-coefficient_cases x y p ps h true e =
    sym (coefficient-other y p ps (subst (λ (z : Var). var_eq y z ≡ false) (var_eq-true x p.0 e) (var_gt-var_eq x y h)))
after_front-coefficient_cases x y p ps h false e = refl

-- above the variable no coefficient changes
pub after_front-coefficient : (x y : Var) (ps : List (Var × ℤ)) → var_lt x y ≡ true → coefficient y (after_front x ps) ≡ coefficient y ps
after_front-coefficient x y [] h = refl
after_front-coefficient x y (p ∷ ps) h = after_front-coefficient_cases x y p ps h (var_eq x p.0) refl

coefficient-front_cases : (x : Var) (p : Var × ℤ) (ps : List (Var × ℤ)) → IsAtOrBelow x (p ∷ ps) → IsCanonical (p ∷ ps) → (t : Bool) → var_eq x p.0 ≡ t → ((if t then p.1 else pos 0) +ℤ coefficient x ps) ≡ (if t then p.1 else pos 0)
coefficient-front_cases x p ps a c true e =
    let h : coefficient x ps ≡ pos 0 = coefficient-below x ps (IsBelowAll-canonical x ps (subst (λ (y : Var). IsBelow y ps) (sym (var_eq-true x p.0 e)) c.1) c.2) in
    omega (arith, ints)
coefficient-front_cases x p ps (inl b) c false e = absurd (false≢true (sym e ∙ b))
coefficient-front_cases x p ps (inr b) c false e =
    let h : coefficient x ps ≡ pos 0 = coefficient-below x ps (IsBelowAll-canonical x ps (IsBelow_trans x p.0 ps b c.1) c.2) in
    omega (arith, ints)

-- at or below a canonical list, the coefficient is that in front
pub coefficient-front : (x : Var) (ps : List (Var × ℤ)) → IsAtOrBelow x ps → IsCanonical ps → coefficient x ps ≡ front_coefficient x ps
coefficient-front x [] a c = refl
coefficient-front x (p ∷ ps) a c = coefficient-front_cases x p ps a c (var_eq x p.0) refl

pub IsCanonical-suffix : (ps qs : List (Var × ℤ)) → IsCanonical (ps ++ qs) → IsCanonical qs
IsCanonical-suffix [] qs c = c
IsCanonical-suffix (p ∷ ps) qs c = IsCanonical-suffix ps qs c.2

-- a pair takes the place of one with its variable, and of what comes after it
pub IsCanonical-replace : (out ps qs : List (Var × ℤ)) (x : Var) (m n : ℤ) → IsCanonical (out ++ (x, m) ∷ ps) → n ≢ pos 0 → IsBelow x qs → IsCanonical qs → IsCanonical (out ++ (x, n) ∷ qs)
IsCanonical-replace [] ps qs x m n c z b d = (z, b, d)
IsCanonical-replace (o ∷ []) ps qs x m n c z b d = (c.0, c.1, (z, b, d))
IsCanonical-replace (o ∷ (o' ∷ out)) ps qs x m n c z b d =
    (c.0, c.1, IsCanonical-replace (o' ∷ out) ps qs x m n c.2 z b d)

-- the pair goes, and what comes after it gives way to another list above it
pub IsCanonical-skip : (out ps qs : List (Var × ℤ)) (x : Var) (m : ℤ) → IsCanonical (out ++ (x, m) ∷ ps) → IsBelow x qs → IsCanonical qs → IsCanonical (out ++ qs)
IsCanonical-skip [] ps qs x m c b d = d
IsCanonical-skip (o ∷ []) ps qs x m c b d = (c.0, IsBelow_trans o.0 x qs c.1 b, d)
IsCanonical-skip (o ∷ (o' ∷ out)) ps qs x m c b d =
    (c.0, c.1, IsCanonical-skip (o' ∷ out) ps qs x m c.2 b d)
