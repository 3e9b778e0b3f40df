-- A canonical list of pairs is told by its coefficients, and these by its values.
use Rattle.std.proofs.Common.{◌≡◌, ℤ, pos, ◌+ℤ◌, ◌*ℤ◌, Bool, true, false, List, [], ◌∷◌, if◌then◌else◌, refl, sym, ap, ap₂, ◌∙◌, subst, arith}
use Rattle.std.proofs.lemmas.Int.{ints}
use Rattle.ps_term.specs.declared.var.Var.{Var}
use Rattle.ps_term.specs.Var.{var_lt, var_eq}
use Rattle.ps_term.specs.Pairs.{IsCanonical, pairs_value, coefficient}
use Rattle.ps_term.proofs.Ring.{mul-zero, mul-one}
use Rattle.ps_term.proofs.Variables.{var_eq-true, var_eq_refl, var_lt_or_gt}
use Rattle.ps_term.proofs.Canonical.{IsBelowAll-canonical, coefficient-below, coefficient-same}

-- 1 at the variable and 0 elsewhere
abbrev pub unit_at : Var → Var → ℤ
unit_at x y = if var_eq x y then pos 1 else pos 0

times_unit : (n : ℤ) (t : Bool) → (n *ℤ (if t then pos 1 else pos 0)) ≡ (if t then n else pos 0)
times_unit n true = mul-one n
times_unit n false = mul-zero n

-- a coefficient is the value at 1 for its variable and 0 for the others
pub pairs_value-unit_at : (x : Var) (ps : List (Var × ℤ)) → pairs_value (unit_at x) ps ≡ coefficient x ps
pairs_value-unit_at x [] = refl
pairs_value-unit_at x (p ∷ ps) = rw (times_unit p.1 (var_eq x p.0), pairs_value-unit_at x ps) refl

pub pairs_value-zero : (ps : List (Var × ℤ)) → pairs_value (λ _. pos 0) ps ≡ pos 0
pairs_value-zero [] = refl
pairs_value-zero (p ∷ ps) = rw (mul-zero p.1, pairs_value-zero ps) refl

-- ---- the front pair
pub coefficient-first : (p : Var × ℤ) (ps : List (Var × ℤ)) → IsCanonical (p ∷ ps) → coefficient p.0 (p ∷ ps) ≡ p.1
coefficient-first p ps c =
    let h : coefficient p.0 ps ≡ pos 0 = coefficient-below p.0 ps (IsBelowAll-canonical p.0 ps c.1 c.2) in
    coefficient-same p.0 p ps (var_eq_refl p.0) ∙ omega (arith, ints)

-- a variable below a canonical list isn't that of the first pair of a list with the same coefficients
not_below : (p q : Var × ℤ) (ps qs : List (Var × ℤ)) → IsCanonical (p ∷ ps) → IsCanonical (q ∷ qs) → ((x : Var) → coefficient x (p ∷ ps) ≡ coefficient x (q ∷ qs)) → var_lt p.0 q.0 ≡ true → ⊥
not_below p q ps qs c d e b =
    c.0 (sym (coefficient-first p ps c) ∙ (e p.0 ∙ coefficient-below p.0 (q ∷ qs) (IsBelowAll-canonical p.0 (q ∷ qs) b d)))

rest_by : (s : ℤ) (l r : ℤ) → (s +ℤ l) ≡ (s +ℤ r) → l ≡ r
rest_by s l r e = omega (arith, ints)

pair_is : (p q : Var × ℤ) → p.0 ≡ q.0 → p.1 ≡ q.1 → p ≡ q
pair_is p q e f = ap₂ (λ (x : Var) (n : ℤ). (x, n)) e f

first_is : (p q : Var × ℤ) (ps qs : List (Var × ℤ)) → IsCanonical (p ∷ ps) → IsCanonical (q ∷ qs) → ((x : Var) → coefficient x (p ∷ ps) ≡ coefficient x (q ∷ qs)) → p.0 ≡ q.0 → p ≡ q
first_is p q ps qs c d e s =
    pair_is p q s (sym (coefficient-first p ps c) ∙ (e p.0 ∙ (ap (λ (x : Var). coefficient x (q ∷ qs)) s ∙ coefficient-first q qs d)))

same_first : (p q : Var × ℤ) (ps qs : List (Var × ℤ)) → IsCanonical (p ∷ ps) → IsCanonical (q ∷ qs) → ((x : Var) → coefficient x (p ∷ ps) ≡ coefficient x (q ∷ qs)) → (t : Bool) → var_eq p.0 q.0 ≡ t → (u : Bool) → var_lt p.0 q.0 ≡ u → p ≡ q
same_first p q ps qs c d e true s u b = first_is p q ps qs c d e (var_eq-true p.0 q.0 s)
same_first p q ps qs c d e false s true b = absurd (not_below p q ps qs c d e b)
same_first p q ps qs c d e false s false b =
    absurd (not_below q p qs ps d c (λ x. sym (e x)) (var_lt_or_gt p.0 q.0 s b))

rest_is : (p q : Var × ℤ) (ps qs : List (Var × ℤ)) (x : Var) → p ≡ q → coefficient x (p ∷ ps) ≡ coefficient x (q ∷ qs) → coefficient x ps ≡ coefficient x qs
rest_is p q ps qs x s e =
    rest_by (if var_eq x q.0 then q.1 else pos 0) (coefficient x ps) (coefficient x qs) (subst (λ (r : Var × ℤ). coefficient x (r ∷ ps) ≡ coefficient x (q ∷ qs)) s e)

pub same_coefficients : (ps qs : List (Var × ℤ)) → IsCanonical ps → IsCanonical qs → ((x : Var) → coefficient x ps ≡ coefficient x qs) → ps ≡ qs
same_coefficients [] [] c d e = refl
same_coefficients [] (q ∷ qs) c d e = absurd (d.0 (sym (coefficient-first q qs d) ∙ sym (e q.0)))
same_coefficients (p ∷ ps) [] c d e = absurd (c.0 (sym (coefficient-first p ps c) ∙ e p.0))
same_coefficients (p ∷ ps) (q ∷ qs) c d e =
    let first : p ≡ q = same_first p q ps qs c d e (var_eq p.0 q.0) refl (var_lt p.0 q.0) refl in
    ap₂ (λ (x : Var × ℤ) (xs : List (Var × ℤ)). x ∷ xs) first (same_coefficients ps qs c.2 d.2 (λ x. rest_is p q ps qs x first (e x)))

-- two canonical lists, each with a constant, that are worth the same everywhere
pub same_values : (ps qs : List (Var × ℤ)) (m n : ℤ) → IsCanonical ps → IsCanonical qs → ((v : Var → ℤ) → (pairs_value v ps +ℤ m) ≡ (pairs_value v qs +ℤ n)) → (ps ≡ qs) × (m ≡ n)
same_values ps qs m n c d e =
    let k : m ≡ n = omega (arith, ints, e (λ _. pos 0), pairs_value-zero ps, pairs_value-zero qs) in
    (same_coefficients ps qs c d (λ x. omega (arith, ints, k, e (unit_at x), pairs_value-unit_at x ps, pairs_value-unit_at x qs)), k)
