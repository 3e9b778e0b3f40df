-- Rows that multipliers refute hold together at no values.
use Rattle.std.proofs.Common.{◌≡◌, ℕ, zero, suc, ◌≤◌, ℤ, pos, negsuc, ◌+ℤ◌, ◌*ℤ◌, ◌≤ℤ◌, Bool, true, false, if◌then◌else◌, List, [], ◌∷◌, ◌++◌, length, All, refl, sym, ap, ◌∙◌, subst, arith}
use Rattle.std.specs.List.{AllByRecursion}
use Rattle.std.proofs.lemmas.Int.{ints}
use Rattle.std.proofs.lemmas.List.Elements.{recursion_from_All}
use Rattle.ps_term.specs.declared.row.Row.{Row}
use Rattle.ps_term.specs.declared.term.Term.{Term}
use Rattle.ps_term.specs.declared.var.Var.{Var}
use Rattle.ps_term.specs.Pairs.{coefficient, pairs_value}
use Rattle.ps_term.specs.Row.{Holds}
use Rattle.ps_term.specs.Term.{value}
use Rattle.ps_term.specs.Var.{var_eq}
use Rattle.ps_term.proofs.Canonical.{coefficient-other, pairs_value-append}
use Rattle.ps_term.proofs.Lookups.{coefficient-append}
use Rattle.ps_term.proofs.Ring.{distribute, assoc, mul-zero, zero-mul, distribute_right}
use Rattle.ps_term.proofs.Variables.{var_eq-true, var_eq_refl}
use Rattle.ps_farkas.specs.Refutes.{weighted, Refutes}

-- ---- the pairs of the weighted sum, each for itself
abbrev scaled : ℤ → List (Var × ℤ) → List (Var × ℤ)
scaled n [] = []
scaled n (p ∷ ps) = (p.0, n *ℤ p.1) ∷ scaled n ps

abbrev all_pairs : List Row → List ℕ → List (Var × ℤ)
all_pairs (r ∷ rs) (n ∷ ns) = scaled (pos n) r.term.pairs ++ all_pairs rs ns
all_pairs [] ns = []
all_pairs (r ∷ rs) [] = []

times_if : (n c : ℤ) (t : Bool) → (if t then n *ℤ c else pos 0) ≡ (n *ℤ (if t then c else pos 0))
times_if n c true = refl
times_if n c false = sym (mul-zero n)

coefficient-scaled : (x : Var) (n : ℤ) (ps : List (Var × ℤ)) → coefficient x (scaled n ps) ≡ (n *ℤ coefficient x ps)
coefficient-scaled x n [] = sym (mul-zero n)
coefficient-scaled x n (p ∷ ps) =
    omega (arith, ints, coefficient-scaled x n ps, times_if n p.1 (var_eq x p.0), distribute n (if var_eq x p.0 then p.1 else pos 0) (coefficient x ps))

pairs_value-scaled : (v : Var → ℤ) (n : ℤ) (ps : List (Var × ℤ)) → pairs_value v (scaled n ps) ≡ (n *ℤ pairs_value v ps)
pairs_value-scaled v n [] = sym (mul-zero n)
pairs_value-scaled v n (p ∷ ps) =
    omega (arith, ints, pairs_value-scaled v n ps, assoc n p.1 (v p.0), distribute n (p.1 *ℤ v p.0) (pairs_value v ps))

coefficient-all_pairs : (x : Var) (rows : List Row) (ns : List ℕ) → coefficient x (all_pairs rows ns) ≡ weighted (λ t. coefficient x t.pairs) rows ns
coefficient-all_pairs x (r ∷ rs) (n ∷ ns) =
    omega (arith, ints, coefficient-append x (scaled (pos n) r.term.pairs) (all_pairs rs ns), coefficient-scaled x (pos n) r.term.pairs, coefficient-all_pairs x rs ns)
coefficient-all_pairs x [] ns = refl
coefficient-all_pairs x (r ∷ rs) [] = refl

pairs_value-all_pairs : (v : Var → ℤ) (rows : List Row) (ns : List ℕ) → pairs_value v (all_pairs rows ns) ≡ weighted (λ t. pairs_value v t.pairs) rows ns
pairs_value-all_pairs v (r ∷ rs) (n ∷ ns) =
    omega (arith, ints, pairs_value-append v (scaled (pos n) r.term.pairs) (all_pairs rs ns), pairs_value-scaled v (pos n) r.term.pairs, pairs_value-all_pairs v rs ns)
pairs_value-all_pairs v [] ns = refl
pairs_value-all_pairs v (r ∷ rs) [] = refl

-- ---- a list whose coefficients are all 0 is worth 0
abbrev without : Var → List (Var × ℤ) → List (Var × ℤ)
without y [] = []
without y (p ∷ ps) = if var_eq y p.0 then without y ps else p ∷ without y ps

length-without : (y : Var) (ps : List (Var × ℤ)) → length (without y ps) ≤ length ps
length-without y [] = omega arith
length-without y (p ∷ ps) = by_test (var_eq y p.0) (length-without y ps)
  where
    by_test : (t : Bool) → length (without y ps) ≤ length ps → length (if t then without y ps else p ∷ without y ps) ≤ length (p ∷ ps)
    by_test true h = omega arith
    by_test false h = omega arith

pairs_value-without : (v : Var → ℤ) (y : Var) (ps : List (Var × ℤ)) → pairs_value v ps ≡ ((coefficient y ps *ℤ v y) +ℤ pairs_value v (without y ps))
pairs_value-without v y [] = omega (arith, ints, zero-mul (v y))
pairs_value-without v y (p ∷ ps) = by_test (var_eq y p.0) refl (pairs_value-without v y ps)
  where
    by_test : (t : Bool) → var_eq y p.0 ≡ t → pairs_value v ps ≡ ((coefficient y ps *ℤ v y) +ℤ pairs_value v (without y ps)) → pairs_value v (p ∷ ps) ≡ ((((if t then p.1 else pos 0) +ℤ coefficient y ps) *ℤ v y) +ℤ pairs_value v (if t then without y ps else p ∷ without y ps))
    by_test true e h =
        let same : (p.1 *ℤ v p.0) ≡ (p.1 *ℤ v y) = ap (λ (x : Var). p.1 *ℤ v x) (sym (var_eq-true y p.0 e)) in
        omega (arith, ints, h, same, distribute_right p.1 (coefficient y ps) (v y))
    by_test false e h =
        omega (arith, ints, h, distribute_right (pos 0) (coefficient y ps) (v y), zero-mul (v y))

-- a variable's coefficient in the rest is 0, or what it was
coefficient-without : (x y : Var) (ps : List (Var × ℤ)) → coefficient x (without y ps) ≡ (if var_eq y x then pos 0 else coefficient x ps)
coefficient-without x y ps = by_same (var_eq y x) refl
  where
    gone_at : (p : Var × ℤ) (qs : List (Var × ℤ)) → var_eq y x ≡ true → (t : Bool) → var_eq y p.0 ≡ t → coefficient x (without y qs) ≡ pos 0 → coefficient x (if t then without y qs else p ∷ without y qs) ≡ pos 0
    gone_at p qs e true f h = h
    gone_at p qs e false f h =
        coefficient-other x p (without y qs) (subst (λ (z : Var). var_eq z p.0 ≡ false) (var_eq-true y x e) f) ∙ h

    gone : var_eq y x ≡ true → (qs : List (Var × ℤ)) → coefficient x (without y qs) ≡ pos 0
    gone e [] = refl
    gone e (p ∷ qs) = gone_at p qs e (var_eq y p.0) refl (gone e qs)

    other : (p : Var × ℤ) → var_eq y x ≡ false → var_eq y p.0 ≡ true → (t : Bool) → var_eq x p.0 ≡ t → var_eq x p.0 ≡ false
    other p e f false g = g
    other p e f true g =
        sym (sym e ∙ (ap (λ (z : Var). var_eq y z) (var_eq-true x p.0 g) ∙ (f ∙ sym g)))

    kept_at : (p : Var × ℤ) (qs : List (Var × ℤ)) → var_eq y x ≡ false → (t : Bool) → var_eq y p.0 ≡ t → coefficient x (without y qs) ≡ coefficient x qs → coefficient x (if t then without y qs else p ∷ without y qs) ≡ coefficient x (p ∷ qs)
    kept_at p qs e true f h = h ∙ sym (coefficient-other x p qs (other p e f (var_eq x p.0) refl))
    kept_at p qs e false f h =
        ap (λ (z : ℤ). (if var_eq x p.0 then p.1 else pos 0) +ℤ z) h

    kept : var_eq y x ≡ false → (qs : List (Var × ℤ)) → coefficient x (without y qs) ≡ coefficient x qs
    kept e [] = refl
    kept e (p ∷ qs) = kept_at p qs e (var_eq y p.0) refl (kept e qs)

    by_same : (t : Bool) → var_eq y x ≡ t → coefficient x (without y ps) ≡ (if t then pos 0 else coefficient x ps)
    by_same true e = gone e ps
    by_same false e = kept e ps

still_zero : (t : Bool) (n : ℤ) → n ≡ pos 0 → (if t then pos 0 else n) ≡ pos 0
still_zero true n e = refl
still_zero false n e = e

worth_nothing : (size : ℕ) (v : Var → ℤ) (ps : List (Var × ℤ)) → length ps ≤ size → ((x : Var) → coefficient x ps ≡ pos 0) → pairs_value v ps ≡ pos 0
worth_nothing size v [] h z = refl
worth_nothing zero v (p ∷ ps) h z = absurd (omega arith)
worth_nothing (suc size) v (p ∷ ps) h z =
    let qs = without p.0 (p ∷ ps) in
    let shorter : length qs ≤ size = (subst (λ (t : Bool). length (if t then without p.0 ps else p ∷ without p.0 ps) ≤ size) (sym (var_eq_refl p.0)) (omega (arith, length-without p.0 ps))) in
    let rest : pairs_value v qs ≡ pos 0 = worth_nothing size v qs shorter (λ x. coefficient-without x p.0 (p ∷ ps) ∙ still_zero (var_eq p.0 x) (coefficient x (p ∷ ps)) (z x)) in
    let none : (coefficient p.0 (p ∷ ps) *ℤ v p.0) ≡ pos 0 = ap (λ (n : ℤ). n *ℤ v p.0) (z p.0) ∙ zero-mul (v p.0) in
    pairs_value-without v p.0 (p ∷ ps) ∙ omega (arith, ints, none, rest)

-- ---- the weighted sum of rows that hold
weighted-sum : (f g : Term → ℤ) (rows : List Row) (ns : List ℕ) → weighted (λ t. f t +ℤ g t) rows ns ≡ (weighted f rows ns +ℤ weighted g rows ns)
weighted-sum f g (r ∷ rs) (n ∷ ns) =
    omega (arith, ints, distribute (pos n) (f r.term) (g r.term), weighted-sum f g rs ns)
weighted-sum f g [] ns = refl
weighted-sum f g (r ∷ rs) [] = refl

at_most_zero : (n : ℕ) (t : ℤ) → t ≤ℤ pos 0 → (pos n *ℤ t) ≤ℤ pos 0
at_most_zero n (pos zero) h = omega (arith, ints, mul-zero (pos n))
at_most_zero n (pos (suc m)) h = absurd (omega (arith, ints))
at_most_zero n (negsuc m) h = omega (arith, ints)

weighted-holds : (v : Var → ℤ) (rows : List Row) (ns : List ℕ) → AllByRecursion (Holds v) rows → weighted (λ t. value v t) rows ns ≤ℤ pos 0
weighted-holds v (r ∷ rs) (n ∷ ns) h =
    omega (arith, ints, at_most_zero n (value v r.term) h.0, weighted-holds v rs ns h.1)
weighted-holds v [] ns h = omega (arith, ints)
weighted-holds v (r ∷ rs) [] h = omega (arith, ints)

pub Refutes-no_values : (rows : List Row) (ns : List ℕ) → Refutes rows ns → (v : Var → ℤ) → ¬ All (Holds v) rows
Refutes-no_values rows ns r v h =
    let zeros : pairs_value v (all_pairs rows ns) ≡ pos 0 = worth_nothing (length (all_pairs rows ns)) v (all_pairs rows ns) (omega arith) (λ x. coefficient-all_pairs x rows ns ∙ r.cancels x) in
    let none : weighted (λ t. pairs_value v t.pairs) rows ns ≡ pos 0 = sym (pairs_value-all_pairs v rows ns) ∙ zeros in
    let low = weighted-holds v rows ns (recursion_from_All (Holds v) rows h) in
    absurd (omega (arith, ints, none, low, r.positive, weighted-sum (λ t. pairs_value v t.pairs) (λ t. t.constant) rows ns))
