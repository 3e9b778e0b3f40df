-- Terms at values: what is done, with what is left, is all; and a variable taken out.
use Rattle.std.proofs.Common.{◌≡◌, ◌↔◌, ℕ, ◌<◌, ◌+◌, ℤ, pos, ◌+ℤ◌, ◌*ℤ◌, Bool, true, false, not, cond, if◌then◌else◌, List, [], ◌∷◌, length, get_or, drop, Option, Some, None, SomeIff, FitsSigned, refl, sym, ap, ◌∙◌, subst, arith}
use Rattle.std.specs.Int.{w128}
use Rattle.std.proofs.lemmas.Int.{ints}
use Rattle.std.proofs.lemmas.List.{drop_more}
use Rattle.ps_term.specs.declared.var.Var.{Var}
use Rattle.ps_term.specs.Pairs.{coefficient, pairs_value}
use Rattle.ps_term.specs.Sums.{ScaledFits}
use Rattle.ps_term.specs.Var.{var_eq}
use Rattle.ps_term.proofs.Ring.{distribute_right, mul-zero, zero-mul}
use Rattle.ps_term.proofs.Variables.{var_eq_sym}
use Rattle.ps_walk.specs.inner.Findings.{others, values_beside}
use Rattle.ps_term.specs.Evaluation.{EvaluationFitsFrom}
use Rattle.ps_walk.specs.Values.{with_number, without}

pub record Summed (values : Var → ℤ) (pairs : List (Var × ℤ)) (constant so_far : ℤ) (rest : List (Var × ℤ)) : Type 0 where
  pub total : (so_far +ℤ pairs_value values rest) ≡ pairs_value values pairs
  pub fits : EvaluationFitsFrom values so_far rest constant → EvaluationFitsFrom values (pos 0) pairs constant
  pub fit : EvaluationFitsFrom values (pos 0) pairs constant → EvaluationFitsFrom values so_far rest constant

Summed-turn : (v : Var → ℤ) (ps : List (Var × ℤ)) (c s : ℤ) (p : Var × ℤ) (rest : List (Var × ℤ)) → Summed v ps c s (p ∷ rest) → ScaledFits s p.1 (v p.0) → Summed v ps c (s +ℤ (p.1 *ℤ v p.0)) rest
Summed-turn v ps c s p rest w h =
    record { total = omega (arith, ints, w.total); fits = λ f. w.fits (h, f); fit = λ f. (w.fit f).1 }

-- the same at a place of the list
pub Summed-step : (v : Var → ℤ) (ps qs : List (Var × ℤ)) (c s new k : ℤ) (i : ℕ) (d : Var × ℤ) → Summed v ps c s (drop i qs) → i < length qs → k ≡ v (get_or qs i d).0 → ScaledFits s (get_or qs i d).1 k → new ≡ (s +ℤ ((get_or qs i d).1 *ℤ k)) → Summed v ps c new (drop (i + 1) qs)
Summed-step v ps qs c s new k i d w h e f n =
    let here : Summed v ps c s (get_or qs i d ∷ drop (i + 1) qs) = subst (λ (rs : List (Var × ℤ)). Summed v ps c s rs) (drop_more qs i d h) w in
    let fits : ScaledFits s (get_or qs i d).1 (v (get_or qs i d).0) = subst (λ (z : ℤ). ScaledFits s (get_or qs i d).1 z) e f in
    let is : new ≡ (s +ℤ ((get_or qs i d).1 *ℤ v (get_or qs i d).0)) = n ∙ ap (λ (z : ℤ). s +ℤ ((get_or qs i d).1 *ℤ z)) e in
    subst (λ (z : ℤ). Summed v ps c z (drop (i + 1) qs)) (sym is) (Summed-turn v ps c s (get_or qs i d) (drop (i + 1) qs) here fits)

-- a product that doesn't fit
pub Summed-past : (v : Var → ℤ) (ps qs : List (Var × ℤ)) (c s k : ℤ) (i : ℕ) (d : Var × ℤ) → Summed v ps c s (drop i qs) → i < length qs → k ≡ v (get_or qs i d).0 → ¬ ScaledFits s (get_or qs i d).1 k → ¬ EvaluationFitsFrom v (pos 0) ps c
Summed-past v ps qs c s k i d w h e past f =
    let here : EvaluationFitsFrom v s (get_or qs i d ∷ drop (i + 1) qs) c = subst (λ (rs : List (Var × ℤ)). EvaluationFitsFrom v s rs c) (drop_more qs i d h) (w.fit f) in
    past (subst (λ (z : ℤ). ScaledFits s (get_or qs i d).1 z) (sym e) here.0)

-- a variable's part of a sum, and the rest
pub split_value : (v : Var → ℤ) (x : Var) (n : ℤ) (ps : List (Var × ℤ)) → pairs_value (with_number x n v) ps ≡ ((coefficient x ps *ℤ n) +ℤ pairs_value v (without x ps))
split_value v x n [] = omega (arith, ints, zero-mul n)
split_value v x n (p ∷ ps) =
    split_front v x n p ps (var_eq x p.0) (var_eq p.0 x) (var_eq_sym x p.0) (split_value v x n ps)
  where
    split_front : (v : Var → ℤ) (x : Var) (n : ℤ) (p : Var × ℤ) (ps : List (Var × ℤ)) (t u : Bool) → t ≡ u → pairs_value (with_number x n v) ps ≡ ((coefficient x ps *ℤ n) +ℤ pairs_value v (without x ps)) → ((p.1 *ℤ (if u then n else v p.0)) +ℤ pairs_value (with_number x n v) ps) ≡ ((((if t then p.1 else pos 0) +ℤ coefficient x ps) *ℤ n) +ℤ pairs_value v (cond (not t) (p ∷ without x ps) (without x ps)))
    split_front v x n p ps true true e h = omega (arith, ints, h, distribute_right p.1 (coefficient x ps) n)
    split_front v x n p ps false false e h = omega (arith, ints, h, distribute_right (pos 0) (coefficient x ps) n, zero-mul n)
    split_front v x n p ps true false e h = cc
    split_front v x n p ps false true e h = cc

-- a variable that is left out is as one that is 0
pub beside_value : (left_out : Option Var) (v : Var → ℤ) (ps : List (Var × ℤ)) → pairs_value (values_beside left_out v) ps ≡ pairs_value v (others left_out ps)
beside_value None v ps = refl
beside_value (Some x) v ps =
    let e = split_value v x (pos 0) ps in
    omega (arith, ints, e, mul-zero (coefficient x ps))

same_scaled : (s a z : ℤ) → z ≡ pos 0 → FitsSigned w128 s → ScaledFits s a z × ((s +ℤ (a *ℤ z)) ≡ s)
same_scaled s a z e f =
    let none : (a *ℤ z) ≡ pos 0 = ap (λ (k : ℤ). a *ℤ k) e ∙ mul-zero a in
    let zero_fits : FitsSigned w128 (pos 0) = record { sfits = omega arith } in
    let same : (s +ℤ (a *ℤ z)) ≡ s = omega (arith, ints, none) in
    ((subst (λ (k : ℤ). FitsSigned w128 k) (sym none) zero_fits, subst (λ (k : ℤ). FitsSigned w128 k) (sym same) f), same)

without_fits : (x : Var) (v : Var → ℤ) (s : ℤ) (ps : List (Var × ℤ)) (c : ℤ) → FitsSigned w128 s → EvaluationFitsFrom (with_number x (pos 0) v) s ps c ↔ EvaluationFitsFrom v s (without x ps) c
without_fits x v s [] c f = (λ h. h, λ h. h)
without_fits x v s (p ∷ ps) c f =
    front x v s p ps c f (var_eq x p.0) (var_eq p.0 x) (var_eq_sym x p.0) (λ t. without_fits x v t ps c)
  where
    front : (x : Var) (v : Var → ℤ) (s : ℤ) (p : Var × ℤ) (ps : List (Var × ℤ)) (c : ℤ) → FitsSigned w128 s → (t u : Bool) → t ≡ u → ((z : ℤ) → FitsSigned w128 z → EvaluationFitsFrom (with_number x (pos 0) v) z ps c ↔ EvaluationFitsFrom v z (without x ps) c) → (ScaledFits s p.1 (if u then pos 0 else v p.0) × EvaluationFitsFrom (with_number x (pos 0) v) (s +ℤ (p.1 *ℤ (if u then pos 0 else v p.0))) ps c) ↔ EvaluationFitsFrom v s (cond (not t) (p ∷ without x ps) (without x ps)) c
    front x v s p ps c f true true e h =
        let same = same_scaled s p.1 (pos 0) refl f in
        (λ a. (h s f).0 (subst (λ (z : ℤ). EvaluationFitsFrom (with_number x (pos 0) v) z ps c) same.1 a.1), λ b. (same.0, subst (λ (z : ℤ). EvaluationFitsFrom (with_number x (pos 0) v) z ps c) (sym same.1) ((h s f).1 b)))
    front x v s p ps c f false false e h =
        (λ a. (a.0, (h (s +ℤ (p.1 *ℤ v p.0)) a.0.1).0 a.1), λ b. (b.0, (h (s +ℤ (p.1 *ℤ v p.0)) b.0.1).1 b.1))
    front x v s p ps c f true false e h = absurd (cc)
    front x v s p ps c f false true e h = absurd (cc)

pub beside_fits : (left_out : Option Var) (v : Var → ℤ) (ps : List (Var × ℤ)) (c : ℤ) → EvaluationFitsFrom (values_beside left_out v) (pos 0) ps c ↔ EvaluationFitsFrom v (pos 0) (others left_out ps) c
beside_fits None v ps c = (λ h. h, λ h. h)
beside_fits (Some x) v ps c = without_fits x v (pos 0) ps c (record { sfits = omega arith })

-- the whole value, once nothing is left
pub Summed-end : (left_out : Option Var) (v : Var → ℤ) (ps : List (Var × ℤ)) (c s : ℤ) (o : Option ℤ) → Summed (values_beside left_out v) ps c s [] → SomeIff o (FitsSigned w128 (s +ℤ c)) (s +ℤ c) → SomeIff o (EvaluationFitsFrom v (pos 0) (others left_out ps) c) (pairs_value v (others left_out ps) +ℤ c)
Summed-end left_out v ps c s None w h = λ f. h (w.fit ((beside_fits left_out v ps c).1 f))
Summed-end left_out v ps c s (Some k) w h =
    ((beside_fits left_out v ps c).0 (w.fits h.0), omega (arith, ints, h.1, w.total, beside_value left_out v ps))
