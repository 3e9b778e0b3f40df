-- Terms at values: what is done, with what is left, is all.
use Rattle.std.proofs.Common.{◌≡◌, ℕ, ◌<◌, ◌+◌, ℤ, pos, ◌+ℤ◌, ◌*ℤ◌, List, [], ◌∷◌, length, get_or, drop, Option, Some, None, SomeIff, FitsSigned, sym, ap, ◌∙◌, subst, arith}
use Rattle.std.specs.Int.{w128}
use Rattle.std.proofs.lemmas.Int.{ints}
use Rattle.std.proofs.lemmas.List.{drop_more}
use Rattle.ps_term.specs.declared.var.Var.{Var}
use Rattle.ps_term.specs.Evaluation.{EvaluationFitsFrom}
use Rattle.ps_term.specs.Pairs.{pairs_value}
use Rattle.ps_term.specs.Sums.{ScaledFits}

pub record Evaluated (values : Var → ℤ) (pairs : List (Var × ℤ)) (constant so_far : ℤ) (rest : List (Var × ℤ)) : Type 0 where
  pub total : (so_far +ℤ pairs_value values rest) ≡ pairs_value values pairs
  pub fits : EvaluationFitsFrom values so_far rest constant → EvaluationFitsFrom values (pos 0) pairs constant
  pub fit : EvaluationFitsFrom values (pos 0) pairs constant → EvaluationFitsFrom values so_far rest constant

pub Evaluated-start : (v : Var → ℤ) (ps : List (Var × ℤ)) (c : ℤ) → Evaluated v ps c (pos 0) ps
Evaluated-start v ps c = record { total = omega (arith, ints); fits = λ f. f; fit = λ f. f }

Evaluated-turn : (v : Var → ℤ) (ps : List (Var × ℤ)) (c s : ℤ) (p : Var × ℤ) (rest : List (Var × ℤ)) → Evaluated v ps c s (p ∷ rest) → ScaledFits s p.1 (v p.0) → Evaluated v ps c (s +ℤ (p.1 *ℤ v p.0)) rest
Evaluated-turn v ps c s p rest w h =
    record { total = omega (arith, ints, w.total); fits = λ f. w.fits (h, f); fit = λ f. (w.fit f).1 }

-- the same at a place of the list
pub Evaluated-step : (v : Var → ℤ) (ps qs : List (Var × ℤ)) (c s new k : ℤ) (i : ℕ) (d : Var × ℤ) → Evaluated v ps c s (drop i qs) → i < length qs → k ≡ v (get_or qs i d).0 → ScaledFits s (get_or qs i d).1 k → new ≡ (s +ℤ ((get_or qs i d).1 *ℤ k)) → Evaluated v ps c new (drop (i + 1) qs)
Evaluated-step v ps qs c s new k i d w h e f n =
    let here : Evaluated v ps c s (get_or qs i d ∷ drop (i + 1) qs) = subst (λ (rs : List (Var × ℤ)). Evaluated v ps c s rs) (drop_more qs i d h) w in
    let fits : ScaledFits s (get_or qs i d).1 (v (get_or qs i d).0) = subst (λ (z : ℤ). ScaledFits s (get_or qs i d).1 z) e f in
    let is : new ≡ (s +ℤ ((get_or qs i d).1 *ℤ v (get_or qs i d).0)) = n ∙ ap (λ (z : ℤ). s +ℤ ((get_or qs i d).1 *ℤ z)) e in
    subst (λ (z : ℤ). Evaluated v ps c z (drop (i + 1) qs)) (sym is) (Evaluated-turn v ps c s (get_or qs i d) (drop (i + 1) qs) here fits)

-- a product that doesn't fit
pub Evaluated-past : (v : Var → ℤ) (ps qs : List (Var × ℤ)) (c s k : ℤ) (i : ℕ) (d : Var × ℤ) → Evaluated v ps c s (drop i qs) → i < length qs → k ≡ v (get_or qs i d).0 → ¬ ScaledFits s (get_or qs i d).1 k → ¬ EvaluationFitsFrom v (pos 0) ps c
Evaluated-past v ps qs c s k i d w h e past f =
    let here : EvaluationFitsFrom v s (get_or qs i d ∷ drop (i + 1) qs) c = subst (λ (rs : List (Var × ℤ)). EvaluationFitsFrom v s rs c) (drop_more qs i d h) (w.fit f) in
    past (subst (λ (z : ℤ). ScaledFits s (get_or qs i d).1 z) (sym e) here.0)

-- the whole value, once nothing is left
pub Evaluated-end : (v : Var → ℤ) (ps : List (Var × ℤ)) (c s : ℤ) (o : Option ℤ) → Evaluated v ps c s [] → SomeIff o (FitsSigned w128 (s +ℤ c)) (s +ℤ c) → SomeIff o (EvaluationFitsFrom v (pos 0) ps c) (pairs_value v ps +ℤ c)
Evaluated-end v ps c s None w h = λ f. h (w.fit f)
Evaluated-end v ps c s (Some k) w h = (w.fits h.0, omega (arith, ints, h.1, w.total))
