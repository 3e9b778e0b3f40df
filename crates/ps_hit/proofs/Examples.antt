-- Worked examples of the definitions, at the sets 1 2 and 2 3.
use Rattle.std.proofs.Common.{◌≡◌, ℕ, List, [], ◌∷◌, sym, ◌∙◌, subst, inl, inr, Contains, arith}
use Rattle.std.proofs.lemmas.List.Elements.{All-nil, All-cons, All-head}
use Rattle.ps_hit.specs.Examples.{two_sets}
use Rattle.ps_hit.specs.Hitting.{Meets, IsHit, IsMinimalHit}
use Rattle.ps_list.proofs.Members.{nothing, cons_cases, here, there}

only : (n m : ℕ) → Contains (n ∷ []) m → m ≡ n
only n m h = elim (cons_cases n [] m h) [ inl is ↦ sym is | inr none ↦ absurd (nothing m none) ]

-- 2 meets both sets
two_hits : IsHit two_sets (2 ∷ [])
two_hits = All-cons (Meets (2 ∷ [])) (1 ∷ 2 ∷ []) ((2 ∷ 3 ∷ []) ∷ []) (2, here 2 [], there 1 (2 ∷ []) 2 (here 2 []))
    (All-cons (Meets (2 ∷ [])) (2 ∷ 3 ∷ []) [] (2, here 2 [], here 2 (3 ∷ [])) (All-nil (Meets (2 ∷ []))))

-- and is a minimal hitting set
pub two_is_minimal : IsMinimalHit two_sets (2 ∷ [])
two_is_minimal = record {
  hits = two_hits;
  minimal = λ part strict hits. strict.1 (λ n h.
      let met : Meets part (1 ∷ 2 ∷ []) = All-head (Meets part) (1 ∷ 2 ∷ []) ((2 ∷ 3 ∷ []) ∷ []) hits in
      subst (λ (m : ℕ). Contains part m) (only 2 met.0 (strict.0 met.0 met.1) ∙ sym (only 2 n h)) met.1);
}

pub one_two_hits : IsHit two_sets (1 ∷ 2 ∷ [])
one_two_hits = All-cons (Meets (1 ∷ 2 ∷ [])) (1 ∷ 2 ∷ []) ((2 ∷ 3 ∷ []) ∷ []) (1, here 1 (2 ∷ []), here 1 (2 ∷ []))
    (All-cons (Meets (1 ∷ 2 ∷ [])) (2 ∷ 3 ∷ []) [] (2, there 1 (2 ∷ []) 2 (here 2 []), here 2 (3 ∷ [])) (All-nil (Meets (1 ∷ 2 ∷ []))))

-- 1 2 is not minimal, since 2 alone meets both
pub one_two_is_not : ¬ IsMinimalHit two_sets (1 ∷ 2 ∷ [])
one_two_is_not is =
    is.minimal (2 ∷ [])
    ((λ n h. there 1 (2 ∷ []) n h), (λ back. let no_such : 1 ≡ 2 = only 2 1 (back 1 (here 1 (2 ∷ []))) in omega (arith, no_such))) two_hits

-- of no set the empty set is a minimal hitting set
pub empty_of_none : IsMinimalHit [] []
empty_of_none = record { hits = All-nil (Meets []); minimal = λ part strict hits. strict.1 (λ n h. absurd (nothing n h)) }

-- an empty set has no hitting set
pub none_of_empty : (hit : List ℕ) → ¬ IsHit ([] ∷ []) hit
none_of_empty hit h = let met : Meets hit [] = All-head (Meets hit) [] [] h in nothing met.0 met.2
