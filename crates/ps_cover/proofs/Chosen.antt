-- The worked example of a first injection.
use Rattle.std.proofs.Common.{◌≡◌, ◌≢◌, ℕ, List, [], ◌∷◌, length, refl, sym, ap, ◌∙◌, subst, inl, inr, ◌⊎◌, Contains, arith}
use Rattle.std.specs.Cmp.Lexicographic.{slice_cmp}
use Rattle.std.specs.Ordering.{nat_cmp}
use Rattle.std.specs.declared.cmp.Ordering.{Ordering}
use Rattle.std.specs.declared.cmp.Ordering.TheVariants.{Less, Equal, Greater}
use Rattle.ps_list.proofs.Members.{nothing, cons_cases, here}
use Rattle.ps_config.specs.Configurations.{IsAt}
use Rattle.ps_config.specs.Forms.{AreThreads}
use Rattle.ps_config.specs.Sent.{sent}
use Rattle.ps_cover.specs.Coverings.{IsCovering, IsFirstCovering, IsFirstInjection}
use Rattle.ps_cover.specs.Examples.{one_thread, two_threads}

only : (t : ℕ) → Contains (0 ∷ []) t → 0 ≡ t
only t h = elim (cons_cases 0 [] t h) [ inl is ↦ is | inr none ↦ absurd (nothing t none) ]

covering_at : (u : ℕ) → IsAt two_threads u 3 → IsCovering one_thread two_threads (0 ∷ []) (u ∷ [])
covering_at u there_is = record {
  long = refl;
  embeds = record {
    apart = λ s t hs ht e. sym (only s hs) ∙ only t ht;
    located = λ t l h.
        let goes : ℕ × ℕ → Type 0 = λ p. IsAt two_threads (sent (0 ∷ []) (u ∷ []) p.0) p.1 in
        let place : ℕ × ℕ = (t, l) in
        elim (cons_cases (0, 3) [] place h) [ inl is ↦ subst goes is there_is | inr none ↦ absurd (nothing place none) ];
    atoms = λ q h. absurd (nothing q h);
  };
}

goes_to : (x l : ℕ) → IsAt two_threads x l → (1 ≡ x) ⊎ (2 ≡ x)
goes_to x l h =
    let place : ℕ × ℕ = (x, l) in
    elim (cons_cases (1, 3) ((2, 3) ∷ []) place h) [
      | inl is ↦ inl (ap (λ (p : ℕ × ℕ). p.0) is)
      | inr later ↦ elim (cons_cases (2, 3) [] place later) [ inl is ↦ inr (ap (λ (p : ℕ × ℕ). p.0) is) | inr none ↦ absurd (nothing place none) ]
    ]

not_greater : (o : Ordering) → o ≢ Greater → (p : Ordering) → o ≡ p → p ≢ Greater
not_greater o n p e h = n (e ∙ h)

first_at : (other : List ℕ) → IsCovering one_thread two_threads (0 ∷ []) other → slice_cmp nat_cmp (1 ∷ []) other ≢ Greater
first_at [] c = absurd (let e : 0 ≡ 1 = c.long in omega (arith, e))
first_at (x ∷ []) c = elim (goes_to x 3 (c.embeds.located 0 3 (here (0, 3) []))) [
  | inl one ↦ subst (λ (y : ℕ). slice_cmp nat_cmp (1 ∷ []) (y ∷ []) ≢ Greater) one (λ h. (let e : Equal ≡ Greater = h in let f : ⊥ = cc in f))
  | inr two ↦ subst (λ (y : ℕ). slice_cmp nat_cmp (1 ∷ []) (y ∷ []) ≢ Greater) two (λ h. (let e : Less ≡ Greater = h in let f : ⊥ = cc in f))
]
first_at (x ∷ y ∷ rest) c = absurd (let e : length (x ∷ y ∷ rest) ≡ 1 = c.long in omega (arith, e))

threads_are : AreThreads one_thread (0 ∷ [])
threads_are = record { ascend = λ k h. (let f : ⊥ = omega (arith, h) in absurd f); occurring = λ t. ((λ h. h), (λ h. h)) }

-- thread 0 goes to thread 1
pub least_is_first : IsFirstInjection one_thread two_threads (1 ∷ [])
least_is_first = (0 ∷ [], threads_are, record { covering = covering_at 1 (here (1, 3) ((2, 3) ∷ [])); first = first_at })

-- and not to thread 2
pub greatest_is_not : ¬ IsFirstInjection one_thread two_threads (2 ∷ [])
greatest_is_not (threads, are, first) = at threads are first
  where
    at : (threads : List ℕ) → AreThreads one_thread threads → IsFirstCovering one_thread two_threads threads (2 ∷ []) → ⊥
    at [] are first = (let e : 1 ≡ 0 = first.covering.long in omega (arith, e))
    at (t ∷ s ∷ rest) are first = (let e : 1 ≡ length (t ∷ s ∷ rest) = first.covering.long in omega (arith, e))
    at (t ∷ []) are first =
        let is : t ≡ 0 = elim (cons_cases t [] 0 ((are.occurring 0).1 (here 0 []))) [ inl e ↦ e | inr none ↦ absurd (nothing 0 none) ] in
        let covering : IsCovering one_thread two_threads (t ∷ []) (1 ∷ []) = subst (λ (x : ℕ). IsCovering one_thread two_threads (x ∷ []) (1 ∷ [])) (sym is) (covering_at 1 (here (1, 3) ((2, 3) ∷ []))) in
        first.first (1 ∷ []) covering refl
