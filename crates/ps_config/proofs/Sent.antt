-- The function that takes the numbers of one list to those of another, place by place.
use Rattle.std.proofs.Common.{◌≡◌, ◌≢◌, ℕ, Bool, true, false, ◌==◌, List, [], ◌∷◌, ◌++◌, length, map, refl, sym, ap, ◌∙◌, subst, inl, inr, Contains, arith, if◌then◌else◌}
use Rattle.std.proofs.lemmas.Bool.{false≢true, eqb-true, eq-eqb, cases_eq}
use Rattle.ps_list.proofs.Members.{nothing, cons_cases, here, there}
use Rattle.ps_config.specs.Sent.{sent}

pub sent_first : (s u t : ℕ) (ss us : List ℕ) → s ≡ t → sent (s ∷ ss) (u ∷ us) t ≡ u
sent_first s u t ss us e = at (s == t) (eq-eqb s t e)
  where
    at : (b : Bool) → b ≡ true → (if b then u else sent ss us t) ≡ u
    at true h = refl
    at false h = absurd (false≢true h)

pub sent_later : (s u t : ℕ) (ss us : List ℕ) → s ≢ t → sent (s ∷ ss) (u ∷ us) t ≡ sent ss us t
sent_later s u t ss us n = at (s == t) refl
  where
    at : (b : Bool) → (s == t) ≡ b → (if b then u else sent ss us t) ≡ sent ss us t
    at true h = absurd (n (eqb-true s t h))
    at false h = refl

pub later_in : (s t : ℕ) (ss : List ℕ) → s ≢ t → Contains (s ∷ ss) t → Contains ss t
later_in s t ss n h = elim (cons_cases s ss t h) [ inl is ↦ absurd (n is) | inr later ↦ later ]

pub sent_image : (new : ℕ → ℕ) (ss : List ℕ) (t : ℕ) → Contains ss t → sent ss (map new ss) t ≡ new t
sent_image new [] t h = absurd (nothing t h)
sent_image new (s ∷ ss) t h = elim (cases_eq s t) [
  | inl is ↦ sent_first s (new s) t ss (map new ss) is ∙ ap new is
  | inr other ↦ sent_later s (new s) t ss (map new ss) other ∙ sent_image new ss t (later_in s t ss other h)
]

-- what stands in the first part of the lists stays where it goes
pub sent_front : (ss us ts vs : List ℕ) (t : ℕ) → length us ≡ length ss → Contains ss t → sent (ss ++ ts) (us ++ vs) t ≡ sent ss us t
sent_front [] us ts vs t long h = absurd (nothing t h)
sent_front (s ∷ ss) [] ts vs t long h = absurd (omega (arith, long))
sent_front (s ∷ ss) (u ∷ us) ts vs t long h = elim (cases_eq s t) [
  | inl is ↦ sent_first s u t (ss ++ ts) (us ++ vs) is ∙ sym (sent_first s u t ss us is)
  | inr other ↦ sent_later s u t (ss ++ ts) (us ++ vs) other ∙ (sent_front ss us ts vs t (omega (arith, long)) (later_in s t ss other h) ∙ sym (sent_later s u t ss us other))
]

-- what doesn't goes where the second part says
pub sent_back : (ss us ts vs : List ℕ) (t : ℕ) → length us ≡ length ss → (¬ Contains ss t) → sent (ss ++ ts) (us ++ vs) t ≡ sent ts vs t
sent_back [] [] ts vs t long h = refl
sent_back [] (u ∷ us) ts vs t long h = absurd (omega (arith, long))
sent_back (s ∷ ss) [] ts vs t long h = absurd (omega (arith, long))
sent_back (s ∷ ss) (u ∷ us) ts vs t long h =
    sent_later s u t (ss ++ ts) (us ++ vs) (λ is. h (subst (λ (x : ℕ). Contains (s ∷ ss) x) is (here s ss))) ∙ sent_back ss us ts vs t (omega (arith, long)) (λ c. h (there s ss t c))

-- a number of the first list goes to one of the second
pub sent_in : (ss us : List ℕ) (t : ℕ) → length us ≡ length ss → Contains ss t → Contains us (sent ss us t)
sent_in [] us t long h = absurd (nothing t h)
sent_in (s ∷ ss) [] t long h = absurd (omega (arith, long))
sent_in (s ∷ ss) (u ∷ us) t long h = elim (cases_eq s t) [
  | inl is ↦ subst (λ (x : ℕ). Contains (u ∷ us) x) (sym (sent_first s u t ss us is)) (here u us)
  | inr other ↦ subst (λ (x : ℕ). Contains (u ∷ us) x) (sym (sent_later s u t ss us other)) (there u us (sent ss us t) (sent_in ss us t (omega (arith, long)) (later_in s t ss other h)))
]
