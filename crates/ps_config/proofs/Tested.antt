-- What it says that all members of a list pass a test, or that one does.
use Rattle.std.proofs.Common.{◌≡◌, Bool, true, List, [], ◌∷◌, refl, sym, subst, inl, inr, Contains}
use Rattle.std.specs.List.{list_any, list_all}
use Rattle.std.proofs.lemmas.Bool.{false≢true, and_parts, and_from, or_cases, or_left, or_right}
use Rattle.ps_list.proofs.Members.{nothing, cons_cases, here, there}

pub all_from : {X : Type 0} (p : X → Bool) (xs : List X) → list_all p xs ≡ true → (x : X) → Contains xs x → p x ≡ true
all_from p [] h x c = absurd (nothing x c)
all_from {X} p (y ∷ ys) h x c =
    let both = and_parts (p y) (list_all p ys) h in
    elim (cons_cases y ys x c) [
      | inl is ↦ subst (λ (z : X). p z ≡ true) is both.0
      | inr later ↦ all_from p ys both.1 x later
    ]

pub all_to : {X : Type 0} (p : X → Bool) (xs : List X) → ((x : X) → Contains xs x → p x ≡ true) → list_all p xs ≡ true
all_to p [] h = refl
all_to p (y ∷ ys) h = and_from (p y) (list_all p ys) (h y (here y ys)) (all_to p ys (λ x c. h x (there y ys x c)))

pub any_from : {X : Type 0} (p : X → Bool) (xs : List X) → list_any p xs ≡ true → (x : X) × Contains xs x × (p x ≡ true)
any_from p [] h = absurd (false≢true h)
any_from p (y ∷ ys) h = elim (or_cases (p y) (list_any p ys) h) [
  | inl first ↦ (y, here y ys, first)
  | inr later ↦ (let w = any_from p ys later in (w.0, there y ys w.0 w.1, w.2))
]

pub any_to : {X : Type 0} (p : X → Bool) (xs : List X) (x : X) → Contains xs x → p x ≡ true → list_any p xs ≡ true
any_to p [] x c h = absurd (nothing x c)
any_to {X} p (y ∷ ys) x c h = elim (cons_cases y ys x c) [
  | inl is ↦ or_left (p y) (list_any p ys) (subst (λ (z : X). p z ≡ true) (sym is) h)
  | inr later ↦ or_right (p y) (list_any p ys) (any_to p ys x later h)
]
