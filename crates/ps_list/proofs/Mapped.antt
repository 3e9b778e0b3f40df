-- Members of lists made from others.
use Rattle.std.proofs.Common.{◌≡◌, Bool, true, false, cond, List, [], ◌∷◌, map, refl, sym, ap, ap₂, ◌∙◌, subst, inl, inr, ◌⊎◌, Contains}
use Rattle.std.specs.List.{flat_map, filter}
use Rattle.std.proofs.lemmas.Bool.{both_ways}
use Rattle.std.proofs.lemmas.List.Elements.{Contains-append_left, Contains-append_right, Contains-append_cases}
use Rattle.ps_list.proofs.Members.{nothing, cons_cases, here, there}

-- ---- a mapped list

pub mapped : {X Y : Type 0} (f : X → Y) (xs : List X) (x : X) → Contains xs x → Contains (map f xs) (f x)
mapped f [] x h = absurd (nothing x h)
mapped {X} {Y} f (y ∷ ys) x h = elim (cons_cases y ys x h) [
  | inl is ↦ subst (λ (z : X). Contains (f y ∷ map f ys) (f z)) is (here (f y) (map f ys))
  | inr later ↦ there (f y) (map f ys) (f x) (mapped f ys x later)
]

pub from_mapped : {X Y : Type 0} (f : X → Y) (xs : List X) (y : Y) → Contains (map f xs) y → (x : X) × Contains xs x × (f x ≡ y)
from_mapped f [] y h = absurd (nothing y h)
from_mapped f (x ∷ xs) y h = elim (cons_cases (f x) (map f xs) y h) [
  | inl is ↦ (x, here x xs, is)
  | inr later ↦ (let w = from_mapped f xs y later in (w.0, there x xs w.0 w.1, w.2))
]

-- ---- lists put together

pub flat_mapped : {X A : Type 0} (f : X → List A) (xs : List X) (x : X) (a : A) → Contains xs x → Contains (f x) a → Contains (flat_map f xs) a
flat_mapped f [] x a h k = absurd (nothing x h)
flat_mapped {X} {A} f (y ∷ ys) x a h k = elim (cons_cases y ys x h) [
  | inl is ↦ Contains-append_left (f y) (flat_map f ys) a (subst (λ (z : X). Contains (f z) a) (sym is) k)
  | inr later ↦ Contains-append_right (f y) (flat_map f ys) a (flat_mapped f ys x a later k)
]

pub from_flat_mapped : {X A : Type 0} (f : X → List A) (xs : List X) (a : A) → Contains (flat_map f xs) a → (x : X) × Contains xs x × Contains (f x) a
from_flat_mapped f [] a h = absurd (nothing a h)
from_flat_mapped f (x ∷ xs) a h = elim (Contains-append_cases (f x) (flat_map f xs) a h) [
  | inl first ↦ (x, here x xs, first)
  | inr later ↦ (let w = from_flat_mapped f xs a later in (w.0, there x xs w.0 w.1, w.2))
]

-- ---- what a test keeps

kept_at : {X : Type 0} (p : X → Bool) (y : X) (ys : List X) (x : X) (t : Bool) → p y ≡ t → p x ≡ true → (Contains ys x → Contains (filter p ys) x) → (y ≡ x) ⊎ Contains ys x
    → Contains (cond t (y ∷ filter p ys) (filter p ys)) x
kept_at {X} p y ys x true e h rest (inl is) = subst (λ (z : X). Contains (y ∷ filter p ys) z) is (here y (filter p ys))
kept_at p y ys x true e h rest (inr later) = there y (filter p ys) x (rest later)
kept_at {X} p y ys x false e h rest (inl is) = absurd (both_ways (p y) e (ap p is ∙ h))
kept_at p y ys x false e h rest (inr later) = rest later

pub kept : {X : Type 0} (p : X → Bool) (xs : List X) (x : X) → Contains xs x → p x ≡ true → Contains (filter p xs) x
kept p [] x h k = absurd (nothing x h)
kept p (y ∷ ys) x h k = kept_at p y ys x (p y) refl k (λ later. kept p ys x later k) (cons_cases y ys x h)

from_kept_at : {X : Type 0} (p : X → Bool) (y : X) (ys : List X) (x : X) (t : Bool) → p y ≡ t → (Contains (filter p ys) x → Contains ys x × (p x ≡ true))
    → Contains (cond t (y ∷ filter p ys) (filter p ys)) x → Contains (y ∷ ys) x × (p x ≡ true)
from_kept_at {X} p y ys x true e rest h = elim (cons_cases y (filter p ys) x h) [
  | inl is ↦ (subst (λ (z : X). Contains (y ∷ ys) z) is (here y ys), ap p (sym is) ∙ e)
  | inr later ↦ (let w = rest later in (there y ys x w.0, w.1))
]
from_kept_at p y ys x false e rest h = (let w = rest h in (there y ys x w.0, w.1))

pub from_kept : {X : Type 0} (p : X → Bool) (xs : List X) (x : X) → Contains (filter p xs) x → Contains xs x × (p x ≡ true)
from_kept p [] x h = absurd (nothing x h)
from_kept p (y ∷ ys) x h = from_kept_at p y ys x (p y) refl (from_kept p ys x) h

-- ---- maps that agree, and maps of maps

pub same_map : {X Y : Type 0} (f g : X → Y) (xs : List X) → ((x : X) → Contains xs x → f x ≡ g x) → map f xs ≡ map g xs
same_map f g [] h = refl
same_map {X} {Y} f g (x ∷ xs) h = ap₂ (λ (y : Y) (ys : List Y). y ∷ ys) (h x (here x xs)) (same_map f g xs (λ z c. h z (there x xs z c)))

pub map_map : {X Y Z : Type 0} (f : X → Y) (g : Y → Z) (xs : List X) → map g (map f xs) ≡ map (λ x. g (f x)) xs
map_map f g [] = refl
map_map {X} {Y} {Z} f g (x ∷ xs) = ap (λ (ys : List Z). g (f x) ∷ ys) (map_map f g xs)

pub map_same : {X : Type 0} (f : X → X) (xs : List X) → ((x : X) → Contains xs x → f x ≡ x) → map f xs ≡ xs
map_same f [] h = refl
map_same {X} f (x ∷ xs) h = ap₂ (λ (y : X) (ys : List X). y ∷ ys) (h x (here x xs)) (map_same f xs (λ z c. h z (there x xs z c)))
