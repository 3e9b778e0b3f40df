-- Membership in a list, element by element.
use Rattle.std.proofs.Common.{◌≡◌, ◌<◌, List, [], ◌∷◌, inl, inr, ◌⊎◌, Contains, arith}
use Rattle.std.proofs.lemmas.List.Elements.{Contains-append_left, Contains-append_right, Contains-append_cases, Contains-push, Contains-push_cases}

pub nothing : {X : Type 0} (q : X) → Contains [] q → ⊥
nothing q h = let no : 0 < 0 = omega (arith, h.1) in omega arith

pub cons_cases : {X : Type 0} (x : X) (xs : List X) (q : X) → Contains (x ∷ xs) q → (x ≡ q) ⊎ Contains xs q
cons_cases {X} x xs q h = elim (Contains-append_cases (x ∷ []) xs q h) [
  | inl one ↦ elim (Contains-push_cases [] x q one) [ inl none ↦ absurd (nothing q none) | inr is ↦ inl is ]
  | inr rest ↦ inr rest
]

pub here : {X : Type 0} (x : X) (xs : List X) → Contains (x ∷ xs) x
here x xs = Contains-append_left (x ∷ []) xs x (Contains-push [] x)

pub there : {X : Type 0} (x : X) (xs : List X) (q : X) → Contains xs q → Contains (x ∷ xs) q
there x xs q h = Contains-append_right (x ∷ []) xs q h
