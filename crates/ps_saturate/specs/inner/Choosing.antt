-- Sets that are made of the members of a list.
use Rattle.std.specs.Prelude.{ℕ, zero, suc, List, [], ◌∷◌, ◌++◌, map}

-- the lists of so many of the members, in their order
abbrev pub choices : {X : Type 0} → List X → ℕ → List (List X)
choices [] zero = [] ∷ []
choices [] (suc n) = []
choices (x ∷ xs) zero = [] ∷ []
choices {X} (x ∷ xs) (suc n) = map (λ (c : List X). x ∷ c) (choices xs n) ++ choices xs (suc n)

-- each of these after the first members
abbrev pub after_all : {X : Type 0} → List X → List (List X) → List (List X)
after_all {X} first sets = map (λ (c : List X). first ++ c) sets
