-- Lists without the members that stand already.
use Rattle.std.specs.Prelude.{◌≡◌, ◌⊎◌, List, [], ◌∷◌, ◌++◌, Contains}

-- the second list has those of the first that aren't among the seen ones, in order, each where it stands first
abbrev pub AreFirst : {X : Type 0} → List X → List X → List X → Type 0
AreFirst seen [] first = first ≡ []
AreFirst {X} seen (x ∷ xs) first =
    (Contains seen x × AreFirst seen xs first)
    ⊎ ((¬ Contains seen x) × ((rest : List X) × (first ≡ x ∷ rest) × AreFirst (seen ++ x ∷ []) xs rest))
