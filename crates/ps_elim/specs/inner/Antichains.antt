-- Vectors of which none has its support inside that of another.
use Rattle.std.specs.Prelude.{◌≡◌, ℕ, false, List, [], ◌∷◌}
use Rattle.std.specs.List.{AllByRecursion}
use Rattle.ps_elim.specs.Supports.{is_inside}

-- neither support is inside the other
abbrev pub AreApart : List ℕ → List ℕ → Type 0
AreApart u v = (is_inside u v ≡ false) × (is_inside v u ≡ false)

-- each vector and each later one
abbrev pub IsAntichain : List (List ℕ) → Type 0
IsAntichain [] = Unit {0}
IsAntichain (v ∷ vs) = AllByRecursion (AreApart v) vs × IsAntichain vs
