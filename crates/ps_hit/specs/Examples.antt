-- Two sets, of which worked examples speak.
use Rattle.std.specs.Prelude.{ℕ, List, [], ◌∷◌}

abbrev pub two_sets : List (List ℕ)
two_sets = (1 ∷ 2 ∷ []) ∷ (2 ∷ 3 ∷ []) ∷ []
