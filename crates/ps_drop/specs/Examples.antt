-- Some pairs, of which worked examples speak.
use Rattle.std.specs.Prelude.{ℕ, List, [], ◌∷◌}
use Rattle.ps_drop.specs.declared.pair.Pair.{Pair}

abbrev pub pair : ℕ → ℕ → Pair
pair node other = record { node = node; other = other }

-- 1 and 2 have the parent 0, and 3 has the parent 1
abbrev pub tree : List Pair
tree = pair 1 0 ∷ pair 2 0 ∷ pair 3 1 ∷ []

-- 0 links to 1 and 2, and 2 to itself
abbrev pub links : List Pair
links = pair 0 1 ∷ pair 0 2 ∷ pair 2 2 ∷ []
