-- Supports as lists that say for each place whether it is one of them.
use Rattle.std.specs.Prelude.{ℕ, Bool, true, not, ◌&&◌, ◌||◌, ◌==◌, List, [], ◌∷◌, map}

-- at which places the vector isn't 0
abbrev pub support_of : List ℕ → List Bool
support_of v = map (λ n. not (n == 0)) v

-- each place of the first is one of the second
abbrev pub is_part : List Bool → List Bool → Bool
is_part [] qs = true
is_part (p ∷ ps) [] = not p && is_part ps []
is_part (p ∷ ps) (q ∷ qs) = (not p || q) && is_part ps qs
