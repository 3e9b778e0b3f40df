-- The lexicographic order of vectors, by their entries that aren't 0.
use Rattle.std.specs.Prelude.{ℤ, Bool, true, false, ◌&&◌, ◌||◌, List, [], ◌∷◌, int_lt}
use Rattle.std.specs.Ordering.{int_eq}
use Rattle.ps_term.specs.Var.{var_eq, var_lt}
use Rattle.ps_term.specs.declared.var.Var.{Var}

-- the pair stands after the other one, or at its place with a lesser entry
abbrev pub is_lesser : Var × ℤ → Var × ℤ → Bool
is_lesser p q = var_lt q.0 p.0 || (var_eq p.0 q.0 && int_lt p.1 q.1)

-- the two are one pair
abbrev pub is_same_pair : Var × ℤ → Var × ℤ → Bool
is_same_pair p q = var_eq p.0 q.0 && int_eq p.1 q.1

-- the first pairs that differ decide; where there is none, the shorter list comes first
abbrev pub comes_before : List (Var × ℤ) → List (Var × ℤ) → Bool
comes_before [] [] = false
comes_before [] (q ∷ qs) = true
comes_before (p ∷ ps) [] = false
comes_before (p ∷ ps) (q ∷ qs) = is_lesser p q || (is_same_pair p q && comes_before ps qs)
