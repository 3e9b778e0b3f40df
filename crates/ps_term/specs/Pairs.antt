-- Lists of pairs of a variable and its coefficient.
use Rattle.std.specs.Prelude.{◌≢◌, ℤ, pos, ◌+ℤ◌, ◌*ℤ◌, List, [], ◌∷◌, IsTrue, if◌then◌else◌}
use Rattle.ps_term.specs.declared.var.Var.{Var}
use Rattle.ps_term.specs.Var.{var_lt, var_eq}

-- the variable comes before that of the first pair, if there is one
abbrev pub IsBelow : Var → List (Var × ℤ) → Type 0
IsBelow x [] = Unit {0}
IsBelow x (p ∷ ps) = IsTrue (var_lt x p.0)

-- no coefficient is 0, and the variables strictly ascend
abbrev pub IsCanonical : List (Var × ℤ) → Type 0
IsCanonical [] = Unit {0}
IsCanonical (p ∷ ps) = (p.1 ≢ pos 0) × IsBelow p.0 ps × IsCanonical ps

-- the sum of each coefficient times the value of its variable
abbrev pub pairs_value : (Var → ℤ) → List (Var × ℤ) → ℤ
pairs_value values [] = pos 0
pairs_value values (p ∷ ps) = (p.1 *ℤ values p.0) +ℤ pairs_value values ps

-- the coefficient of a variable, which is 0 where it doesn't stand in the list
abbrev pub coefficient : Var → List (Var × ℤ) → ℤ
coefficient x [] = pos 0
coefficient x (p ∷ ps) = (if var_eq x p.0 then p.1 else pos 0) +ℤ coefficient x ps
