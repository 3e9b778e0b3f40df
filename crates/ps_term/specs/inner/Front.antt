-- The front of lists of pairs, as look-ups and the merge of two lists take it.
use Rattle.std.specs.Prelude.{ℤ, pos, Bool, false, List, [], ◌∷◌, Option, Some, None, if◌then◌else◌}
use Rattle.std.specs.Ordering.{int_eq}
use Rattle.ps_term.specs.declared.var.Var.{Var}
use Rattle.ps_term.specs.Var.{var_lt, var_eq}

-- the lesser of the first variables of two lists
abbrev pub least_front : List (Var × ℤ) → List (Var × ℤ) → Option Var
least_front [] [] = None
least_front [] (q ∷ qs) = Some q.0
least_front (p ∷ ps) [] = Some p.0
least_front (p ∷ ps) (q ∷ qs) = if var_lt q.0 p.0 then Some q.0 else Some p.0

-- the variable of the first pair, if there is one
abbrev pub first_variable : List (Var × ℤ) → Option Var
first_variable [] = None
first_variable (p ∷ ps) = Some p.0

-- the first coefficient, if it is that of the variable, or else 0
abbrev pub front_coefficient : Var → List (Var × ℤ) → ℤ
front_coefficient x [] = pos 0
front_coefficient x (p ∷ ps) = if var_eq x p.0 then p.1 else pos 0

-- the list without its first pair, if that is of the variable
abbrev pub after_front : Var → List (Var × ℤ) → List (Var × ℤ)
after_front x [] = []
after_front x (p ∷ ps) = if var_eq x p.0 then ps else p ∷ ps

-- the pair of the variable and the coefficient, or none where that is 0
abbrev pub kept_pair : Var → ℤ → List (Var × ℤ)
kept_pair x n = if int_eq n (pos 0) then [] else (x, n) ∷ []

-- the first pair, if there is one, is the variable's
abbrev pub is_first : {A : Type 0} → Var → List (Var × A) → Bool
is_first x [] = false
is_first x (p ∷ ps) = var_eq x p.0
