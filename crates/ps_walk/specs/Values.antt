-- Values of variables, as a walk finds them.
use Rattle.std.specs.Prelude.{ℤ, pos, not, List, [], ◌∷◌, if◌then◌else◌}
use Rattle.std.specs.List.{filter}
use Rattle.ps_term.specs.declared.var.Var.{Var}
use Rattle.ps_term.specs.Var.{var_eq}

-- the value that the list gives to a variable, or 0 where it gives none
abbrev pub value_found : List (Var × ℤ) → Var → ℤ
value_found [] x = pos 0
value_found (p ∷ ps) x = if var_eq x p.0 then p.1 else value_found ps x

-- the same values, but n for the variable x
abbrev pub with_number : Var → ℤ → (Var → ℤ) → Var → ℤ
with_number x n values y = if var_eq y x then n else values y

-- the pairs of the other variables
abbrev pub without : Var → List (Var × ℤ) → List (Var × ℤ)
without x = filter (λ p. not (var_eq x p.0))
