-- Lists of pairs of a variable and something that stands for it, in the order of the variables.
use Rattle.std.specs.Prelude.{List, [], ◌∷◌, if◌then◌else◌}
use Rattle.ps_term.specs.Var.{var_eq, var_lt}
use Rattle.ps_term.specs.declared.var.Var.{Var}

-- the list with this for the variable, which stands in its place in the order of variables
abbrev pub put : {A : Type 0} → Var → A → List (Var × A) → List (Var × A)
put x a [] = (x, a) ∷ []
put x a (p ∷ ps) =
    if var_eq x p.0 then (x, a) ∷ ps
    else if var_lt x p.0 then (x, a) ∷ p ∷ ps
    else p ∷ put x a ps
