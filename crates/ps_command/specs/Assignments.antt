-- Lists of pairs of a variable and a term.
use Rattle.std.specs.Prelude.{Bool, true, ◌&&◌, List, [], ◌∷◌}
use Rattle.ps_term.specs.declared.term.Term.{Term}
use Rattle.ps_term.specs.declared.var.Var.{Var}
use Rattle.ps_term.specs.Var.{var_lt}

-- the variable comes before that of the first pair, if there is one
abbrev pub is_before_all : Var → List (Var × Term) → Bool
is_before_all x [] = true
is_before_all x (p ∷ ps) = var_lt x p.0

-- the variables strictly ascend
abbrev pub ascends : List (Var × Term) → Bool
ascends [] = true
ascends (p ∷ ps) = is_before_all p.0 ps && ascends ps
