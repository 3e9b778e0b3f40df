-- Declared names, and the variables that they stand for.
use Rattle.std.specs.Prelude.{ℕ, ◌+◌, List, [], ◌∷◌, Option, Some, None, option_map, if◌then◌else◌}
use Rattle.std.specs.Str.{bytes_eq}
use Rattle.ps_term.specs.declared.var.Var.{Var}
use Rattle.ps_term.specs.declared.var.Var.TheVariants.{Global, Local}

-- the names of the globals and of the locals, in their order
pub record Names : Type 0 where
  pub globals : List (List ℕ)
  pub locals : List (List ℕ)

-- the place of a name in a list, counted from a number
abbrev pub position_from : ℕ → List ℕ → List (List ℕ) → Option ℕ
position_from i name [] = None
position_from i name (n ∷ ns) = if bytes_eq n name then Some i else position_from (i + 1) name ns

-- the one that is there
abbrev pub first_of : {A : Type 0} → Option A → Option A → Option A
first_of (Some x) b = Some x
first_of None b = b

-- the variable of a declared name
abbrev pub variable_of_name : Names → List ℕ → Option Var
variable_of_name names name =
    first_of (option_map Global (position_from 0 name names.globals)) (option_map (Local 0) (position_from 0 name names.locals))
