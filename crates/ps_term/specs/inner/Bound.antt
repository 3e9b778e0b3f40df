-- Which variables a search in sorted pairs passes.
use Rattle.std.specs.Prelude.{Bool, false, not, Option, Some, None}
use Rattle.ps_term.specs.declared.bound.Bound.{Bound}
use Rattle.ps_term.specs.declared.bound.Bound.TheVariants.{Before, UpTo, Nothing}
use Rattle.ps_term.specs.declared.var.Var.{Var}
use Rattle.ps_term.specs.Var.{var_lt}

-- the search passes the variable
abbrev pub is_within : Bound → Var → Bool
is_within (Before end) x = var_lt x end
is_within (UpTo end) x = not (var_lt end x)
is_within Nothing x = false

-- the search passes the variables up to the last one, if there is a last one
abbrev pub up_to : Option Var → Bound
up_to None = Nothing
up_to (Some x) = UpTo x
