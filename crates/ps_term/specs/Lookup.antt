-- Places between variables, as a walk over them in ascending order has them.
use Rattle.std.specs.Prelude.{Bool, false, not, Option, Some, None, IsTrue, IsFalse}
use Rattle.ps_term.specs.declared.var.Var.{Var}
use Rattle.ps_term.specs.Var.{var_lt}

-- the variable isn't after the last one that the walk took, if it took any
abbrev pub is_up_to : Option Var → Var → Bool
is_up_to None x = false
is_up_to (Some y) x = not (var_lt y x)

-- the variable comes after the last one that the walk took, if it took any
abbrev pub IsAfter : Option Var → Var → Type 0
IsAfter last x = IsFalse (is_up_to last x)

-- the variable comes before the next one that the walk takes, if there is one
abbrev pub IsBefore : Var → Option Var → Type 0
IsBefore x None = Unit {0}
IsBefore x (Some y) = IsTrue (var_lt x y)
