-- The next variable of a walk over rows.
use Rattle.std.specs.Prelude.{◌≡◌, ◌≢◌, pos, List, All, Any, Option, Some, None, IfSome, if◌then◌else◌}
use Rattle.ps_term.specs.declared.row.Row.{Row}
use Rattle.ps_term.specs.declared.var.Var.{Var}
use Rattle.ps_term.specs.Lookup.{IsAfter, IsBefore}
use Rattle.ps_term.specs.Pairs.{coefficient}
use Rattle.ps_term.specs.Var.{var_lt}

-- of two variables, where they are there, the lesser
abbrev pub lesser_variable : Option Var → Option Var → Option Var
lesser_variable None b = b
lesser_variable (Some x) None = Some x
lesser_variable (Some x) (Some y) = if var_lt y x then Some y else Some x

-- no variable of the rows stands between the last one and the next, which stands in some row
pub record IsNextVariable (last : Option Var) (rows : List Row) (next : Option Var) : Type 0 where
  pub skipped : (x : Var) → IsAfter last x → IsBefore x next → All (λ r. coefficient x r.term.pairs ≡ pos 0) rows
  pub stands : IfSome next (λ x. IsAfter last x × Any (λ r. coefficient x r.term.pairs ≢ pos 0) rows)
