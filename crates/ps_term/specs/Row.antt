-- What a row means.
use Rattle.std.specs.Prelude.{ℤ, pos, ◌≤ℤ◌}
use Rattle.ps_term.specs.declared.row.Row.{Row}
use Rattle.ps_term.specs.declared.var.Var.{Var}
use Rattle.ps_term.specs.Term.{value}

-- a row holds of values where its term is at most 0
abbrev pub Holds : (Var → ℤ) → Row → Type 0
Holds values r = value values r.term ≤ℤ pos 0
