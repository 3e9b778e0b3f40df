-- What numbers of a text are worth, and their signs.
use Rattle.std.specs.Prelude.{ℕ, ℤ, pos, neg_ℤ, Bool, true, false, List, Option}
use Rattle.std.specs.Str.Parse.{digits_value}
use Rattle.ps_term.specs.declared.var.Var.{Var}

-- what digits stand for
abbrev pub number_value : List ℕ → ℤ
number_value digits = pos (digits_value 10 digits)

-- the product, or with `-` before it
abbrev pub signed : Bool → ℤ × Option Var → ℤ × Option Var
signed false p = p
signed true p = (neg_ℤ p.0, p.1)
