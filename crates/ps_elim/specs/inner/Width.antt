-- How many vectors the first stage is made of, told by the rows.
use Rattle.std.specs.Prelude.{ℕ, ◌+◌, ◌*◌, List, length}
use Rattle.std.specs.List.{filter}
use Rattle.ps_elim.specs.inner.Weighing.{is_of}
use Rattle.ps_elim.specs.declared.sign.Sign.{Sign}
use Rattle.ps_elim.specs.declared.sign.Sign.TheVariants.{Zero, Positive, Negative}
use Rattle.ps_term.specs.Pairs.{coefficient}
use Rattle.ps_term.specs.declared.row.Row.{Row}
use Rattle.ps_term.specs.declared.var.Var.{Var}

-- how many of the rows have a coefficient of the sign
abbrev pub count_of_sign : Sign → Var → List Row → ℕ
count_of_sign sign x rows = length (filter (λ r. is_of sign (coefficient x r.term.pairs)) rows)

-- those without the variable, and one for each pair of opposite ones
abbrev pub width_of_rows : Var → List Row → ℕ
width_of_rows x rows =
    count_of_sign Zero x rows + (count_of_sign Positive x rows * count_of_sign Negative x rows)
