-- Worked examples: rows over the global x.
use Rattle.std.specs.Prelude.{ℤ, pos, negsuc, ◌^◌, ◌-◌, List, [], ◌∷◌}
use Rattle.ps_term.specs.declared.row.Row.{Row}
use Rattle.ps_term.specs.declared.var.Var.TheVariants.{Global}

-- so many times x, and a constant, at most 0
abbrev pub row_on_x : ℤ → ℤ → Row
row_on_x by constant = record { term = record { pairs = (Global 0, by) ∷ []; constant = constant } }

-- a constant, at most 0
abbrev pub bare_row : ℤ → Row
bare_row constant = record { term = record { pairs = []; constant = constant } }

-- x is below 0, and at least 0
abbrev pub apart : List Row
apart = row_on_x (pos 1) (pos 1) ∷ row_on_x (negsuc 0) (pos 0) ∷ []

-- x is at most 0, and at least 0
abbrev pub touching : List Row
touching = row_on_x (pos 1) (pos 0) ∷ row_on_x (negsuc 0) (pos 0) ∷ []

-- the greatest number of 128 bits, 1 and -1, in this order
abbrev pub rising : List Row
rising = bare_row (pos (2 ^ 127 - 1)) ∷ bare_row (pos 1) ∷ bare_row (negsuc 0) ∷ []

-- the same with -1 before 1
abbrev pub falling : List Row
falling = bare_row (pos (2 ^ 127 - 1)) ∷ bare_row (negsuc 0) ∷ bare_row (pos 1) ∷ []
