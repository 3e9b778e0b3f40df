-- Rows with their variables renamed.
use Rattle.std.specs.Prelude.{ℤ, List, [], ◌∷◌}
use Rattle.ps_term.specs.Exact.{with_pair}
use Rattle.ps_term.specs.declared.row.Row.{Row}
use Rattle.ps_term.specs.declared.var.Var.{Var}

-- the pairs with a new variable in place of each
abbrev pub pairs_by : (Var → Var) → List (Var × ℤ) → List (Var × ℤ)
pairs_by new [] = []
pairs_by new (p ∷ ps) = with_pair (new p.0) p.1 (pairs_by new ps)

-- the row with a new variable in place of each
abbrev pub row_by : (Var → Var) → Row → Row
row_by new r = record { term = record { pairs = pairs_by new r.term.pairs; constant = r.term.constant } }
