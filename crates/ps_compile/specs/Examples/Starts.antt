-- Worked examples: the rows that hold at the start of `global x = 5; local t; init t - t + x >= 0; init t <= 3;`.
use Rattle.std.specs.Prelude.{◌≡◌, ℤ, pos, negsuc, not, [], ◌∷◌, filter, Some}
use Rattle.ps_command.specs.Named.{names_local}
use Rattle.ps_compile.specs.Compiled.{start_rows}
use Rattle.ps_graph.specs.Examples.{number, relation_with, t, x}
use Rattle.ps_graph.specs.Examples.Connections.{term_of}
use Rattle.ps_term.specs.declared.row.Row.{Row}
use Rattle.ps_tree.specs.declared.program.Program.{Program}
use Rattle.ps_tree.specs.declared.relation.Sign.TheVariants.{LessEq, GreaterEq}

abbrev pub five : Program
five = record {
  globals = record { name = 120 ∷ []; value = Some (pos 5) } ∷ [];
  locals = (116 ∷ []) ∷ [];
  inits = record {
    left = record { terms = (pos 1, Some t) ∷ (negsuc 0, Some t) ∷ (pos 1, Some x) ∷ [] };
    sign = GreaterEq;
    right = number (pos 0);
  } ∷ relation_with t LessEq (pos 3) ∷ [];
  body = [];
}

-- so many times `x`, plus a number
abbrev pub row_of : ℤ → ℤ → Row
row_of by constant = record { term = term_of by constant }

-- `t - 3`
abbrev pub local_row : Row
local_row = record { term = record { pairs = (t, pos 1) ∷ []; constant = negsuc 2 } }

-- `x - 5`, `5 - x`, then `-x`, in which the local cancels, then `t - 3`
abbrev pub StartRowsAre : Type 0
StartRowsAre =
    start_rows five ≡ row_of (pos 1) (negsuc 4) ∷ row_of (negsuc 0) (pos 5) ∷ row_of (negsuc 0) (pos 0) ∷ local_row ∷ []

-- the row in which the local cancels holds once, and `t - 3` for each thread
abbrev pub CancelledLocalsHoldOnce : Type 0
CancelledLocalsHoldOnce =
    (filter (λ (r : Row). not (names_local r)) (start_rows five)
    ≡ row_of (pos 1) (negsuc 4) ∷ row_of (negsuc 0) (pos 5) ∷ row_of (negsuc 0) (pos 0) ∷ [])
    × (filter names_local (start_rows five) ≡ local_row ∷ [])
