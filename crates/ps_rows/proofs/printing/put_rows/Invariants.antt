use Rattle.std.proofs.Common.{◌≡◌, ◌++◌, drop}
use Rattle.std.specs.List.{flat_map}
use Rattle.ps_lines.specs.Tokens.{line_bytes}
use Rattle.ps_rows.specs.Spelling.{row_line}
use Rattle.ps_rows.proofs.printing.put_rows.Given as goal

abbrev pub invariant-loop-row : goal.invariant-loop-row
invariant-loop-row l = l.out.items ++ flat_map (λ r. line_bytes (row_line r)) (drop l.row-index l.rows) ≡ l.fn.out.items ++ flat_map (λ r. line_bytes (row_line r)) l.rows
