use Rattle.std.proofs.Common.{◌≡◌, ◌++◌}
use Rattle.std.specs.Prelude.{filter, not}
use Rattle.ps_command.specs.Named.{names_local}
use Rattle.ps_compile.proofs.starts.divided.Given as goal
use Rattle.ps_term.specs.declared.row.Row.{Row}

abbrev pub invariant-loop-row : goal.invariant-loop-row
invariant-loop-row l =
    (l.sides.once.items ++ filter (λ (r : Row). not (names_local r)) l.row-iterator.rest.items ≡ filter (λ (r : Row). not (names_local r)) l.fn.rows.items)
    × (l.sides.each.items ++ filter names_local l.row-iterator.rest.items ≡ filter names_local l.fn.rows.items)
