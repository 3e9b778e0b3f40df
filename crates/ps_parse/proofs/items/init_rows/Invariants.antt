use Rattle.std.proofs.Common.{◌≤◌, ◌*◌, ◌-◌}
use Rattle.ps_parse.specs.Inner.Items.{rows_from}
use Rattle.ps_parse.proofs.Declarations.{Counts}
use Rattle.ps_parse.proofs.items.init_rows.Given as goal

abbrev pub invariant-loop : goal.invariant-loop
invariant-loop l = record { counted : Counts l.most (l.most - l.counter) l.rows l.cursor (rows_from l.most l.most l.fn.cursor); few : l.rows ≤ 2 * l.counter }
