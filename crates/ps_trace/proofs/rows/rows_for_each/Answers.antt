use Rattle.std.proofs.Common.{◌≡◌, true, sym, subst, List}
use Rattle.std.specs.List.{list_all}
use Rattle.ps_term.specs.declared.row.Row.{Row}
use Rattle.ps_trace.proofs.Owning.{declared_rows_own}
use Rattle.ps_trace.specs.Own.{is_own_row}
use Rattle.ps_trace.proofs.rows.rows_for_each.Goals as goal

pub returns-clause-own : goal.returns-clause-own
returns-clause-own c =
    subst (λ (rows : List Row). list_all (is_own_row 0) rows ≡ true) (sym c.as_slice.ensures)
    (declared_rows_own c.args.setting.now.globals c.args.setting.now.locals c.args.setting.now.init_each c.args.setting.now.each_declared)
