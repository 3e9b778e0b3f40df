use Rattle.std.proofs.Common.{◌≡◌, drop}
use Rattle.std.specs.List.{list_all}
use Rattle.ps_command.specs.Run.{holds}
use Rattle.ps_command.specs.RunFits.{TestsFit}
use Rattle.ps_command.specs.Values.{value_at}
use Rattle.ps_command.specs.inner.View.{values_from}
use Rattle.ps_command.proofs.Testing.{IsTesting}
use Rattle.ps_command.proofs.evaluation.all_hold.Given as goal

abbrev pub invariant-loop-row : goal.invariant-loop-row
invariant-loop-row l = IsTesting (value_at (values_from l.globals l.locals)) l.rows (drop l.row-index l.rows)
