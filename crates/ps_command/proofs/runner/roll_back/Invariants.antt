use Rattle.std.proofs.Common.{◌≡◌, vec_len}
use Rattle.ps_command.specs.inner.View.{seen, undone}
use Rattle.ps_command.proofs.runner.roll_back.Given as goal

abbrev pub invariant-loop-variable : goal.invariant-loop-variable
invariant-loop-variable l = undone l.undo.items (seen l.view) ≡ undone l.fn.undo.items (seen l.fn.view)

abbrev pub decreases-loop-variable : goal.decreases-loop-variable
decreases-loop-variable l = vec_len l.undo
