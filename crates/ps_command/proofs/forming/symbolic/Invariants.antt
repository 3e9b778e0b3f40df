use Rattle.ps_command.proofs.Building.{IsBuilt}
use Rattle.std.proofs.Common.{drop}
use Rattle.ps_command.specs.inner.Builder.{form_so_far}
use Rattle.ps_command.proofs.forming.symbolic.Given as goal

abbrev pub invariant-loop-op : goal.invariant-loop-op
invariant-loop-op l = IsBuilt l.command.ops (form_so_far l.builder) l.op-index (drop l.op-index l.op-items)
