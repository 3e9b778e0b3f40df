use Rattle.std.proofs.Common.{◌≡◌, ◌++◌, map}
use Rattle.ps_command.specs.declared.op.Op.TheVariants.{Assume}
use Rattle.ps_compile.proofs.routes.guarded.Given as goal

abbrev pub invariant-loop-row : goal.invariant-loop-row
invariant-loop-row l = l.ops.items ++ map Assume l.row-iterator.rest.items ≡ map Assume l.fn.rows
