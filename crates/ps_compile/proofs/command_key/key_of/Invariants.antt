use Rattle.std.proofs.Common.{◌≡◌, ◌++◌, map}
use Rattle.ps_compile.specs.inner.Keys.{op_key}
use Rattle.ps_compile.proofs.command_key.key_of.Given as goal

abbrev pub invariant-loop-op : goal.invariant-loop-op
invariant-loop-op l = l.keys.items ++ map op_key l.op-iterator.rest.items ≡ map op_key l.fn.command.ops
