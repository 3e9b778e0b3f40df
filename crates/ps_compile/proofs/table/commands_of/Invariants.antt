use Rattle.std.proofs.Common.{◌≡◌, ◌++◌, map}
use Rattle.ps_compile.specs.inner.Keys.{command_of}
use Rattle.ps_compile.proofs.table.commands_of.Given as goal

abbrev pub invariant-loop-key : goal.invariant-loop-key
invariant-loop-key l = l.commands.items ++ map command_of l.key-iterator ≡ map command_of l.fn.table.keys
