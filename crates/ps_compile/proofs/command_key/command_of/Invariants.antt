use Rattle.std.proofs.Common.{◌≡◌, ◌++◌, map}
use Rattle.ps_compile.specs.declared.command_key.OpKey.{OpKey}
use Rattle.ps_compile.proofs.command_key.command_of.Given as goal

abbrev pub invariant-loop-key : goal.invariant-loop-key
invariant-loop-key l = l.ops.items ++ map (λ (o : OpKey). o.op) l.key-iterator.rest.items ≡ map (λ (o : OpKey). o.op) l.fn.key.ops
