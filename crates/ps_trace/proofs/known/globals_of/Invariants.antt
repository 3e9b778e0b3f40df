use Rattle.std.proofs.Common.{◌≡◌}
use Rattle.ps_trace.specs.WitnessOf.{globals_by}
use Rattle.ps_trace.specs.inner.Known.{known_values}
use Rattle.ps_trace.proofs.known.globals_of.Given as goal

abbrev pub invariant-loop-n : goal.invariant-loop-n
invariant-loop-n l = l.list.items ≡ globals_by (known_values l.known) l.n
