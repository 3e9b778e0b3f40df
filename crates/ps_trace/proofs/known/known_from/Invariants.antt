use Rattle.std.proofs.Common.{◌≡◌, ◌-◌, drop, length}
use Rattle.ps_trace.specs.WitnessOf.{value_among}
use Rattle.ps_trace.specs.inner.Known.{known_values}
use Rattle.ps_trace.proofs.known.known_from.Given as goal

abbrev pub invariant-loop-taken : goal.invariant-loop-taken
invariant-loop-taken l = known_values l.known ≡ value_among (drop (length l.values - l.taken) l.values)
