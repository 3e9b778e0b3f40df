use Rattle.std.proofs.Common.{◌≡◌}
use Rattle.ps_trace.specs.WitnessOf.{locals_by}
use Rattle.ps_trace.specs.inner.Known.{known_values}
use Rattle.ps_trace.proofs.known.locals_of.Given as goal

abbrev pub invariant-loop-n : goal.invariant-loop-n
invariant-loop-n l = l.list.items ≡ locals_by (known_values l.known) l.n l.thread
