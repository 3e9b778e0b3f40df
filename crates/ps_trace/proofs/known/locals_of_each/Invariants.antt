use Rattle.std.proofs.Common.{◌≡◌, map, take}
use Rattle.ps_trace.specs.WitnessOf.{locals_by}
use Rattle.ps_trace.specs.inner.Known.{known_values}
use Rattle.ps_trace.proofs.known.locals_of_each.Given as goal

abbrev pub invariant-loop-thread : goal.invariant-loop-thread
invariant-loop-thread l = l.lists.items ≡ map (locals_by (known_values l.known) l.count) (take l.thread-index l.threads)
