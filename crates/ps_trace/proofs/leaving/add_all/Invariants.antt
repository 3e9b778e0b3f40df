use Rattle.std.proofs.Common.{◌≡◌, length, take}
use Rattle.ps_trace.specs.inner.Leaving.{HoldsAll}
use Rattle.ps_trace.proofs.leaving.add_all.Given as goal

abbrev pub invariant-loop-i : goal.invariant-loop-i
invariant-loop-i l = record { holds : HoldsAll (take l.i l.edges) l.lists.items; same : length l.lists.items ≡ length l.fn.lists.items }
