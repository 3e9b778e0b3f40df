use Rattle.std.proofs.Common.{◌≡◌, ◌++◌, drop, None}
use Rattle.ps_atom.specs.inner.Slots.{threads_after}
use Rattle.ps_atom.proofs.occurring.threads_met.Given as goal

abbrev pub invariant-loop-pair : goal.invariant-loop-pair
invariant-loop-pair l = l.threads.items ++ threads_after l.last (drop l.pair-index l.pairs) ≡ threads_after None l.pairs
