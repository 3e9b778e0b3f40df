use Rattle.std.proofs.Common.{◌≡◌, take}
use Rattle.ps_trace.specs.Rows.{pairs_of_thread}
use Rattle.ps_trace.proofs.renaming.pairs_of_thread.Given as goal

abbrev pub invariant-loop-pair : goal.invariant-loop-pair
invariant-loop-pair l = l.list.items ≡ pairs_of_thread l.thread l.first (take l.pair-index l.pairs)
