use Rattle.std.proofs.Common.{◌≡◌, ◌++◌}
use Rattle.std.specs.Vec.Iter.{into_iter_items}
use Rattle.ps_trace.specs.Rows.{rows_of_each, rows_at_start, threads_in_trace}
use Rattle.ps_trace.specs.Traces.{pairs_in}
use Rattle.ps_trace.proofs.rows.rows_at_start.Given as goal

abbrev pub invariant-loop-thread : goal.invariant-loop-thread
invariant-loop-thread l = l.rows.items ++ rows_of_each l.each (into_iter_items l.thread-iterator) ≡ rows_at_start l.setting (threads_in_trace (pairs_in l.letters))
