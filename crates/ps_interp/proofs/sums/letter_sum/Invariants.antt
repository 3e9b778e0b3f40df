use Rattle.std.proofs.Common.{map, drop}
use Rattle.ps_interp.proofs.Adding.{Added}
use Rattle.ps_trace.specs.Rows.{row_of_thread}
use Rattle.ps_interp.proofs.sums.letter_sum.Given as goal

abbrev pub invariant-adding : goal.invariant-adding
invariant-adding l = Added (map (row_of_thread l.thread 0) l.rows) l.weights l.sum (drop l.place (map (row_of_thread l.thread 0) l.rows)) (drop l.place l.weights)
