use Rattle.std.proofs.Common.{◌≡◌, ◌++◌, map, take}
use Rattle.ps_trace.specs.Rows.{row_of_thread}
use Rattle.ps_trace.proofs.rows.append_of_thread.Given as goal

abbrev pub invariant-loop-row : goal.invariant-loop-row
invariant-loop-row l = l.rows.items ≡ l.fn.rows.items ++ map (row_of_thread l.thread 0) (take l.row-index l.each)
