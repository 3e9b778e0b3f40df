use Rattle.std.proofs.Common.{◌≡◌, ◌++◌}
use Rattle.ps_triple.specs.Rows.{rows_of_threads}
use Rattle.ps_triple.proofs.rows.push_rows_of_threads.Given as goal

abbrev pub invariant-loop-thread : goal.invariant-loop-thread
invariant-loop-thread l = l.rows.items ≡ l.initial.rows.items ++ rows_of_threads l.setting.init_each l.thread
