use Rattle.std.proofs.Common.{◌≡◌, ◌++◌, ◌+◌, drop, length}
use Rattle.ps_interp.specs.Weights.{weights_by_thread}
use Rattle.ps_interp.specs.inner.Starts.{HaveWeights, all_weights}
use Rattle.ps_trace.specs.Rows.{rows_at_start, rows_of_each}
use Rattle.ps_interp.proofs.start.start_weights.Given as goal

abbrev pub invariant-loop-thread : goal.invariant-loop-thread
invariant-loop-thread l = record {
  parts : all_weights l.list.items ++ weights_by_thread (length l.setting.init_each) (drop l.thread-index l.threads) (drop l.at l.lambda)
      ≡ weights_by_thread (length l.setting.init_each) l.threads (drop (length l.setting.init_once) l.lambda);
  room : l.at + length (rows_of_each l.setting.init_each (drop l.thread-index l.threads)) ≡ length (rows_at_start l.setting l.threads);
  each : HaveWeights l.setting.init_each l.list.items;
}
