use Rattle.std.proofs.Common.{◌≡◌, ◌++◌}
use Rattle.ps_trace.specs.Rows.{threads_in_trace}
use Rattle.ps_trace.specs.Traces.{pairs_in}
use Rattle.ps_trace.proofs.threads.threads_of.Given as goal

abbrev pub invariant-loop-thread : goal.invariant-loop-thread
invariant-loop-thread l = l.list.items ++ l.thread-iterator ≡ threads_in_trace (pairs_in l.letters)
