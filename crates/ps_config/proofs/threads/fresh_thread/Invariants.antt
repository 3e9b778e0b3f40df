use Rattle.std.proofs.Common.{ℕ, ◌<◌, ◌-◌, ◌+◌, Contains}
use Rattle.ps_config.specs.Configurations.{threads_at}
use Rattle.ps_config.specs.declared.config.TheConstants.{MOST_THREADS}
use Rattle.ps_config.proofs.threads.fresh_thread.Given as goal

-- all numbers below are threads
abbrev pub invariant-loop-thread : goal.invariant-loop-thread
invariant-loop-thread l = (t : ℕ) → t < l.thread → Contains (threads_at (record { at = l.at; atoms = l.atoms })) t

abbrev pub decreases-loop-thread : goal.decreases-loop-thread
decreases-loop-thread l = MOST_THREADS + 1 - l.thread
