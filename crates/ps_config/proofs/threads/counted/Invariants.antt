use Rattle.std.proofs.Common.{◌≤◌, ◌-◌, ◌^◌}
use Rattle.ps_config.specs.Configurations.{threads_at}
use Rattle.ps_config.proofs.Nexts.{CountedBelow}
use Rattle.ps_config.proofs.threads.counted.Given as goal

-- so many threads are below the bound
abbrev pub invariant-loop-thread : goal.invariant-loop-thread
invariant-loop-thread l = record {
  counted : CountedBelow (threads_at (record { at = l.at; atoms = l.atoms })) l.from l.count;
  fits : l.from ≤ 2 ^ 32;
  few : l.count ≤ l.from;
}

abbrev pub decreases-loop-thread : goal.decreases-loop-thread
decreases-loop-thread l = 2 ^ 32 - l.from
