use Rattle.std.proofs.Common.{◌≤◌, ◌-◌, ◌^◌}
use Rattle.ps_config.specs.Configurations.{threads_at}
use Rattle.ps_config.proofs.Nexts.{Listed}
use Rattle.ps_config.proofs.threads.threads_in.Given as goal

abbrev pub invariant-loop-thread : goal.invariant-loop-thread
invariant-loop-thread l = record { listed : Listed (threads_at (record { at = l.at; atoms = l.atoms })) l.from l.threads; fits : l.from ≤ 2 ^ 32 }

abbrev pub decreases-loop-thread : goal.decreases-loop-thread
decreases-loop-thread l = 2 ^ 32 - l.from
