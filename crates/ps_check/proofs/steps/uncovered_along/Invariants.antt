use Rattle.std.proofs.Common.{◌≤◌, ◌-◌, ◌^◌}
use Rattle.ps_check.proofs.Stepping.{AreDone}
use Rattle.ps_check.proofs.steps.uncovered_along.Given as goal

abbrev pub invariant-loop-thread : goal.invariant-loop-thread
invariant-loop-thread l = record {
  done : AreDone l.graph l.front l.configs l.from l.edge l.least;
  fits : l.least ≤ 2 ^ 32;
}

abbrev pub decreases-loop-thread : goal.decreases-loop-thread
decreases-loop-thread l = 2 ^ 32 - l.least
