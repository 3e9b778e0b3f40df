use Rattle.std.proofs.Common.{◌≡◌, ◌+◌, ◌-◌, ◌++◌}
use Rattle.ps_saturate.specs.Patterns.{threads_from}
use Rattle.ps_saturate.proofs.threads.others.Given as goal

abbrev pub invariant-loop-before : goal.invariant-loop-before
invariant-loop-before l = l.threads.items ++ threads_from (l.before + 1) (l.count - l.before) ≡ threads_from 1 l.count
