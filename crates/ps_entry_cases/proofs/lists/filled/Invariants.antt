use Rattle.std.proofs.Common.{◌≤◌, ◌+◌}
use Rattle.ps_entry_cases.proofs.lists.filled.Given as goal

abbrev pub invariant-loop-number : goal.invariant-loop-number
invariant-loop-number l = l.count + 1 ≤ l.basis.room + l.number
