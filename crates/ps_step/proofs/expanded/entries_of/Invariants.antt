use Rattle.std.proofs.Common.{◌≡◌, take}
use Rattle.ps_step.proofs.expanded.entries_of.Given as goal

abbrev pub invariant-loop-n : goal.invariant-loop-n
invariant-loop-n g l = l.list.items ≡ take l.n (g.B.Shown.entries l.basis)
