use Rattle.std.proofs.Common.{take}
use Rattle.ps_check.specs.inner.Branches.{AddsBranches}
use Rattle.ps_check.proofs.branches.add_branches.Given as goal

abbrev pub invariant-loop-atom : goal.invariant-loop-atom
invariant-loop-atom l = AddsBranches l.chosen l.next (take l.atom-index l.set) l.initial.waiting.items l.waiting.items
