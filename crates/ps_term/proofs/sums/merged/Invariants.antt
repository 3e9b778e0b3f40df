use Rattle.std.proofs.Common.{◌+◌, length}
use Rattle.ps_term.proofs.Merging.{Merged}
use Rattle.ps_term.proofs.sums.merged.Given as goal

abbrev pub invariant-merging : goal.invariant-merging
invariant-merging l = Merged l.by l.left l.right l.list.items l.left_rest l.right_rest

abbrev pub decreases-merging : goal.decreases-merging
decreases-merging l = length l.left_rest + length l.right_rest
