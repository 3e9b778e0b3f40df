use Rattle.std.proofs.Common.{◌≤◌, drop, length}
use Rattle.ps_interp.proofs.Parting.{AreSums}
use Rattle.ps_interp.proofs.cut_sums.sums_at_cuts.Given as goal

abbrev pub invariant-loop-left : goal.invariant-loop-left
invariant-loop-left l = record {
  within : l.left ≤ length l.letters;
  made : AreSums l.setting (drop l.left l.letters) l.sums.items;
}

abbrev pub decreases-loop-left : goal.decreases-loop-left
decreases-loop-left l = l.left
