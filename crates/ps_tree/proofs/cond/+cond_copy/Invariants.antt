use Rattle.std.proofs.Common.{◌≡◌, take}
use Rattle.ps_tree.proofs.cond.+cond_copy.Given as goal

abbrev pub invariant-copy_conds-loop-member : goal.invariant-copy_conds-loop-member
invariant-copy_conds-loop-member l = l.copies ≡ take l.member-index l.members
