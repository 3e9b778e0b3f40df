use Rattle.std.proofs.Common.{◌≡◌, take}
use Rattle.ps_tree.proofs.stmt.+stmt_copy.Given as goal

abbrev pub invariant-copy_block-loop-stmt : goal.invariant-copy_block-loop-stmt
invariant-copy_block-loop-stmt l = l.copies ≡ take l.stmt-index l.block
