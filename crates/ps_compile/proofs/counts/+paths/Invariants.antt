use Rattle.std.proofs.Common.{drop}
use Rattle.ps_compile.specs.inner.Counts.{paths_of}
use Rattle.ps_compile.proofs.Counted.{Counting}
use Rattle.ps_compile.proofs.counts.+paths.Given as goal

abbrev pub invariant-count_block-loop-stmt : goal.invariant-count_block-loop-stmt
invariant-count_block-loop-stmt l = Counting l.going l.failing (paths_of (drop l.stmt-index l.block)) (paths_of l.block)
