use Rattle.std.proofs.Common.{rules, ◌<◌, ◌≤◌, length}
use Rattle.ps_compile.specs.inner.Counts.{going, failing, paths_of}
use Rattle.ps_compile.proofs.Counted.{block_step, block_end, assume_counts, assume_fails, assert_counts, assert_fails, atomic_counts, if_counts, if_fails}
use Rattle.ps_compile.proofs.counts.+paths.Goals as goal

pub count_block-loop-stmt-preserved : goal.count_block-loop-stmt-preserved
count_block-loop-stmt-preserved t c =
    let l : c.loop-stmt.stmt-index < length c.args.block.now = search rules in
    block_step c.loop-stmt.going c.loop-stmt.failing c.saturating_mul.result c.min-going.result c.sum_of_products-failing.result c.count_paths-next.result.going c.count_paths-next.result.failing
    c.stmt-item.result c.args.block.now c.loop-stmt.stmt-index (paths_of c.args.block.now) l c.stmt-item.is c.loop-stmt.invariant c.count_paths-next.ensures.going c.count_paths-next.ensures.failing
    c.sum_of_products-failing.ensures c.saturating_mul.ensures c.min-going.ensures

pub count_block-returns-clause-going : goal.count_block-returns-clause-going
count_block-returns-clause-going t c =
    let l : length c.args.block.now ≤ c.loop-stmt.stmt-index = search rules in
    (block_end c.loop-stmt.going c.loop-stmt.failing c.args.block.now c.loop-stmt.stmt-index (paths_of c.args.block.now) l c.loop-stmt.invariant).0

pub count_block-returns-clause-failing : goal.count_block-returns-clause-failing
count_block-returns-clause-failing t c =
    let l : length c.args.block.now ≤ c.loop-stmt.stmt-index = search rules in
    (block_end c.loop-stmt.going c.loop-stmt.failing c.args.block.now c.loop-stmt.stmt-index (paths_of c.args.block.now) l c.loop-stmt.invariant).1

pub count_paths-returns-in-Assume-clause-going : goal.count_paths-returns-in-Assume-clause-going
count_paths-returns-in-Assume-clause-going t c = assume_counts c.args.kind.now c.in-Assume.cond c.count_alternatives.result c.in-Assume.is c.count_alternatives.ensures

pub count_paths-returns-in-Assume-clause-failing : goal.count_paths-returns-in-Assume-clause-failing
count_paths-returns-in-Assume-clause-failing t c = assume_fails c.args.kind.now c.in-Assume.cond c.in-Assume.is

pub count_paths-returns-in-Assert-clause-going : goal.count_paths-returns-in-Assert-clause-going
count_paths-returns-in-Assert-clause-going t c = assert_counts c.args.kind.now c.in-Assert.cond c.count_alternatives-in-Assert.result c.in-Assert.is c.count_alternatives-in-Assert.ensures

pub count_paths-returns-in-Assert-clause-failing : goal.count_paths-returns-in-Assert-clause-failing
count_paths-returns-in-Assert-clause-failing t c = assert_fails c.args.kind.now c.in-Assert.cond c.count_alternatives-in-Assert-2.result c.in-Assert.is c.count_alternatives-in-Assert-2.ensures

pub count_paths-returns-in-Atomic-clause-going : goal.count_paths-returns-in-Atomic-clause-going
count_paths-returns-in-Atomic-clause-going t c = atomic_counts going c.args.kind.now c.in-Atomic.block c.as_slice.result.now c.count_block.result.going c.in-Atomic.is c.as_slice.ensures c.count_block.ensures.going

pub count_paths-returns-in-Atomic-clause-failing : goal.count_paths-returns-in-Atomic-clause-failing
count_paths-returns-in-Atomic-clause-failing t c = atomic_counts failing c.args.kind.now c.in-Atomic.block c.as_slice.result.now c.count_block.result.failing c.in-Atomic.is c.as_slice.ensures c.count_block.ensures.failing

pub count_paths-returns-in-If-clause-going : goal.count_paths-returns-in-If-clause-going
count_paths-returns-in-If-clause-going t c =
    if_counts c.args.kind.now c.in-If.test c.in-If.held c.in-If.failed c.as_slice-in-If.result.now c.as_slice-in-If-2.result.now c.count_ways-holds.result c.count_ways-fails.result
    c.count_block-first.result.going c.count_block-second.result.going c.sum_of_products.result c.in-If.is c.as_slice-in-If.ensures c.as_slice-in-If-2.ensures c.count_ways-holds.ensures c.count_ways-fails.ensures
    c.count_block-first.ensures.going c.count_block-second.ensures.going c.sum_of_products.ensures

pub count_paths-returns-in-If-clause-failing : goal.count_paths-returns-in-If-clause-failing
count_paths-returns-in-If-clause-failing t c =
    if_fails c.args.kind.now c.in-If.test c.in-If.held c.in-If.failed c.as_slice-in-If.result.now c.as_slice-in-If-2.result.now c.count_ways-holds.result c.count_ways-fails.result
    c.count_block-first.result.failing c.count_block-second.result.failing c.sum_of_products-in-If.result c.in-If.is c.as_slice-in-If.ensures c.as_slice-in-If-2.ensures c.count_ways-holds.ensures c.count_ways-fails.ensures
    c.count_block-first.ensures.failing c.count_block-second.ensures.failing c.sum_of_products-in-If.ensures
