use Rattle.std.proofs.Common.{rules, ◌<◌, refl, inl}
use Rattle.ps_compile.specs.inner.Counts.{paths_of}
use Rattle.ps_compile.proofs.Inside.{many, few}
use Rattle.ps_compile.proofs.limits_inside.test_block.Goals as goal

pub returns-then-saturating_add-gt-MOST_PATHS : goal.returns-then-saturating_add-gt-MOST_PATHS
returns-then-saturating_add-gt-MOST_PATHS c =
    let k : 64 < c.saturating_add.result = search rules in
    inl (many c.count_block-count.result.going c.count_block-count.result.failing c.saturating_add.result (paths_of c.args.block.now) c.count_block-count.ensures.going c.count_block-count.ensures.failing c.saturating_add.ensures k, refl, refl)

pub returns : goal.returns
returns c =
    let k : ¬ (64 < c.saturating_add.result) = search rules in
    (few c.count_block-count.result.going c.count_block-count.result.failing c.saturating_add.result (paths_of c.args.block.now) c.count_block-count.ensures.going c.count_block-count.ensures.failing c.saturating_add.ensures k, tt)
