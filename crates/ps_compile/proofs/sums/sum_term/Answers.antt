use Rattle.std.proofs.Common.{rules, ◌<◌, ◌^◌, length}
use Rattle.ps_compile.proofs.Small.{sum_within}
use Rattle.ps_compile.proofs.sums.sum_term.Goals as goal

pub returns-clause-past : goal.returns-clause-past
returns-clause-past c =
    let few : length c.as_slice.result.now < 2 ^ 64 = search rules in
    λ past g l h. sum_within g l c.args.sum.now c.from_constant-zero.result c.as_slice.result.now c.from_constant-zero.ensures c.as_slice.ensures few h (c.add_products.ensures.past past)
