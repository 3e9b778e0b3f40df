use Rattle.std.proofs.Common.{rules, ◌≡◌, refl, ◌∙◌, ◌<◌, ◌^◌, length, ap, FitsSigned, to_z, of_z, to_z-of_z}
use Rattle.std.specs.Int.{w128}
use Rattle.ps_compile.proofs.Small.{bound_within, minus_within, same_error}
use Rattle.ps_compile.proofs.sums.bound_row.Goals as goal
use Rattle.ps_term.specs.Exact.{number_term}
use Rattle.ps_term.specs.declared.term.TermEnd.TheVariants.{Past128}

pub returns-in-Err-clause-past : goal.returns-in-Err-clause-past
returns-in-Err-clause-past c =
    let fits : FitsSigned w128 c.args.plus = c.ranges.plus in
    let same : to_z w128 (of_z w128 c.args.plus) ≡ c.args.plus = rw to_z-of_z refl in
    let few : length c.as_slice.result.now < 2 ^ 64 = search rules in
    λ past g l h i near. minus_within g l c.args.right.now c.args.plus c.from_constant-constant.result c.as_slice.result.now
    (c.from_constant-constant.ensures ∙ ap number_term same) c.as_slice.ensures few near i (c.in-Err.ensures.past (same_error c.in-Err.end Past128 past))

pub returns-in-Err-add_products-clause-past : goal.returns-in-Err-add_products-clause-past
returns-in-Err-add_products-clause-past c =
    let fits : FitsSigned w128 c.args.plus = c.ranges.plus in
    let same : to_z w128 (of_z w128 c.args.plus) ≡ c.args.plus = rw to_z-of_z refl in
    let few_right : length c.as_slice.result.now < 2 ^ 64 = search rules in
    let few_left : length c.as_slice-2.result.now < 2 ^ 64 = search rules in
    λ past g l h i near. bound_within g l c.args.left.now c.args.right.now c.args.plus c.in-Ok.term c.from_constant-constant.result c.as_slice-2.result.now c.as_slice.result.now
    c.in-Ok.ensures.is (c.from_constant-constant.ensures ∙ ap number_term same) c.as_slice-2.ensures c.as_slice.ensures few_left few_right near h i
    (c.in-Err-add_products.ensures.past (same_error c.in-Err-add_products.end Past128 past))
