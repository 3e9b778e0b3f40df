use Rattle.std.proofs.Common.{◌≡◌, refl, sym, subst, FitsSigned, to_z, of_z, to_z-of_z, arith}
use Rattle.std.specs.Int.{w128}
use Rattle.std.proofs.lemmas.Int.{ints}
use Rattle.ps_compile.proofs.alternatives.one_row.Goals as goal
use Rattle.ps_compile.specs.inner.Near.{IsNear}
use Rattle.ps_term.specs.declared.term.TermEnd.TheVariants.{Past128}
use Rattle.ps_compile.proofs.Small.{same_error}

pub returns-in-Err-clause-past : goal.returns-in-Err-clause-past
returns-in-Err-clause-past c =
    let fits : FitsSigned w128 c.args.plus = c.ranges.plus in
    let same : to_z w128 (of_z w128 c.args.plus) ≡ c.args.plus = rw to_z-of_z refl in
    let near : IsNear 1 c.args.plus = (omega (arith, ints, c.requires.0), omega (arith, ints, c.requires.1)) in
    λ past g l h i. c.in-Err.ensures.past (same_error c.in-Err.end Past128 past) g l h i (subst (IsNear 1) (sym same) near)
