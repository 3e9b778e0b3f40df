use Rattle.std.proofs.Common.{pos, arith}
use Rattle.std.proofs.lemmas.Int.{ints}
use Rattle.ps_compile.proofs.alternatives.equal_rows.Goals as goal
use Rattle.ps_compile.specs.inner.Near.{IsNear}
use Rattle.ps_term.specs.declared.term.TermEnd.TheVariants.{Past128}
use Rattle.ps_compile.proofs.Small.{same_error}

pub returns-in-Err-bound_row-clause-past : goal.returns-in-Err-bound_row-clause-past
returns-in-Err-bound_row-clause-past c =
    let near : IsNear 1 (pos 0) = (omega (arith, ints), omega (arith, ints)) in
    λ past g l h i. c.in-Err-bound_row.ensures.past (same_error c.in-Err-bound_row.end Past128 past) g l i h near
