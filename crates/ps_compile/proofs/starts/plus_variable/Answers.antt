use Rattle.std.proofs.Common.{◌≡◌, refl, ◌∙◌, sym, ap, subst, FitsSigned, to_z, of_z, to_z-of_z}
use Rattle.std.specs.Int.{w128}
use Rattle.ps_compile.proofs.Small.{variable_within, same_error}
use Rattle.ps_compile.proofs.starts.plus_variable.Goals as goal
use Rattle.ps_compile.specs.inner.Near.{IsNear}
use Rattle.ps_term.specs.Exact.{number_term}
use Rattle.ps_term.specs.declared.term.TermEnd.TheVariants.{Past128}

pub returns-clause-past : goal.returns-clause-past
returns-clause-past c =
    let fits : FitsSigned w128 c.args.constant = c.ranges.constant in
    let same : to_z w128 (of_z w128 c.args.constant) ≡ c.args.constant = rw to_z-of_z refl in
    let by : FitsSigned w128 c.args.by = c.ranges.by in
    let same_by : to_z w128 (of_z w128 c.args.by) ≡ c.args.by = rw to_z-of_z refl in
    λ past near one. variable_within c.args.constant c.args.by c.from_constant-number.result (c.from_constant-number.ensures ∙ ap number_term same) near one
    (λ k m h i. c.in-Err.ensures.past (same_error c.in-Err.end Past128 past) k m h (subst (IsNear m) (sym same_by) i))
