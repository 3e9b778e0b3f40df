use Rattle.std.proofs.Common.{List, ℤ, subst}
use Rattle.ps_term.specs.declared.var.Var.{Var}
use Rattle.ps_term.specs.Pairs.{IsCanonical}
use Rattle.ps_term.proofs.Uniqueness.{same_coefficients}
use Rattle.ps_term.proofs.laws.told_by_coefficients.Goals as goal

pub returns : goal.returns
returns c =
    let left : IsCanonical c.args.a.now = subst (λ (ps : List (Var × ℤ)). IsCanonical ps) c.as_slice-left.ensures.list c.as_slice-left.ensures.canonical in
    let right : IsCanonical c.args.b.now = subst (λ (ps : List (Var × ℤ)). IsCanonical ps) c.as_slice-right.ensures.list c.as_slice-right.ensures.canonical in
    λ same. same_coefficients c.args.a.now c.args.b.now left right same
