use Rattle.std.proofs.Common.{ℤ, List, FitsSigned, rules, sym, ap, ◌∙◌, subst}
use Rattle.std.specs.Int.{w128}
use Rattle.std.proofs.lemmas.Int.{to_z-of_z}
use Rattle.ps_term.specs.Sums.{PairsFit, ScaledFits}
use Rattle.ps_term.specs.declared.term.Term.{Term}
use Rattle.ps_term.specs.declared.var.Var.{Var}
use Rattle.ps_term.proofs.substitution.add_replaced.Goals as goal

pub returns-in-Some-clause-past : goal.returns-in-Some-clause-past
returns-in-Some-clause-past c =
    let sums = c.args.kept.now.sums.items in
    let by : FitsSigned w128 c.args.by = c.ranges.by in
    let constant : FitsSigned w128 c.args.constant = c.ranges.constant in
    let last : FitsSigned w128 c.in-Some.term.now.constant = search rules in
    λ past fits.
    let no = simp to_z-of_z at (c.add_parts.ensures.past past) in
    no (subst (λ (ps : List (Var × ℤ)). PairsFit sums c.args.by ps) (sym (c.as_slice.ensures.list ∙ ap (λ (t : Term). t.pairs) c.in-Some.ensures)) fits.0, subst (λ (n : ℤ). ScaledFits c.args.constant c.args.by n) (sym (ap (λ (t : Term). t.constant) c.in-Some.ensures)) fits.1)

pub returns-in-None-clause-past : goal.returns-in-None-clause-past
returns-in-None-clause-past c =
    let sums = c.args.kept.now.sums.items in
    let by : FitsSigned w128 c.args.by = c.ranges.by in
    let constant : FitsSigned w128 c.args.constant = c.ranges.constant in
    λ past fits.
    let no = simp to_z-of_z at (c.add_parts-in-None.ensures.past past) in
    no (subst (λ (t : Term). PairsFit sums c.args.by t.pairs) (sym c.in-None.ensures) fits.0, subst (λ (t : Term). ScaledFits c.args.constant c.args.by t.constant) (sym c.in-None.ensures) fits.1)
