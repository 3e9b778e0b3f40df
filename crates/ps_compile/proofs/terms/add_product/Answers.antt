use Rattle.std.proofs.Common.{◌≡◌, ◌∙◌, refl, sym, ap, subst, List, ℤ, ◌+ℤ◌, ◌*ℤ◌, FitsSigned, to_z-of_z, to_z, of_z}
use Rattle.std.specs.Int.{w128}
use Rattle.ps_term.specs.Pairs.{IsCanonical}
use Rattle.ps_term.specs.Sums.{TermFits}
use Rattle.ps_term.specs.Term.{value}
use Rattle.ps_term.specs.declared.var.Var.{Var}
use Rattle.ps_compile.proofs.Products.{factor_term, product_made, near_term}
use Rattle.ps_compile.proofs.terms.add_product.Goals as goal

pub returns-in-Ok-clause-is : goal.returns-in-Ok-clause-is
returns-in-Ok-clause-is c =
    let by : FitsSigned w128 c.args.by = c.ranges.by in
    let same : to_z w128 (of_z w128 c.args.by) ≡ c.args.by = rw to_z-of_z refl in
    product_made c.in-Ok.sum c.args.term.now c.from_constant-one.result c.args.by c.args.variable c.in-Ok.ensures.canonical
    (subst (λ (ps : List (Var × ℤ)). IsCanonical ps) c.as_slice-pairs.ensures.list c.as_slice-pairs.ensures.canonical)
    (c.from_constant-one.ensures ∙ ap factor_term (sym c.in-None.is))
    (subst (λ (b : ℤ). (v : Var → ℤ) → value v c.in-Ok.sum ≡ (value v c.args.term.now +ℤ (b *ℤ value v c.from_constant-one.result))) same c.in-Ok.ensures.worth)

pub returns-in-Ok-add_scaled-clause-is : goal.returns-in-Ok-add_scaled-clause-is
returns-in-Ok-add_scaled-clause-is c =
    let by : FitsSigned w128 c.args.by = c.ranges.by in
    let same : to_z w128 (of_z w128 c.args.by) ≡ c.args.by = rw to_z-of_z refl in
    product_made c.in-Ok-add_scaled.sum c.args.term.now c.in-Ok-from_variable.one c.args.by c.args.variable c.in-Ok-add_scaled.ensures.canonical
    (subst (λ (ps : List (Var × ℤ)). IsCanonical ps) c.as_slice-pairs.ensures.list c.as_slice-pairs.ensures.canonical)
    (c.in-Ok-from_variable.ensures ∙ ap factor_term (sym c.in-Some.is))
    (subst (λ (b : ℤ). (v : Var → ℤ) → value v c.in-Ok-add_scaled.sum ≡ (value v c.args.term.now +ℤ (b *ℤ value v c.in-Ok-from_variable.one))) same c.in-Ok-add_scaled.ensures.worth)

pub returns-clause-past : goal.returns-clause-past
returns-clause-past c =
    let by : FitsSigned w128 c.args.by = c.ranges.by in
    let same : to_z w128 (of_z w128 c.args.by) ≡ c.args.by = rw to_z-of_z refl in
    λ p k m h i l. subst (λ (b : ℤ). ¬ TermFits c.args.term.now b c.in-Ok-from_variable.one) same (c.in-Err-add_scaled.ensures.past p)
    (near_term k m c.args.term.now c.in-Ok-from_variable.one c.args.by c.args.variable (c.in-Ok-from_variable.ensures ∙ ap factor_term (sym c.in-Some.is)) h i l)
