use Rattle.std.proofs.Common.{rules, ◌≡◌, ◌∙◌, ◌*ℤ◌, refl, sym, subst, FitsSigned, to_z, of_z}
use Rattle.std.specs.Int.{w128}
use Rattle.std.proofs.lemmas.Int.{to_z-of_z}
use Rattle.ps_compile.proofs.terms.add_times.Goals as goal
use Rattle.ps_compile.specs.inner.Near.{IsNear}

pub returns-in-Some-clause-past : goal.returns-in-Some-clause-past
returns-in-Some-clause-past c =
    let past = c.add_product.ensures.past in
    let times : c.in-Some.times ≡ (c.args.by *ℤ c.args.number) = search rules in
    let fits : FitsSigned w128 c.in-Some.times = search rules in
    let back : to_z w128 (of_z w128 c.in-Some.times) ≡ c.in-Some.times = rw to_z-of_z refl in
    λ p k m h i l. past p k m h (subst (IsNear m) (sym (back ∙ times)) i) l
