use Rattle.std.proofs.Common.{rules, ◌≡◌, ◌-◌, ◌<◌, suc, length, drop, get_or, refl, sym, subst, ℤ, pos, FitsSigned, to_z, of_z, arith}
use Rattle.std.specs.Prelude.{Option, None}
use Rattle.std.specs.Int.{w128}
use Rattle.std.proofs.lemmas.Int.{to_z-of_z}
use Rattle.ps_compile.proofs.Products.{products_step, products_refused}
use Rattle.ps_compile.proofs.terms.add_products.Goals as goal
use Rattle.ps_compile.specs.Ops.{with_products}
use Rattle.ps_term.specs.declared.var.Var.{Var}

pub returns-in-Err-clause-past : goal.returns-in-Err-clause-past
returns-in-Err-clause-past c =
    let by : FitsSigned w128 c.args.by = c.ranges.by in
    let same : to_z w128 (of_z w128 c.args.by) ≡ c.args.by = rw to_z-of_z refl in
    let i = c.loop-i.i in
    let ps = c.args.products.now in
    let d : ℤ × Option Var = (pos 0, None) in
    let some : 0 < i = search rules in
    let one : i ≡ suc (i - 1) = omega (arith, some) in
    let lt : i - 1 < length ps = search rules in
    let fits : FitsSigned w128 (get_or ps (i - 1) d).0 = search rules in
    let so_far : c.loop-i.sum ≡ with_products c.args.by (drop i ps) c.args.term =
    subst (λ (b : ℤ). c.loop-i.sum ≡ with_products b (drop i ps) c.args.term) same c.loop-i.invariant in
    λ past. products_refused c.args.by ps c.args.term c.loop-i.sum i (i - 1) d one lt so_far (simp to_z-of_z at (c.in-Err.ensures.past past))

pub loop-i-preserved : goal.loop-i-preserved
loop-i-preserved c =
    let by : FitsSigned w128 c.args.by = c.ranges.by in
    let same : to_z w128 (of_z w128 c.args.by) ≡ c.args.by = rw to_z-of_z refl in
    let i = c.loop-i.i in
    let ps = c.args.products.now in
    let d : ℤ × Option Var = (pos 0, None) in
    let some : 0 < i = search rules in
    let one : i ≡ suc (i - 1) = omega (arith, some) in
    let lt : i - 1 < length ps = search rules in
    let fits : FitsSigned w128 (get_or ps (i - 1) d).0 = search rules in
    let so_far : c.loop-i.sum ≡ with_products c.args.by (drop i ps) c.args.term =
    subst (λ (b : ℤ). c.loop-i.sum ≡ with_products b (drop i ps) c.args.term) same c.loop-i.invariant in
    subst (λ (b : ℤ). c.in-Ok.more ≡ with_products b (drop (i - 1) ps) c.args.term) (sym same)
    (products_step c.args.by ps c.args.term c.loop-i.sum c.in-Ok.more i (i - 1) d one lt so_far (simp to_z-of_z at c.in-Ok.ensures.is))
