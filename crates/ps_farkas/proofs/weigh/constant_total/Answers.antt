use Rattle.std.proofs.Common.{◌≡◌, ℤ, pos, ◌+ℤ◌, ◌*ℤ◌, get_or, to_z, FitsSigned, arith, rules, sym, subst, ap, ◌∙◌}
use Rattle.std.specs.Int.{w128}
use Rattle.std.proofs.lemmas.Int.{to_z-of_z}
use Rattle.ps_term.specs.declared.row.Row.{Row}
use Rattle.ps_term.specs.Sums.{ScaledFits}
use Rattle.ps_farkas.proofs.Weighing.{Weighed-step}
use Rattle.ps_farkas.proofs.weigh.constant_total.Goals as goal

pub loop-i-preserved : goal.loop-i-preserved
loop-i-preserved c =
    let r = c.row.result.now in
    let n : FitsSigned w128 c.constant_of.result = search rules in
    let k : FitsSigned w128 c.in_ok-sum.sum = search rules in
    let part : c.constant_of.result ≡ r.term.constant = c.constant_of.ensures in
    let here = c.in_ok-sum.ensures in
    let is = simp to_z-of_z at here in
    rw to_z-of_z (Weighed-step (λ t. t.constant) c.args.rows.now c.args.lambda.now (to_z w128 c.loop-i.sum-bits) c.in_ok-sum.sum c.loop-i.i r c.loop-i.invariant (omega arith) c.requires c.row.ensures (subst (λ (z : ℤ). ScaledFits (to_z w128 c.loop-i.sum-bits) (pos (get_or c.args.lambda.now c.loop-i.i 0)) z) part is.0) (is.1 ∙ ap (λ (z : ℤ). to_z w128 c.loop-i.sum-bits +ℤ (pos (get_or c.args.lambda.now c.loop-i.i 0) *ℤ z)) part))
