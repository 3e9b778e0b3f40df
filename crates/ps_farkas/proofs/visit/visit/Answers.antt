use Rattle.std.proofs.Common.{◌≡◌, ◌≢◌, IfSome, ℤ, pos, ◌+ℤ◌, ◌*ℤ◌, get_or, to_z, Some, FitsSigned, arith, rules, sym, subst, ap, ◌∙◌}
use Rattle.std.specs.Int.{w128}
use Rattle.std.proofs.lemmas.Int.{to_z-of_z}
use Rattle.ps_term.specs.declared.row.Row.{Row}
use Rattle.ps_term.specs.declared.var.Var.{Var}
use Rattle.ps_term.specs.Lookup.{IsAfter, IsBefore}
use Rattle.ps_term.specs.Pairs.{coefficient}
use Rattle.ps_term.specs.Sums.{ScaledFits}
use Rattle.ps_farkas.proofs.Walking.{IsNext-step}
use Rattle.ps_farkas.proofs.Weighing.{Weighed-step}
use Rattle.ps_farkas.proofs.visit.visit.Goals as goal

pub loop-i-preserved : goal.loop-i-preserved
loop-i-preserved c =
    let x = c.args.variable in
    let r = c.row.result.now in
    let n : FitsSigned w128 c.stop_at-stop.result.coefficient = search rules in
    let k : FitsSigned w128 c.in_ok-sum.sum = search rules in
    let part : c.stop_at-stop.result.coefficient ≡ coefficient x r.term.pairs = c.stop_at-stop.ensures.coefficient in
    let here = c.in_ok-sum.ensures in
    let is = simp to_z-of_z at here in
    record {
      sum = rw to_z-of_z (Weighed-step (λ t. coefficient x t.pairs) c.args.rows.now c.args.lambda.now (to_z w128 c.loop-i.sum-bits) c.in_ok-sum.sum c.loop-i.i r c.loop-i.invariant.sum (omega arith) c.requires c.row.ensures (subst (λ (z : ℤ). ScaledFits (to_z w128 c.loop-i.sum-bits) (pos (get_or c.args.lambda.now c.loop-i.i 0)) z) part is.0) (is.1 ∙ ap (λ (z : ℤ). to_z w128 c.loop-i.sum-bits +ℤ (pos (get_or c.args.lambda.now c.loop-i.i 0) *ℤ z)) part));
      next = IsNext-step (Some x) c.args.rows.now c.loop-i.i r c.loop-i.next c.stop_at-stop.result.next c.lesser-next.result c.loop-i.invariant.next (omega arith) c.row.ensures c.stop_at-stop.ensures.skipped c.stop_at-stop.ensures.stands c.lesser-next.ensures;
    }
