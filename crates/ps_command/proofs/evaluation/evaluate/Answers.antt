use Rattle.std.proofs.Common.{ℤ, pos, get_or, to_z, FitsSigned, rules}
use Rattle.std.specs.Int.{w128}
use Rattle.std.proofs.lemmas.Int.{to_z-of_z}
use Rattle.ps_term.specs.declared.var.Var.{Var}
use Rattle.ps_term.specs.declared.var.Var.TheVariants.{Global}
use Rattle.ps_command.specs.Values.{value_at}
use Rattle.ps_command.specs.inner.View.{values_from}
use Rattle.ps_command.proofs.Evaluating.{Evaluated-step}
use Rattle.ps_command.proofs.evaluation.evaluate.Goals as goal

pub loop-pair-preserved : goal.loop-pair-preserved
loop-pair-preserved c =
    let v = value_at (values_from c.args.globals.now c.args.locals.now) in
    let term = c.args.term.now in
    let qs = c.as_slice-pair-items.result.now in
    let i = c.loop-pair.pair-index in
    let d : Var × ℤ = (Global 0, pos 0) in
    let a : FitsSigned w128 (get_or qs i d).1 = search rules in
    let k : FitsSigned w128 c.value_of.result = search rules in
    let s : FitsSigned w128 c.in_ok-sum.sum = search rules in
    let here = c.in_ok-sum.ensures in
    let is = simp to_z-of_z at here in
    rw to_z-of_z (Evaluated-step v term.pairs qs term.constant (to_z w128 c.loop-pair.sum-bits) c.in_ok-sum.sum c.value_of.result i d c.loop-pair.invariant c.loop-pair-test.true c.value_of.ensures is.0 is.1)
