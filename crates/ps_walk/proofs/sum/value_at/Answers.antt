use Rattle.std.proofs.Common.{◌≡◌, ℤ, pos, [], drop, get_or, to_z, FitsSigned, arith, rules, subst, List}
use Rattle.std.specs.Int.{w128}
use Rattle.std.proofs.lemmas.Int.{to_z-of_z}
use Rattle.std.proofs.lemmas.List.{drop_all}
use Rattle.ps_term.specs.declared.var.Var.{Var}
use Rattle.ps_term.specs.declared.var.Var.TheVariants.{Global}
use Rattle.ps_walk.specs.inner.Findings.{values_beside, found_values}
use Rattle.ps_walk.proofs.Summing.{Summed, Summed-step, Summed-past, Summed-end, beside_fits}
use Rattle.ps_walk.proofs.sum.value_at.Goals as goal

pub loop-pair-preserved : goal.loop-pair-preserved
loop-pair-preserved c =
    let v = values_beside c.args.left_out (found_values c.args.found.now) in
    let term = c.args.row.now.term in
    let qs = c.as_slice-pair-items.result.now in
    let i = c.loop-pair.pair-index in
    let d : Var × ℤ = (Global 0, pos 0) in
    let a : FitsSigned w128 (get_or qs i d).1 = search rules in
    let k : FitsSigned w128 c.value_beside.result = search rules in
    let s : FitsSigned w128 c.in_ok-sum.sum = search rules in
    let here = c.in_ok-sum.ensures in
    let is = simp to_z-of_z at here in
    rw to_z-of_z (Summed-step v term.pairs qs term.constant (to_z w128 c.loop-pair.sum-bits) c.in_ok-sum.sum c.value_beside.result i d c.loop-pair.invariant c.loop-pair-test.true c.value_beside.ensures is.0 is.1)

pub returns-in_err-sum : goal.returns-in_err-sum
returns-in_err-sum c =
    let v = values_beside c.args.left_out (found_values c.args.found.now) in
    let term = c.args.row.now.term in
    let qs = c.as_slice-pair-items.result.now in
    let i = c.loop-pair.pair-index in
    let d : Var × ℤ = (Global 0, pos 0) in
    let a : FitsSigned w128 (get_or qs i d).1 = search rules in
    let k : FitsSigned w128 c.value_beside.result = search rules in
    let here = c.in_err-sum.ensures in
    let is = simp to_z-of_z at here in
    rw c.from_residual.ensures (λ f. Summed-past v term.pairs qs term.constant (to_z w128 c.loop-pair.sum-bits) c.value_beside.result i d c.loop-pair.invariant c.loop-pair-test.true c.value_beside.ensures is ((beside_fits c.args.left_out (found_values c.args.found.now) term.pairs term.constant).1 f))

pub returns : goal.returns
returns c =
    let term = c.args.row.now.term in
    let k : FitsSigned w128 term.constant = search rules in
    let v = values_beside c.args.left_out (found_values c.args.found.now) in
    let end : drop c.loop-pair.pair-index c.as_slice-pair-items.result.now ≡ [] = drop_all c.loop-pair.pair-index c.as_slice-pair-items.result.now (omega arith) in
    let all : Summed v term.pairs term.constant (to_z w128 c.loop-pair.sum-bits) [] = subst (λ (qs : List (Var × ℤ)). Summed v term.pairs term.constant (to_z w128 c.loop-pair.sum-bits) qs) end c.loop-pair.invariant in
    Summed-end c.args.left_out (found_values c.args.found.now) term.pairs term.constant (to_z w128 c.loop-pair.sum-bits) c.checked_add.result all (simp to_z-of_z at c.checked_add.ensures)
