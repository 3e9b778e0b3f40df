use Rattle.std.proofs.Common.{ℤ, pos, FitsSigned, get_or, drop, rules, subst}
use Rattle.std.specs.Int.{w128}
use Rattle.std.proofs.lemmas.Int.{to_z-of_z}
use Rattle.std.proofs.lemmas.List.{drop_all}
use Rattle.std.proofs.lemmas.List.Elements.{recursion_from_All}
use Rattle.std.proofs.lemmas.Result.{err_from_is_err_and}
use Rattle.ps_term.specs.Pairs.{coefficient}
use Rattle.ps_term.specs.Sums.{ScaledFits}
use Rattle.ps_term.specs.declared.var.Var.{Var}
use Rattle.ps_term.specs.declared.var.Var.TheVariants.{Global}
use Rattle.ps_term.proofs.Adding.{Added, Added-end, Added-refused, Added-step}
use Rattle.ps_term.proofs.accumulation.add_pairs.Goals as goal

pub returns-in_err-add_one-clause-past : goal.returns-in_err-add_one-clause-past
returns-in_err-add_one-clause-past c =
    let start = c.args.kept.now.sums.items in
    let ps = c.args.pairs.now in
    let i = c.loop-pair.pair-index in
    let d : Var × ℤ = (Global 0, pos 0) in
    let by : FitsSigned w128 c.args.by = c.ranges.by in
    let fits : FitsSigned w128 (get_or ps i d).1 = search rules in
    let state : Added c.args.by start ps c.loop-pair.kept.sums.items (drop i ps) = subst (λ (b : ℤ). Added b start ps c.loop-pair.kept.sums.items (drop i ps)) (to_z-of_z w128 c.args.by by) c.loop-pair.invariant in
    let end = err_from_is_err_and c.from_residual.result c.from_residual.ensures.1 in
    rw (end.1, end.2) (λ past all. Added-refused c.args.by start ps c.loop-pair.kept.sums.items i d state c.loop-pair-test.true (simp to_z-of_z at (c.in_err-add_one.ensures.past past)) (recursion_from_All (λ p. ScaledFits (coefficient p.0 start) c.args.by p.1) ps all))

pub loop-pair-preserved : goal.loop-pair-preserved
loop-pair-preserved c =
    let start = c.args.kept.now.sums.items in
    let ps = c.args.pairs.now in
    let i = c.loop-pair.pair-index in
    let d : Var × ℤ = (Global 0, pos 0) in
    let by : FitsSigned w128 c.args.by = c.ranges.by in
    let fits : FitsSigned w128 (get_or ps i d).1 = search rules in
    let state : Added c.args.by start ps c.loop-pair.kept.sums.items (drop i ps) = subst (λ (b : ℤ). Added b start ps c.loop-pair.kept.sums.items (drop i ps)) (to_z-of_z w128 c.args.by by) c.loop-pair.invariant in
    let is = c.in_ok-add_one.ensures in
    rw to_z-of_z (Added-step c.args.by start ps c.loop-pair.kept.sums.items c.add_one.new.kept.sums.items i d state c.loop-pair-test.true (simp to_z-of_z at is.put) (simp to_z-of_z at is.fits))

pub returns-clause-worth : goal.returns-clause-worth
returns-clause-worth c =
    let start = c.args.kept.now.sums.items in
    let ps = c.args.pairs.now in
    let i = c.loop-pair.pair-index in
    let by : FitsSigned w128 c.args.by = c.ranges.by in
    let state : Added c.args.by start ps c.loop-pair.kept.sums.items (drop i ps) = subst (λ (b : ℤ). Added b start ps c.loop-pair.kept.sums.items (drop i ps)) (to_z-of_z w128 c.args.by by) c.loop-pair.invariant in
    Added-end c.args.by start ps c.loop-pair.kept.sums.items (drop i ps) state (drop_all i ps c.loop-pair-test.false)
