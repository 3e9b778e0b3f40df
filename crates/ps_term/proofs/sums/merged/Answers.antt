use Rattle.std.proofs.Common.{◌≡◌, ◌+ℤ◌, ◌*ℤ◌, ◌++◌, FitsSigned, ℤ, Option, SomeIff, to_z, of_z, rules, sym, subst, ◌∙◌}
use Rattle.std.specs.Int.{w128}
use Rattle.std.proofs.lemmas.Int.{to_z-of_z}
use Rattle.ps_term.specs.inner.Front.{front_coefficient, kept_pair}
use Rattle.ps_term.specs.Sums.{PairsFit, ScaledFits}
use Rattle.ps_term.proofs.Merging.{Merged-turn, Merged-end, Merged-refused, MergedAll}
use Rattle.ps_term.proofs.sums.merged.Goals as goal

pub returns-in_err-sum-clause-past : goal.returns-in_err-sum-clause-past
returns-in_err-sum-clause-past c =
    let by = to_z w128 (of_z w128 c.args.by) in
    let fl = front_coefficient c.in-Some.variable c.merging.left_rest.now in
    let fr = front_coefficient c.in-Some.variable c.merging.right_rest.now in
    let no : ¬ ScaledFits fl by fr = subst (λ (o : Option ℤ). SomeIff o (ScaledFits fl by fr) (fl +ℤ (by *ℤ fr))) c.in_err-sum.ensures.ok_part c.sum_in_front.ensures.sum in
    let all : ¬ PairsFit c.args.left.now by c.args.right.now = Merged-refused by c.args.left.now c.args.right.now c.merging.list.items c.merging.left_rest.now c.merging.right_rest.now c.in-Some.variable c.merging.invariant (sym c.in-Some.ensures) c.sum_in_front.ensures.start no in
    λ _. subst (λ (b : ℤ). ¬ PairsFit c.args.left.now b c.args.right.now) (to_z-of_z w128 c.args.by c.ranges.by) all

pub merging-preserved : goal.merging-preserved
merging-preserved c =
    let by = to_z w128 (of_z w128 c.args.by) in
    let x = c.in-Some.variable in
    let fl = front_coefficient x c.merging.left_rest.now in
    let fr = front_coefficient x c.merging.right_rest.now in
    let sum = c.in_ok-sum.sum in
    let is : ScaledFits fl by fr × (sum ≡ (fl +ℤ (by *ℤ fr))) = subst (λ (o : Option ℤ). SomeIff o (ScaledFits fl by fr) (fl +ℤ (by *ℤ fr))) c.in_ok-sum.ensures.ok_part c.sum_in_front.ensures.sum in
    let fits : FitsSigned w128 sum = subst (λ (n : ℤ). FitsSigned w128 n) (sym is.1) is.0.1 in
    let kept : c.keep.new.list.items ≡ (c.merging.list.items ++ kept_pair x (to_z w128 (of_z w128 sum))) = search rules in
    rw (kept, c.past_front-left_rest.ensures, c.past_front-right_rest.ensures) (Merged-turn by c.args.left.now c.args.right.now c.merging.list.items c.merging.left_rest.now c.merging.right_rest.now x (to_z w128 (of_z w128 sum)) c.merging.invariant (sym c.in-Some.ensures) is.0 (to_z-of_z w128 sum fits ∙ is.1))

pub returns-clause-fits : goal.returns-clause-fits
returns-clause-fits c =
    let by = to_z w128 (of_z w128 c.args.by) in
    let end : MergedAll by c.args.left.now c.args.right.now c.merging.list.items = Merged-end by c.args.left.now c.args.right.now c.merging.list.items c.merging.left_rest.now c.merging.right_rest.now c.merging.invariant (sym c.in_default.ensures) in
    subst (λ (b : ℤ). PairsFit c.args.left.now b c.args.right.now) (to_z-of_z w128 c.args.by c.ranges.by) end.fits
