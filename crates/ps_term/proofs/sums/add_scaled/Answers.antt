use Rattle.std.proofs.Common.{◌≡◌, ◌+ℤ◌, ◌*ℤ◌, FitsSigned, List, ℤ, Option, SomeIff, to_z, of_z, rules, arith, subst, subst₂}
use Rattle.std.specs.Int.{w128}
use Rattle.std.proofs.lemmas.Int.{ints, to_z-of_z}
use Rattle.ps_term.specs.declared.var.Var.{Var}
use Rattle.ps_term.specs.Pairs.{coefficient, pairs_value}
use Rattle.ps_term.specs.Sums.{PairsFit, ScaledFits}
use Rattle.ps_term.proofs.Ring.{distribute}
use Rattle.ps_term.proofs.Uniqueness.{unit_at, pairs_value-unit_at}
use Rattle.ps_term.proofs.sums.add_scaled.Goals as goal

-- what was merged is worth the two lists, and so are its coefficients
list_worth : (by : ℤ) (left right out cs ds : List (Var × ℤ)) → ((v : Var → ℤ) → pairs_value v out ≡ (pairs_value v left +ℤ (by *ℤ pairs_value v right))) → left ≡ cs → right ≡ ds → (v : Var → ℤ) → pairs_value v out ≡ (pairs_value v cs +ℤ (by *ℤ pairs_value v ds))
list_worth by left right out cs ds h e f v =
    subst₂ (λ (ps qs : List (Var × ℤ)). pairs_value v out ≡ (pairs_value v ps +ℤ (by *ℤ pairs_value v qs))) e f (h v)

list_coefficients : (by : ℤ) (out cs ds : List (Var × ℤ)) → ((v : Var → ℤ) → pairs_value v out ≡ (pairs_value v cs +ℤ (by *ℤ pairs_value v ds))) → (x : Var) → coefficient x out ≡ (coefficient x cs +ℤ (by *ℤ coefficient x ds))
list_coefficients by out cs ds h x =
    rw (← pairs_value-unit_at x out, ← pairs_value-unit_at x cs, ← pairs_value-unit_at x ds) (h (unit_at x))

with_constants : (by l m r n out k : ℤ) → out ≡ (l +ℤ (by *ℤ r)) → k ≡ (m +ℤ (by *ℤ n)) → (out +ℤ k) ≡ ((l +ℤ m) +ℤ (by *ℤ (r +ℤ n)))
with_constants by l m r n out k e f = omega (arith, ints, distribute by r n)

pub returns-clause-worth : goal.returns-clause-worth
returns-clause-worth c =
    let a = c.args.a.now in
    let b = c.args.b.now in
    let by : FitsSigned w128 c.args.by = c.ranges.by in
    let fa : FitsSigned w128 a.constant = search rules in
    let fb : FitsSigned w128 b.constant = search rules in
    let fk : FitsSigned w128 c.in_ok-constant.constant = search rules in
    let m = to_z w128 (of_z w128 a.constant) in
    let n = to_z w128 (of_z w128 b.constant) in
    let k = c.in_ok-constant.constant in
    let z = to_z w128 (of_z w128 c.args.by) in
    let is : ScaledFits m z n × (k ≡ (m +ℤ (z *ℤ n))) = subst (λ (o : Option ℤ). SomeIff o (ScaledFits m z n) (m +ℤ (z *ℤ n))) c.in_ok-constant.ensures.ok_part c.scaled_sum.ensures in
    let h = list_worth z c.as_slice.result.now c.as_slice-2.result.now c.in_ok-list.list.items a.pairs b.pairs c.in_ok-list.ensures.worth c.as_slice.ensures.list c.as_slice-2.ensures.list in
    λ values. rw (c.from_list.ensures, to_z-of_z) (with_constants c.args.by (pairs_value values a.pairs) a.constant (pairs_value values b.pairs) b.constant (pairs_value values c.in_ok-list.list.items) k (simp to_z-of_z at (h values)) (simp to_z-of_z at is.1))

pub returns-clause-coefficients : goal.returns-clause-coefficients
returns-clause-coefficients c =
    let a = c.args.a.now in
    let b = c.args.b.now in
    let by : FitsSigned w128 c.args.by = c.ranges.by in
    let z = to_z w128 (of_z w128 c.args.by) in
    let h = list_worth z c.as_slice.result.now c.as_slice-2.result.now c.in_ok-list.list.items a.pairs b.pairs c.in_ok-list.ensures.worth c.as_slice.ensures.list c.as_slice-2.ensures.list in
    λ x. rw c.from_list.ensures (simp to_z-of_z at (list_coefficients z c.in_ok-list.list.items a.pairs b.pairs h x))

pub returns-clause-fits : goal.returns-clause-fits
returns-clause-fits c =
    let a = c.args.a.now in
    let b = c.args.b.now in
    let by : FitsSigned w128 c.args.by = c.ranges.by in
    let fa : FitsSigned w128 a.constant = search rules in
    let fb : FitsSigned w128 b.constant = search rules in
    let m = to_z w128 (of_z w128 a.constant) in
    let n = to_z w128 (of_z w128 b.constant) in
    let z = to_z w128 (of_z w128 c.args.by) in
    let is : ScaledFits m z n × (c.in_ok-constant.constant ≡ (m +ℤ (z *ℤ n))) = subst (λ (o : Option ℤ). SomeIff o (ScaledFits m z n) (m +ℤ (z *ℤ n))) c.in_ok-constant.ensures.ok_part c.scaled_sum.ensures in
    let lists : PairsFit a.pairs z b.pairs = subst₂ (λ (ps qs : List (Var × ℤ)). PairsFit ps z qs) c.as_slice.ensures.list c.as_slice-2.ensures.list c.in_ok-list.ensures.fits in
    (simp to_z-of_z at lists, simp to_z-of_z at is.0)
