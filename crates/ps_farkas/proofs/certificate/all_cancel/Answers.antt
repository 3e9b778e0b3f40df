use Rattle.std.proofs.Common.{◌≡◌, Some, None, ℤ, pos, negsuc, FitsSigned, of_z, eqb, eqb-true, arith, refl, rules, sym, ap, ◌∙◌}
use Rattle.std.specs.Int.{w128}
use Rattle.ps_farkas.proofs.Walking.{WalkedAll, Walking, Walking-turn, Walking-end, count_from-falls}
use Rattle.ps_farkas.proofs.certificate.all_cancel.Goals as goal

pub returns-in_err-found-clause-past : goal.returns-in_err-found-clause-past
returns-in_err-found-clause-past c =
    rw c.from_residual.ensures (λ all. c.in_err-found.ensures.past (all c.in-Some.variable))

pub walking-smaller : goal.walking-smaller
walking-smaller c =
    rw c.in-Some.is (count_from-falls c.args.rows.now c.in-Some.variable c.in_ok-found.found.next c.in_ok-found.ensures.next)

-- bits are 0 only at 0
zero_from_bits : (z : ℤ) → FitsSigned w128 z → of_z w128 z ≡ 0 → z ≡ pos 0
zero_from_bits (pos n) f e = ap pos e
zero_from_bits (negsuc n) f e = absurd (omega (arith, f.sfits))

pub walking-preserved : goal.walking-preserved
walking-preserved c =
    let sum = c.in_ok-found.found.sum in
    let fits : FitsSigned w128 sum = search rules in
    let is = c.in_ok-found.ensures.sum in
    let walking : Walking c.args.rows.now c.args.lambda.now (Some c.in-Some.variable) c.walking.cancels = rw (← c.in-Some.is) c.walking.invariant in
    Walking-turn c.args.rows.now c.args.lambda.now c.in-Some.variable c.in_ok-found.found.next c.walking.cancels (eqb (of_z w128 sum) 0) _ walking c.in_ok-found.ensures.next c.in_ok-found.ensures.fits (λ e. sym is ∙ zero_from_bits sum fits (eqb-true (of_z w128 sum) 0 e)) (λ e. ap (λ (z : ℤ). eqb (of_z w128 z) 0) (is ∙ e)) refl

pub returns-clause-answer : goal.returns-clause-answer
returns-clause-answer c =
    let walking : Walking c.args.rows.now c.args.lambda.now None c.walking.cancels = rw (← c.in_default.is) c.walking.invariant in
    let end : WalkedAll c.args.rows.now c.args.lambda.now c.walking.cancels = Walking-end c.args.rows.now c.args.lambda.now c.walking.cancels walking in
    (end.yes, end.no)

pub returns-clause-fits : goal.returns-clause-fits
returns-clause-fits c =
    let walking : Walking c.args.rows.now c.args.lambda.now None c.walking.cancels = rw (← c.in_default.is) c.walking.invariant in
    let end : WalkedAll c.args.rows.now c.args.lambda.now c.walking.cancels = Walking-end c.args.rows.now c.args.lambda.now c.walking.cancels walking in
    end.fits
