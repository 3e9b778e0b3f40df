use Rattle.std.proofs.Common.{arith, rules}
use Rattle.ps_check.proofs.Adding.{all_met, met_more}
use Rattle.ps_check.proofs.branches.next_unmet.Goals as goal

pub loop-place-init : goal.loop-place-init
loop-place-init c = λ k set past less is. absurd (let f : ⊥ = omega (arith, past, less) in f)

pub returns-then-not-meets-clause-unmet : goal.returns-then-not-meets-clause-unmet
returns-then-not-meets-clause-unmet c = (search rules, c.loop-place.invariant)

pub loop-place-preserved : goal.loop-place-preserved
loop-place-preserved c =
    met_more c.args.sets.now c.args.atoms.now c.args.from c.loop-place.place c.index-sets-place.result c.as_slice.result.now c.loop-place-test.true c.index-sets-place.is c.as_slice.ensures.value
    (c.meets.ensures.0 c.if-not-meets.false) c.loop-place.invariant

pub returns-clause-unmet : goal.returns-clause-unmet
returns-clause-unmet c = all_met c.args.sets.now c.args.atoms.now c.args.from c.loop-place.place c.loop-place-test.false c.loop-place.invariant
