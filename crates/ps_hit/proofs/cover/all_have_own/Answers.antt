use Rattle.std.proofs.Common.{refl}
use Rattle.std.proofs.lemmas.Bool.{both_ways, false≢true}
use Rattle.std.proofs.lemmas.List.{take_all}
use Rattle.std.proofs.lemmas.List.Elements.{All-more}
use Rattle.ps_hit.specs.inner.Covers.{HasOwn}
use Rattle.ps_hit.proofs.cover.all_have_own.Goals as goal

-- the number has no set of its own
pub returns-then-not-has_own : goal.returns-then-not-has_own
returns-then-not-has_own c = (
  λ yes. absurd (false≢true yes),
  λ each. absurd (both_ways c.has_own.result c.if-not-has_own.true (c.has_own.ensures.1 (each c.loop-number.number-index 0 c.loop-number-test.true))),
)

-- the number has one
pub loop-number-preserved : goal.loop-number-preserved
loop-number-preserved c =
    All-more (HasOwn c.args.covers.now) c.args.numbers.now c.loop-number.number-index 0 c.loop-number-test.true c.loop-number.invariant (c.has_own.ensures.0 c.if-not-has_own.false)

-- each number has one
pub returns : goal.returns
returns c = (λ yes. rw (← (take_all c.loop-number.number-index c.args.numbers.now c.loop-number-test.false)) c.loop-number.invariant, λ _. refl)
