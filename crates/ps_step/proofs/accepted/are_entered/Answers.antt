use Rattle.std.proofs.Common.{ℕ, get_or, refl, Contains}
use Rattle.std.proofs.lemmas.Bool.{both_ways, false≢true}
use Rattle.std.proofs.lemmas.List.Elements.{Contains-get_or}
use Rattle.ps_step.proofs.Seen.{one_more, all_seen}
use Rattle.ps_step.proofs.accepted.are_entered.Goals as goal

pub returns-then-not-has : goal.returns-then-not-has
returns-then-not-has c = (
  (λ h. absurd (false≢true h)),
  (λ entered.
      let p : ℕ × ℕ = get_or c.args.at.now c.loop-place.place-index (0, 0) in
      absurd (both_ways c.has.result c.if-not-has.true (c.has.ensures.1 (entered p.0 p.1 (Contains-get_or c.args.at.now c.loop-place.place-index (0, 0) c.loop-place-test.true))))),
)

pub loop-place-preserved : goal.loop-place-preserved
loop-place-preserved c =
    one_more (λ (p : ℕ × ℕ). Contains c.args.entries.now p.1) c.args.at.now c.loop-place.place-index (0, 0) c.loop-place-test.true (c.has.ensures.0 c.if-not-has.false) c.loop-place.invariant

pub returns : goal.returns
returns c = ((λ h t l i. all_seen (λ (p : ℕ × ℕ). Contains c.args.entries.now p.1) c.args.at.now c.loop-place.place-index c.loop-place-test.false c.loop-place.invariant (t, l) i), (λ h. refl))
