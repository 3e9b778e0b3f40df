use Rattle.std.proofs.Common.{◌≢◌, ◌<◌, ℕ, get_or, refl}
use Rattle.std.proofs.lemmas.Bool.{both_ways, false≢true}
use Rattle.std.proofs.lemmas.List.Elements.{Contains-get_or}
use Rattle.ps_step.proofs.Seen.{all_seen, one_more}
use Rattle.ps_check.proofs.configs.are_locations.Goals as goal

pub returns-then-not-is_location : goal.returns-then-not-is_location
returns-then-not-is_location c = (
  (λ h. absurd (false≢true h)),
  (λ all.
      let p : ℕ × ℕ = get_or c.args.at.now c.loop-place.place-index (0, 0) in
      absurd (both_ways c.is_location.result c.if-not-is_location.true (c.is_location.ensures.1 (all p.0 p.1 (Contains-get_or c.args.at.now c.loop-place.place-index (0, 0) c.loop-place-test.true))))),
)

pub loop-place-preserved : goal.loop-place-preserved
loop-place-preserved c =
    one_more (λ (p : ℕ × ℕ). (p.1 < c.args.locations) × (p.1 ≢ 1)) c.args.at.now c.loop-place.place-index (0, 0) c.loop-place-test.true (c.is_location.ensures.0 c.if-not-is_location.false) c.loop-place.invariant

pub returns : goal.returns
returns c = (
  (λ h t l i. all_seen (λ (p : ℕ × ℕ). (p.1 < c.args.locations) × (p.1 ≢ 1)) c.args.at.now c.loop-place.place-index c.loop-place-test.false c.loop-place.invariant (t, l) i),
  (λ h. refl),
)
