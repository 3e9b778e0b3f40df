use Rattle.std.proofs.Common.{◌≡◌, ◌<◌, ℕ, List, ◌∙◌, get_or, length, refl, subst, sym, Some}
use Rattle.std.specs.Prelude.{slice_get}
use Rattle.std.proofs.lemmas.Bool.{both_ways, false≢true}
use Rattle.std.proofs.lemmas.List.Elements.{Contains-get_or}
use Rattle.std.proofs.lemmas.Option.{same_Some, slice_get_within}
use Rattle.ps_config.specs.Configurations.{Configuration, Covers}
use Rattle.ps_step.proofs.Seen.{all_seen, one_more}
use Rattle.ps_check.proofs.Before.{at_place_in, place_in, read_slice}
use Rattle.ps_check.proofs.covered.is_covered.Goals as goal

pub bounds-list-number : goal.bounds-list-number
bounds-list-number c =
    let n : ℕ = get_or c.args.candidates.now c.loop-number.number-index 0 in
    let w = c.requires.only n (Contains-get_or c.args.candidates.now c.loop-number.number-index 0 c.loop-number-test.true) in
    subst (λ (cs : List Configuration). n < length cs) (sym c.as_slice-list.ensures) (slice_get_within c.args.configs.now n w.0 w.1)

pub returns-then-is_covered_by : goal.returns-then-is_covered_by
returns-then-is_covered_by c =
    let n : ℕ = get_or c.args.candidates.now c.loop-number.number-index 0 in
    let w = c.requires.only n (Contains-get_or c.args.candidates.now c.loop-number.number-index 0 c.loop-number-test.true) in
    let at_n : slice_get c.args.configs.now n ≡ Some c.index-list-number.result =
    read_slice c.args.configs.now c.as_slice-list.result.now n c.index-list-number.result c.as_slice-list.ensures (slice_get_within c.args.configs.now n w.0 w.1) c.index-list-number.is in
    ((λ h. (c.index-list-number.result, at_place_in c.args.configs.now n c.index-list-number.result at_n, c.is_covered_by.ensures.0 c.if-is_covered_by.true)), (λ h. refl))

pub loop-number-preserved : goal.loop-number-preserved
loop-number-preserved c =
    let n : ℕ = get_or c.args.candidates.now c.loop-number.number-index 0 in
    let w = c.requires.only n (Contains-get_or c.args.candidates.now c.loop-number.number-index 0 c.loop-number-test.true) in
    let at_n : slice_get c.args.configs.now n ≡ Some c.index-list-number.result =
    read_slice c.args.configs.now c.as_slice-list.result.now n c.index-list-number.result c.as_slice-list.ensures (slice_get_within c.args.configs.now n w.0 w.1) c.index-list-number.is in
    one_more (λ (k : ℕ). (d : Configuration) → slice_get c.args.configs.now k ≡ Some d → ¬ Covers d (record { at = c.args.at.now; atoms = c.args.atoms.now })) c.args.candidates.now c.loop-number.number-index 0 c.loop-number-test.true
    (λ d at h. both_ways c.is_covered_by.result c.if-is_covered_by.false (c.is_covered_by.ensures.1
    (subst (λ (e : Configuration). Covers e (record { at = c.args.at.now; atoms = c.args.atoms.now })) (same_Some d c.index-list-number.result (sym at ∙ at_n)) h)))
    c.loop-number.invariant

pub returns : goal.returns
returns c = (
  (λ h. absurd (false≢true h)),
  (λ w.
      let at_n : slice_get c.args.configs.now w.1.0 ≡ Some w.0 = place_in c.args.configs.now w.0 w.1 in
      absurd (all_seen (λ (k : ℕ). (d : Configuration) → slice_get c.args.configs.now k ≡ Some d → ¬ Covers d (record { at = c.args.at.now; atoms = c.args.atoms.now })) c.args.candidates.now c.loop-number.number-index c.loop-number-test.false
      c.loop-number.invariant w.1.0 (c.requires.all w.1.0 w.0 c.args.atoms.now at_n w.2) w.0 at_n w.2)),
)
