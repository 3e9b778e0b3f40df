use Rattle.std.proofs.Common.{◌≡◌, ℕ, arith, refl, subst, ◌∙◌}
use Rattle.std.proofs.lemmas.Option.{slice_get_read}
use Rattle.ps_check.specs.inner.Index.{AreLocated}
use Rattle.ps_check.proofs.Indexing.{located_more, located_none, located_one}
use Rattle.ps_check.proofs.located.by_number.Goals as goal

pub loop-number-init : goal.loop-number-init
loop-number-init c = located_none c.args.configs.now c.in_ok-located.located.items c.in_ok-located.ensures.items

pub loop-number-preserved : goal.loop-number-preserved
loop-number-preserved c =
    located_more c.args.configs.now c.loop-number.number c.loop-number.located.items c.push.new.self.items (record { number = c.loop-number.number; locations = c.in_ok-locations.locations })
    c.loop-number.invariant c.in_ok-push.ensures.items refl
    (located_one c.args.configs.now c.index-configs-number.result c.at.result.now (record { number = c.loop-number.number; locations = c.in_ok-locations.locations })
    (slice_get_read c.args.configs.now c.count_of-count.result c.loop-number.number c.index-configs-number.result c.count_of-count.ensures c.loop-number-test.true c.index-configs-number.is)
    c.at.ensures.form c.at.ensures.list c.in_ok-locations.ensures)

pub returns : goal.returns
returns c =
    subst (λ (n : ℕ). AreLocated c.args.configs.now n c.loop-number.located.items)
    (let is : c.loop-number.number ≡ c.count_of-count.result = omega (arith, c.loop-number-test.false, c.loop-number.auto.number-end) in is ∙ c.count_of-count.ensures)
    c.loop-number.invariant
