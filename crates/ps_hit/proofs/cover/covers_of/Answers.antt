use Rattle.std.proofs.Common.{List, ℕ, subst}
use Rattle.ps_hit.specs.inner.Covers.{IsCover}
use Rattle.ps_hit.proofs.Rooted.{numbers_more}
use Rattle.ps_hit.proofs.cover.covers_of.Goals as goal

-- one more set has its cover
pub loop-set-preserved : goal.loop-set-preserved
loop-set-preserved c =
    numbers_more c.args.chosen.now c.args.sets.now c.loop-set.set-index c.set-item.result c.loop-set.covers.items c.push.new.self.items c.cover_of.result c.loop-set-test.true c.set-item.is
    (subst (λ (xs : List ℕ). IsCover c.args.chosen.now xs c.cover_of.result) c.as_slice.ensures.value c.cover_of.ensures) c.in_ok-push.ensures.items c.loop-set.invariant
