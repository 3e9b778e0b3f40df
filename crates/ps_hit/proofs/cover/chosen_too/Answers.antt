use Rattle.std.proofs.Common.{◌∙◌, ap, List, ℕ}
use Rattle.std.specs.Prelude.{◌==◌}
use Rattle.std.specs.List.{list_any}
use Rattle.ps_hit.specs.declared.cover.Cover.TheVariants.{Unmet}
use Rattle.ps_hit.specs.Hitting.{numbers_of}
use Rattle.ps_hit.specs.inner.Covers.{covers_with}
use Rattle.ps_hit.proofs.CoverSteps.{covers_more}
use Rattle.ps_hit.proofs.cover.chosen_too.Goals as goal

-- one more set is done
pub loop-at-preserved : goal.loop-at-preserved
loop-at-preserved c =
    rw c.in_ok-push.ensures.items (covers_more c.args.number c.args.sets.now c.args.covers.now c.loop-at.at c.index-sets-at.result Unmet c.loop-at.after.items
    (covers_with c.args.number (numbers_of c.args.sets.now) c.args.covers.now) c.with.result c.has.result
    c.loop-at-test.true c.requires c.index-sets-at.is
    (c.has.ensures ∙ ap (λ (xs : List ℕ). list_any (λ m. m == c.args.number) xs) c.as_slice.ensures.value) c.with.ensures c.loop-at.invariant)
