use Rattle.std.proofs.Common.{List, ℕ, All, subst}
use Rattle.ps_interp.specs.inner.Starts.{IsSmall}
use Rattle.ps_interp.proofs.Opening.{added_past, added_whole}
use Rattle.ps_interp.proofs.initial.added.Goals as goal

pub returns-in_default-clause-past : goal.returns-in_default-clause-past
returns-in_default-clause-past c = added_past c.args.weights.now c.args.sums.now c.loop-place.place c.loop-place-test.true c.requires c.in_default.ensures.past

pub returns-clause-fits : goal.returns-clause-fits
returns-clause-fits c =
    subst (λ (ns : List ℕ). All IsSmall ns) (added_whole c.args.weights.now c.args.sums.now c.loop-place.list.items c.loop-place.place c.loop-place.invariant.sums c.requires c.loop-place-test.false) c.loop-place.invariant.small
