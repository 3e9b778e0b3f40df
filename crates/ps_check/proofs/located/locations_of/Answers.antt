use Rattle.std.proofs.Common.{ap, ◌∙◌}
use Rattle.std.proofs.lemmas.List.{take_all}
use Rattle.ps_check.specs.inner.Index.{locations_of}
use Rattle.ps_check.proofs.located.locations_of.Goals as goal

pub returns : goal.returns
returns c = c.loop-place.invariant ∙ ap locations_of (take_all c.loop-place.place-index c.args.at.now c.loop-place-test.false)
