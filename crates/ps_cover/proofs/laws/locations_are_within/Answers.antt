use Rattle.ps_cover.proofs.Counted.{locations_within}
use Rattle.ps_cover.proofs.laws.locations_are_within.Goals as goal

pub returns : goal.returns
returns c = λ large cover. locations_within c.args.small.now large c.at-places.ensures.form cover
