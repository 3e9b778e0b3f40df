use Rattle.ps_interp.proofs.Single.{entries_are, new_is}
use Rattle.ps_interp.proofs.laws.interpolations_are_one.Goals as goal

pub returns : goal.returns
returns c = λ setting known trace lambda new others entries more h k.
    (new_is setting trace lambda known new others entries more h k, entries_are setting trace lambda known new others entries more h k)
