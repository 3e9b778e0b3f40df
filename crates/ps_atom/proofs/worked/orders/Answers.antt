use Rattle.std.proofs.Common.{refl}
use Rattle.ps_atom.proofs.worked.orders.Goals as goal

pub returns-clause-threads : goal.returns-clause-threads
returns-clause-threads c = (refl, refl, refl, refl)

pub returns-clause-pairs : goal.returns-clause-pairs
returns-clause-pairs c = (refl, refl)

pub returns-clause-atoms : goal.returns-clause-atoms
returns-clause-atoms c = (refl, refl, refl)
