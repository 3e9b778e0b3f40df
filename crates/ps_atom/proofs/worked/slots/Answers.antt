use Rattle.std.proofs.Common.{refl}
use Rattle.ps_atom.proofs.Examples.{in_range, too_many_slots, no_global, no_local}
use Rattle.ps_atom.proofs.worked.slots.Goals as goal

pub returns-clause-slots : goal.returns-clause-slots
returns-clause-slots c = (refl, refl)

pub returns-clause-ranges : goal.returns-clause-ranges
returns-clause-ranges c = (in_range, too_many_slots, no_global, no_local)
