-- The texts compute.
use Rattle.std.proofs.Common.{refl}
use Rattle.std.specs.Fmt.{digits}
use Rattle.ps_modes.proofs.worked.faults_of_entries_are_told.Goals as goal

pub returns : goal.returns
unfolding digits
returns c = record { number = refl; twice = refl; free = refl; length = refl; past = refl; sum = refl }
