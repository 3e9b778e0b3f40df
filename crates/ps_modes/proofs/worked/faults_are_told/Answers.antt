-- The texts compute.
use Rattle.std.proofs.Common.{refl}
use Rattle.std.specs.Fmt.{digits}
use Rattle.ps_modes.proofs.worked.faults_are_told.Goals as goal

pub returns : goal.returns
unfolding digits
returns c = record { predicate = refl; number = refl; twice = refl; accepting = refl; start = refl; fresh = refl }
