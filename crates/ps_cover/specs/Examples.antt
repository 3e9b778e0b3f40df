-- One thread among two at its location: the first injection, and one that isn't.
use Rattle.std.specs.Prelude.{[], ◌∷◌}
use Rattle.ps_config.specs.Configurations.{Configuration}

-- thread 0 at location 3
abbrev pub one_thread : Configuration
one_thread = record { at = (0, 3) ∷ []; atoms = [] }

-- threads 1 and 2 at location 3
abbrev pub two_threads : Configuration
two_threads = record { at = (1, 3) ∷ (2, 3) ∷ []; atoms = [] }
