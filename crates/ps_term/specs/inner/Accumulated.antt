-- Sums that are kept by variable, in ascending order, of which some may be 0.
use Rattle.std.specs.Prelude.{ℤ, List, [], ◌∷◌, ◌++◌}
use Rattle.ps_term.specs.inner.Front.{kept_pair}
use Rattle.ps_term.specs.Pairs.{IsBelow}
use Rattle.ps_term.specs.declared.var.Var.{Var}

-- the variables strictly ascend
abbrev pub IsRising : List (Var × ℤ) → Type 0
IsRising [] = Unit {0}
IsRising (p ∷ ps) = IsBelow p.0 ps × IsRising ps

-- the sums that aren't 0
abbrev pub standing : List (Var × ℤ) → List (Var × ℤ)
standing [] = []
standing (p ∷ ps) = kept_pair p.0 p.1 ++ standing ps
