-- The parts of a letter's triple.
use Rattle.std.specs.Prelude.{ℕ, List, [], ◌∷◌, ◌++◌, Option, Some, None}
use Rattle.ps_atom.specs.declared.atom.Atom.{Atom}
use Rattle.ps_interp.specs.Entries.{with_numbers}
use Rattle.ps_interp.specs.Interpolants.{Interpolant}

-- the atoms before the command, with each thread by its number
abbrev pub atoms_by : List ℕ → Option Interpolant → List Atom
atoms_by names None = []
atoms_by names (Some q) = with_numbers names q.atom ∷ []

-- the multipliers: that of the atom before, those of the command's rows, and that of the negated atom after
abbrev pub multipliers_by : Option Interpolant → List ℕ → ℕ → List ℕ
multipliers_by None weights last = weights ++ last ∷ []
multipliers_by (Some q) weights last = q.divisor ∷ (weights ++ last ∷ [])
