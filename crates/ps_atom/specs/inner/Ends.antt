-- Places and refusals of rows that are known in part: those without variables, and tightened ones.
use Rattle.std.specs.Prelude.{ℤ, pos, ◌≤ℤ◌}
use Rattle.ps_atom.specs.Places.{IsArityOf}
use Rattle.ps_atom.specs.declared.place.Place128.{Place128}
use Rattle.ps_atom.specs.declared.place.Place128.TheVariants.{Trivial, False, Known, New}
use Rattle.ps_atom.specs.declared.place.PlaceEnd.{PlaceEnd}
use Rattle.ps_atom.specs.declared.place.PlaceEnd.TheVariants.{Arity, Full, Memory}
use Rattle.ps_term.specs.declared.row.Row.{Row}

-- the place of a row without variables, by its constant
abbrev pub IsBarePlace : ℤ → Place128 → Type 0
IsBarePlace constant Trivial = constant ≤ℤ pos 0
IsBarePlace constant False = pos 1 ≤ℤ constant
IsBarePlace constant (Known _ _) = ⊥
IsBarePlace constant (New _ _) = ⊥

-- why a tightened row has no form: its arity
abbrev pub IsFormEnd : Row → PlaceEnd → Type 0
IsFormEnd row (Arity count) = IsArityOf row count
IsFormEnd row Full = ⊥
IsFormEnd row (Memory _) = Unit {0}
