-- What places say of values.
use Rattle.std.specs.Prelude.{◌≡◌, ◌↔◌, ℤ, List, Some, slice_get}
use Rattle.ps_term.specs.Row.{Holds}
use Rattle.ps_term.specs.declared.row.Row.{Row}
use Rattle.ps_term.specs.declared.var.Var.{Var}
use Rattle.ps_atom.specs.Atoms.{HoldsAt}
use Rattle.ps_atom.specs.declared.predicate.Predicate.{Predicate}
use Rattle.ps_atom.specs.declared.place.Place128.{Place128}
use Rattle.ps_atom.specs.declared.place.Place128.TheVariants.{Trivial, False, Known, New}

-- at the values, the place in a table says what the row says: nothing, a contradiction, or the predicate at the threads
abbrev pub SaysAs : List Predicate → (Var → ℤ) → Row → Place128 → Type 0
SaysAs list values row Trivial = Holds values row
SaysAs list values row False = ¬ Holds values row
SaysAs list values row (Known number threads) = (predicate : Predicate) → slice_get list number ≡ Some predicate → HoldsAt values threads predicate.row ↔ Holds values row
SaysAs list values row (New predicate threads) = HoldsAt values threads predicate.row ↔ Holds values row
