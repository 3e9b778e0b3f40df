-- Where a row stands in a table of predicates.
use Rattle.std.specs.Prelude.{◌≡◌, ◌≢◌, ℕ, ◌<◌, ◌≤◌, pos, ◌≤ℤ◌, List, [], length, Contains, min, ◌^◌, ◌-◌}
use Rattle.ps_term.specs.declared.row.Row.{Row}
use Rattle.ps_atom.specs.declared.predicate.Predicate.{Predicate}
use Rattle.ps_atom.specs.declared.predicate.TheConstants.Predicate.{MOST_SLOTS}
use Rattle.ps_atom.specs.declared.predicates.TheConstants.Predicates.{MOST}
use Rattle.ps_atom.specs.declared.place.Place128.{Place128}
use Rattle.ps_atom.specs.declared.place.Place128.TheVariants.{Trivial, False, Known, New}
use Rattle.ps_atom.specs.declared.place.PlaceEnd.{PlaceEnd}
use Rattle.ps_atom.specs.declared.place.PlaceEnd.TheVariants.{Arity, Full, Memory}
use Rattle.ps_atom.specs.Canonical.{IsCanonicalOf}
use Rattle.ps_atom.specs.Numbers.{IsNumberOf}
use Rattle.ps_atom.specs.Threads.{HasThreads}

-- the row has variables, no more threads occur than there may be slots, and this is its canonical predicate
abbrev pub HasForm : Row → Predicate → List ℕ → Type 0
HasForm row predicate threads = (row.term.pairs ≢ []) × (length threads ≤ MOST_SLOTS) × IsCanonicalOf row predicate threads

-- the row stands at this place: it has no variable and is true or false, or its canonical predicate has a number or
-- doesn't stand in a table that has room for it
abbrev pub IsPlaceOf : List Predicate → Row → Place128 → Type 0
IsPlaceOf list row Trivial = (row.term.pairs ≡ []) × (row.term.constant ≤ℤ pos 0)
IsPlaceOf list row False = (row.term.pairs ≡ []) × (pos 1 ≤ℤ row.term.constant)
IsPlaceOf list row (Known number threads) = (predicate : Predicate) × HasForm row predicate threads × IsNumberOf list predicate number
IsPlaceOf list row (New predicate threads) = HasForm row predicate threads × (¬ Contains list predicate) × (length list < MOST)

-- more threads occur than there may be slots, so many; past the greatest number of 32 bits, count is that one
abbrev pub IsArityOf : Row → ℕ → Type 0
IsArityOf row count = (number : ℕ) × (MOST_SLOTS < number) × HasThreads row.term.pairs number × (count ≡ min number (2 ^ 32 - 1))

-- why a row has no place: too many threads occur, so many; or its canonical predicate doesn't stand in a table
-- without room
abbrev pub IsEndOf : List Predicate → Row → PlaceEnd → Type 0
IsEndOf list row (Arity count) = IsArityOf row count
IsEndOf list row Full = (predicate : Predicate) × (threads : List ℕ) × (HasForm row predicate threads × (¬ Contains list predicate) × (length list ≡ MOST))
IsEndOf list row (Memory _) = Unit {0}
