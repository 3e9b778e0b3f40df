-- Which entries hold, and the first fault of one that doesn't.
use Rattle.std.specs.Prelude.{◌≡◌, ◌≢◌, List, length}
use Rattle.ps_farkas.specs.Refutes.{Refutes}
use Rattle.ps_command.specs.declared.setting.Setting.{Setting}
use Rattle.ps_atom.specs.declared.predicate.Predicate.{Predicate}
use Rattle.ps_triple.specs.Fits.{EntryFits, entry_rows, lambda_of}
use Rattle.ps_triple.specs.Tests.{HasDistinctThreads, HasNoFreeThread, NamesThings}
use Rattle.ps_triple.specs.declared.entry.Entry.{Entry}
use Rattle.ps_triple.specs.declared.entry_end.EntryFault.{EntryFault}
use Rattle.ps_triple.specs.declared.entry_end.EntryFault.TheVariants.{BadNumber, ThreadTwice, FreeThread, Length, Past128, Sum}

-- the multipliers of the entry refute its rows, with no value past 128 bits
pub record EntryHolds (setting : Setting) (predicates : List Predicate) (entry : Entry) : Type 0 where
  pub names : NamesThings setting predicates entry
  pub distinct : HasDistinctThreads entry
  pub tied : HasNoFreeThread entry
  pub fits : EntryFits setting predicates entry
  pub refutes : Refutes (entry_rows setting predicates entry) (lambda_of entry)

-- the entry has the fault; `Length` has the numbers of its multipliers and of its rows
abbrev pub HasFault : Setting → List Predicate → Entry → EntryFault → Type 0
HasFault setting predicates entry BadNumber = ¬ NamesThings setting predicates entry
HasFault setting predicates entry ThreadTwice = ¬ HasDistinctThreads entry
HasFault setting predicates entry FreeThread = ¬ HasNoFreeThread entry
HasFault setting predicates entry (Length found rows) =
    (found ≡ length (lambda_of entry)) × (rows ≡ length (entry_rows setting predicates entry)) × (found ≢ rows)
HasFault setting predicates entry Past128 = ¬ EntryFits setting predicates entry
HasFault setting predicates entry Sum = ¬ Refutes (entry_rows setting predicates entry) (lambda_of entry)

-- it has none of the faults that come before this one in the order of the list
abbrev pub HasNoneBefore : Setting → List Predicate → Entry → EntryFault → Type 0
HasNoneBefore setting predicates entry BadNumber = Unit {0}
HasNoneBefore setting predicates entry ThreadTwice = NamesThings setting predicates entry
HasNoneBefore setting predicates entry FreeThread = NamesThings setting predicates entry × HasDistinctThreads entry
HasNoneBefore setting predicates entry (Length found rows) =
    NamesThings setting predicates entry × HasDistinctThreads entry × HasNoFreeThread entry
HasNoneBefore setting predicates entry Past128 =
    NamesThings setting predicates entry × HasDistinctThreads entry × HasNoFreeThread entry
    × (length (lambda_of entry) ≡ length (entry_rows setting predicates entry))
HasNoneBefore setting predicates entry Sum =
    NamesThings setting predicates entry × HasDistinctThreads entry × HasNoFreeThread entry
    × (length (lambda_of entry) ≡ length (entry_rows setting predicates entry)) × EntryFits setting predicates entry

-- the fault is the first one of the entry
abbrev pub IsFirstEntryFault : Setting → List Predicate → Entry → EntryFault → Type 0
IsFirstEntryFault setting predicates entry fault =
    HasFault setting predicates entry fault × HasNoneBefore setting predicates entry fault
