-- What atoms say of states, their order, and renamed atoms.
use Rattle.std.specs.Prelude.{◌≡◌, ℕ, ◌<◌, ℤ, List, Contains, map, slice_index}
use Rattle.std.specs.Cmp.Lexicographic.{slice_cmp}
use Rattle.std.specs.List.{flat_map}
use Rattle.std.specs.Ordering.{nat_cmp, ordering_then}
use Rattle.std.specs.declared.cmp.Ordering.{Ordering}
use Rattle.ps_term.specs.Row.{Holds}
use Rattle.ps_term.specs.declared.row.Row.{Row}
use Rattle.ps_term.specs.declared.var.Var.{Var}
use Rattle.ps_term.specs.declared.var.Var.TheVariants.{Global, Local, Havoc}
use Rattle.ps_atom.specs.declared.atom.Atom.{Atom}

-- the predicate's number decides; of two atoms with one predicate, the first thread that differs, or else the length
abbrev pub atom_cmp : Atom → Atom → Ordering
atom_cmp a b = ordering_then (nat_cmp a.predicate b.predicate) (slice_cmp nat_cmp a.threads b.threads)

-- the variable that stands for one of a predicate where the slots are these threads
abbrev pub at_threads : List ℕ → Var → Var
at_threads threads (Global n) = Global n
at_threads threads (Local slot n) = Local (slice_index threads slot) n
at_threads threads (Havoc n) = Havoc n

-- the row holds of the values, with its slots read as these threads
abbrev pub HoldsAt : (Var → ℤ) → List ℕ → Row → Type 0
HoldsAt values threads row = Holds (λ x. values (at_threads threads x)) row

-- the same atom of other threads
abbrev pub renamed : (ℕ → ℕ) → Atom → Atom
renamed new atom = record { predicate = atom.predicate; threads = map new atom.threads }

-- the threads of the list stay apart
abbrev pub IsInjectiveOn : (ℕ → ℕ) → List ℕ → Type 0
IsInjectiveOn new threads = (s t : ℕ) → Contains threads s → Contains threads t → new s ≡ new t → s ≡ t

-- the variable with its thread renamed
abbrev pub renamed_variable : (ℕ → ℕ) → Var → Var
renamed_variable new (Global n) = Global n
renamed_variable new (Local thread n) = Local (new thread) n
renamed_variable new (Havoc n) = Havoc n

-- the variable, if it is a local, is one of a slot below the arity
abbrev pub IsOfSlots : ℕ → Var → Type 0
IsOfSlots arity (Global _) = Unit {0}
IsOfSlots arity (Local slot _) = slot < arity
IsOfSlots arity (Havoc _) = Unit {0}

-- the threads of atoms
abbrev pub threads_of : List Atom → List ℕ
threads_of atoms = flat_map (λ (q : Atom). q.threads) atoms
