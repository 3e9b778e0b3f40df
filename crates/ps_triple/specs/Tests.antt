-- What is asked of an entry, apart from its multipliers.
use Rattle.std.specs.Prelude.{◌≡◌, ◌≢◌, ℕ, ◌<◌, List, length, All, AllPairs, Contains, ◌⊎◌}
use Rattle.ps_command.specs.declared.setting.Setting.{Setting}
use Rattle.ps_atom.specs.Range.{IsInRange}
use Rattle.ps_atom.specs.declared.atom.Atom.{Atom}
use Rattle.ps_atom.specs.declared.predicate.Predicate.{Predicate}
use Rattle.ps_triple.specs.Rows.{predicate_of}
use Rattle.ps_triple.specs.declared.entry.Entry.{Entry}
use Rattle.ps_triple.specs.declared.entry.Entry.TheVariants.{Triple as OfTriple, Initial as OfInitial}
use Rattle.ps_triple.specs.declared.triple.Triple.{Triple}

-- the predicate is there, and in range for the setting
abbrev pub IsThere : Setting → List Predicate → ℕ → Type 0
IsThere setting predicates n =
    (n < length predicates) × IsInRange setting.globals setting.locals (predicate_of predicates n)

-- the atom's predicate is there and in range, and has as many slots as the atom has threads
abbrev pub IsAtomOf : Setting → List Predicate → Atom → Type 0
IsAtomOf setting predicates q =
    IsThere setting predicates q.predicate × (length q.threads ≡ (predicate_of predicates q.predicate).arity)

-- its numbers name things, its predicates are in range, and its atoms have as many threads as slots
abbrev pub NamesThings : Setting → List Predicate → Entry → Type 0
NamesThings setting predicates (OfTriple t) =
    (t.command < length setting.commands) × All (IsAtomOf setting predicates) t.pre × IsAtomOf setting predicates t.post
NamesThings setting predicates (OfInitial i) = IsThere setting predicates i.predicate

-- no thread stands twice in the atom
abbrev pub HasThreadsOnce : Atom → Type 0
HasThreadsOnce q = AllPairs (λ (s t : ℕ). s ≢ t) q.threads

-- no atom has a thread twice
abbrev pub HasDistinctThreads : Entry → Type 0
HasDistinctThreads (OfTriple t) = All HasThreadsOnce t.pre × HasThreadsOnce t.post
HasDistinctThreads (OfInitial i) = Unit {0}

-- each thread of the atom is 0 or one of the threads after the command
abbrev pub IsTiedTo : List ℕ → Atom → Type 0
IsTiedTo after q = All (λ (n : ℕ). (n ≡ 0) ⊎ Contains after n) q.threads

-- each thread before the command is 0 or one of those after it
abbrev pub IsTied : Triple → Type 0
IsTied t = All (IsTiedTo t.post.threads) t.pre

-- no triple has a free thread
abbrev pub HasNoFreeThread : Entry → Type 0
HasNoFreeThread (OfTriple t) = IsTied t
HasNoFreeThread (OfInitial i) = Unit {0}
