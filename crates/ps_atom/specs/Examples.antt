-- Worked examples: the order of threads and of atoms, and predicates in range.
use Rattle.std.specs.Prelude.{◌≡◌, ℤ, pos, negsuc, List, [], ◌∷◌, ◌+◌}
use Rattle.std.specs.declared.cmp.Ordering.TheVariants.{Less, Greater}
use Rattle.ps_atom.specs.Atoms.{at_threads, atom_cmp, renamed}
use Rattle.ps_atom.specs.Range.{IsInRange}
use Rattle.ps_atom.specs.Threads.{local_pairs, pairs_cmp, thread_cmp}
use Rattle.ps_atom.specs.declared.atom.Atom.{Atom}
use Rattle.ps_atom.specs.declared.predicate.Predicate.{Predicate}
use Rattle.ps_term.specs.declared.var.Var.{Var}
use Rattle.ps_term.specs.declared.var.Var.TheVariants.{Global, Local, Havoc}

-- `-1*l0@3 1*l0@7`
abbrev pub rising : List (Var × ℤ)
rising = (Local 3 0, negsuc 0) ∷ (Local 7 0, pos 1) ∷ []

-- `1*l0@3 -1*l0@7`
abbrev pub falling : List (Var × ℤ)
falling = (Local 3 0, pos 1) ∷ (Local 7 0, negsuc 0) ∷ []

-- two threads with one list of pairs, between a global and a havoc
abbrev pub alike : List (Var × ℤ)
alike = (Global 0, pos 5) ∷ (Local 3 0, pos 1) ∷ (Local 7 0, pos 1) ∷ (Havoc 2, pos 1) ∷ []

-- the thread with the lesser coefficient comes first, whatever its number is; threads with one list stand by number
abbrev pub ThreadsAreOrdered : Type 0
ThreadsAreOrdered =
    (local_pairs 7 rising ≡ (0, pos 1) ∷ []) × (thread_cmp rising 3 7 ≡ Less) × (thread_cmp falling 3 7 ≡ Greater)
    × (thread_cmp alike 3 7 ≡ Less)

-- a list that the other begins with comes first, and the local number goes before the coefficient
abbrev pub PairsAreOrdered : Type 0
PairsAreOrdered =
    (pairs_cmp ((0, pos 9) ∷ []) ((0, pos 9) ∷ (1, negsuc 9) ∷ []) ≡ Less)
    × (pairs_cmp ((1, negsuc 9) ∷ []) ((0, pos 9) ∷ (1, pos 1) ∷ []) ≡ Greater)

-- predicate 1 of the threads 2 and 7
abbrev pub pair : Atom
pair = record { predicate = 1; threads = 2 ∷ 7 ∷ [] }

-- atoms stand by predicate, then by threads, the shorter list first
abbrev pub AtomsAreOrdered : Type 0
AtomsAreOrdered =
    (atom_cmp pair (record { predicate = 2; threads = [] }) ≡ Less) × (atom_cmp pair (record { predicate = 1; threads = 2 ∷ 8 ∷ [] }) ≡ Less)
    × (atom_cmp pair (record { predicate = 1; threads = 2 ∷ [] }) ≡ Greater)

-- slot 1 of the threads 7 and 3 is thread 3; a renamed atom has its threads renamed
abbrev pub SlotsAreThreads : Type 0
SlotsAreThreads =
    (at_threads (7 ∷ 3 ∷ []) (Local 1 4) ≡ Local 3 4) × (renamed (λ t. t + 10) pair ≡ record { predicate = 1; threads = 12 ∷ 17 ∷ [] })

-- `1*g0 5*l1@3`, of arity 4 or 5
abbrev pub wide : Predicate
wide = record { arity = 4; row = record { term = record { pairs = (Global 0, pos 1) ∷ (Local 3 1, pos 5) ∷ []; constant = pos 0 } } }

abbrev pub too_wide : Predicate
too_wide = record wide { arity = 5 }

-- it is in range with arity 4 among one global and two locals; not with arity 5, nor where a global or a local lacks
abbrev pub RangesAre : Type 0
RangesAre = IsInRange 1 2 wide × (¬ IsInRange 1 2 too_wide) × (¬ IsInRange 0 2 wide) × (¬ IsInRange 1 1 wide)
