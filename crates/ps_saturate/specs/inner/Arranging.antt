-- Lists of distinct threads.
use Rattle.std.specs.Prelude.{◌≡◌, ◌⊎◌, ◌↔◌, ℕ, zero, suc, ◌+◌, ◌<◌, ◌==◌, Bool, not, List, [], ◌∷◌, map, filter, Contains}
use Rattle.std.specs.List.{flat_map, list_any}
use Rattle.ps_atom.specs.declared.atom.Atom.{Atom}
use Rattle.ps_saturate.specs.Patterns.{threads_from}
use Rattle.ps_saturate.specs.declared.pattern.Pattern.{Pattern}
use Rattle.ps_saturate.specs.declared.pattern.Pattern.TheVariants.{None, Mover, Other}

-- the list lacks the thread
abbrev pub lacks : ℕ → List ℕ → Bool
lacks thread list = not (list_any (λ t. t == thread) list)

-- the thread before each of the lists that lack it
abbrev pub led_by : ℕ → List (List ℕ) → List (List ℕ)
led_by thread lists = map (λ list. thread ∷ list) (filter (lacks thread) lists)

-- each thread from one on, so many, before each of the lists that lack it
abbrev pub led_by_each : ℕ → ℕ → List (List ℕ) → List (List ℕ)
led_by_each first count lists = flat_map (λ thread. led_by thread lists) (threads_from first count)

-- the lists of distinct threads from 0 on, below a number, of a length
abbrev pub arrangements : ℕ → ℕ → List (List ℕ)
arrangements threads zero = [] ∷ []
arrangements threads (suc slots) = led_by_each 0 threads (arrangements threads slots)

-- the atom of a predicate and threads
abbrev pub atom_with : ℕ → List ℕ → Atom
atom_with predicate threads = record { predicate = predicate; threads = threads }

-- how many threads there are: thread 0 and those of a post with so many slots
abbrev pub thread_count : Pattern → ℕ → ℕ
thread_count None slots = 1
thread_count (Mover _) slots = slots
thread_count Other slots = slots + 1

-- thread 0 and those of the list are the threads below the number
abbrev pub AreThreadsOf : List ℕ → ℕ → Type 0
AreThreadsOf after threads = (n : ℕ) → ((n ≡ 0) ⊎ Contains after n) ↔ (n < threads)
