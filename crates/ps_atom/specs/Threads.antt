-- The threads of a row, and the order that they are given slots in.
use Rattle.std.specs.Prelude.{◌≡◌, ◌≢◌, ◌↔◌, ℕ, ◌==◌, ℤ, pos, List, Option, Some, None, AllPairs, Contains, length, if◌then◌else◌}
use Rattle.std.specs.Cmp.Lexicographic.{slice_cmp}
use Rattle.std.specs.List.{filter_map}
use Rattle.std.specs.List.Sorted.{IsStrictlyIncreasing}
use Rattle.std.specs.Ordering.{nat_cmp, int_cmp, ordering_then}
use Rattle.std.specs.declared.cmp.Ordering.{Ordering}
use Rattle.std.specs.declared.cmp.Ordering.TheVariants.{Less}
use Rattle.ps_term.specs.Pairs.{coefficient}
use Rattle.ps_term.specs.declared.var.Var.{Var}
use Rattle.ps_term.specs.declared.var.Var.TheVariants.{Global, Local, Havoc}

-- some local of the thread has a coefficient
abbrev pub Occurs : List (Var × ℤ) → ℕ → Type 0
Occurs pairs thread = (n : ℕ) × (coefficient (Local thread n) pairs ≢ pos 0)

-- the list has exactly the threads that occur
abbrev pub AreOccurring : List (Var × ℤ) → List ℕ → Type 0
AreOccurring pairs threads = (t : ℕ) → Contains threads t ↔ Occurs pairs t

-- so many threads occur: they can be listed in ascending order
abbrev pub HasThreads : List (Var × ℤ) → ℕ → Type 0
HasThreads pairs count =
    (threads : List ℕ) × IsStrictlyIncreasing threads × AreOccurring pairs threads × (length threads ≡ count)

-- the number and the coefficient of a variable that is a local of the thread
abbrev pub own_pair : ℕ → ℤ → Var → Option (ℕ × ℤ)
own_pair thread coefficient (Global _) = None
own_pair thread coefficient (Local t n) = if t == thread then Some (n, coefficient) else None
own_pair thread coefficient (Havoc _) = None

-- the list of pairs (local number, coefficient) of a thread
abbrev pub local_pairs : ℕ → List (Var × ℤ) → List (ℕ × ℤ)
local_pairs thread = filter_map (λ pair. own_pair thread pair.1 pair.0)

-- the local number decides, or else the coefficient
abbrev pub pair_cmp : ℕ × ℤ → ℕ × ℤ → Ordering
pair_cmp p q = ordering_then (nat_cmp p.0 q.0) (int_cmp p.1 q.1)

-- the lists of pairs decide: the first pair that differs, or else the length, the shorter list first
abbrev pub pairs_cmp : List (ℕ × ℤ) → List (ℕ × ℤ) → Ordering
pairs_cmp = slice_cmp pair_cmp

-- the order of threads by their lists of pairs, and of those with one list by thread number
abbrev pub thread_cmp : List (Var × ℤ) → ℕ → ℕ → Ordering
thread_cmp pairs s t = ordering_then (pairs_cmp (local_pairs s pairs) (local_pairs t pairs)) (nat_cmp s t)

-- the threads that occur, each once, in their order
pub record AreSlots (pairs : List (Var × ℤ)) (threads : List ℕ) : Type 0 where
  pub occurring : AreOccurring pairs threads
  pub ordered : AllPairs (λ s t. thread_cmp pairs s t ≡ Less) threads
