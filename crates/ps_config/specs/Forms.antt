-- The form of configurations that a search holds: ordered lists within limits.
use Rattle.std.specs.Prelude.{◌≡◌, ◌↔◌, ℕ, ◌<◌, ◌≤◌, List, [], ◌∷◌, map, length, Contains}
use Rattle.std.specs.Cmp.Lexicographic.{slice_cmp}
use Rattle.std.specs.List.Sorted.{IsStrictlyIncreasing, IsStrictlySortedBy}
use Rattle.std.specs.Ordering.{nat_cmp, ordering_then}
use Rattle.std.specs.declared.cmp.Ordering.{Ordering}
use Rattle.ps_atom.specs.Atoms.{atom_cmp}
use Rattle.ps_config.specs.Configurations.{Configuration, threads_at}
use Rattle.ps_config.specs.declared.config.TheConstants.{MOST_ATOMS, MOST_THREADS}

-- the threads that occur, each once, in ascending order
pub record AreThreads (c : Configuration) (threads : List ℕ) : Type 0 where
  pub ascend : IsStrictlyIncreasing threads
  pub occurring : (t : ℕ) → Contains threads t ↔ Contains (threads_at c) t

-- so many threads occur
abbrev pub HasThreadCount : Configuration → ℕ → Type 0
HasThreadCount c count = (threads : List ℕ) × AreThreads c threads × (length threads ≡ count)

-- located threads ascend, each with one location; atoms ascend, each once; there are few of both
pub record IsConfig (c : Configuration) : Type 0 where
  pub located : IsStrictlyIncreasing (map (λ (p : ℕ × ℕ). p.0) c.at)
  pub ordered : IsStrictlySortedBy atom_cmp c.atoms
  pub few_threads : (count : ℕ) × HasThreadCount c count × (count ≤ MOST_THREADS)
  pub few_atoms : length c.atoms ≤ MOST_ATOMS

-- thread 0 at location 1, and the atom false
abbrev pub start_configuration : Configuration
start_configuration = record { at = (0, 1) ∷ []; atoms = record { predicate = 0; threads = [] } ∷ [] }

-- the least number that is no thread's
pub record IsFresh (c : Configuration) (thread : ℕ) : Type 0 where
  pub absent : ¬ Contains (threads_at c) thread
  pub least : (t : ℕ) → t < thread → Contains (threads_at c) t

-- the thread decides, or else the location
abbrev pub place_cmp : ℕ × ℕ → ℕ × ℕ → Ordering
place_cmp p q = ordering_then (nat_cmp p.0 q.0) (nat_cmp p.1 q.1)

-- the lists of located threads decide, or else those of atoms: the first members that differ, or else the length
abbrev pub config_cmp : Configuration → Configuration → Ordering
config_cmp a b = ordering_then (slice_cmp place_cmp a.at b.at) (slice_cmp atom_cmp a.atoms b.atoms)
