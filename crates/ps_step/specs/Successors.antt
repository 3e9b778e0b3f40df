-- The successors of a configuration, in their order.
use Rattle.std.specs.Prelude.{◌≡◌, ℕ, ◌⊎◌, ◌↔◌, ◌==◌, List, Contains, if◌then◌else◌}
use Rattle.std.specs.Cmp.Lexicographic.{slice_cmp}
use Rattle.std.specs.List.Sorted.{IsStrictlySortedBy}
use Rattle.std.specs.Ordering.{nat_cmp, ordering_then}
use Rattle.std.specs.declared.cmp.Ordering.{Ordering}
use Rattle.ps_atom.specs.Atoms.{atom_cmp}
use Rattle.ps_atom.specs.declared.atom.Atom.{Atom}
use Rattle.ps_config.specs.Configurations.{Configuration, Covers, IsAt, threads_at}
use Rattle.ps_graph.specs.declared.graph.Graph.{Graph}
use Rattle.ps_step.specs.Steps.{IsSmallest, Stands}
use Rattle.ps_step.specs.declared.expansion.Successor.{Successor}
use Rattle.ps_triple.specs.declared.entry.Entry.{Entry}

-- the two have the same threads at the same locations, and the same atoms
pub record IsSame (a b : Configuration) : Type 0 where
  pub at : (thread location : ℕ) → IsAt a thread location ↔ IsAt b thread location
  pub atoms : (q : Atom) → Contains a.atoms q ↔ Contains b.atoms q

-- the threads that are tried: those that occur, and the fresh one
abbrev pub IsTried : Configuration → ℕ → ℕ → Type 0
IsTried from fresh thread = Contains (threads_at from) thread ⊎ (thread ≡ fresh)

-- the fresh thread has its turn last
abbrev pub turn : ℕ → ℕ → ℕ
turn fresh thread = if thread == fresh then 1 else 0

-- the order of steps: by the number of the edge, then by thread
abbrev pub step_cmp : ℕ → ℕ → ℕ → ℕ → ℕ → Ordering
step_cmp fresh d s e t = ordering_then (nat_cmp d e) (ordering_then (nat_cmp (turn fresh s) (turn fresh t)) (nat_cmp s t))

-- the order of successors: by step, then by their atoms
abbrev pub successor_cmp : ℕ → Successor → Successor → Ordering
successor_cmp fresh a b =
    ordering_then (step_cmp fresh a.edge a.thread b.edge b.thread) (slice_cmp atom_cmp a.config.atoms b.config.atoms)

-- the list has exactly the smallest configurations of the steps that are tried, each once and in order
pub record AreSuccessors (graph : Graph) (entries : List Entry) (from : Configuration) (fresh : ℕ) (list : List Successor) : Type 0 where
  pub ordered : IsStrictlySortedBy (successor_cmp fresh) list
  pub are : (s : Successor) → Contains list s →
      IsTried from fresh s.thread × IsSmallest graph entries from s.edge s.thread s.config
  pub every : (number thread : ℕ) (to : Configuration) → IsTried from fresh thread →
      IsSmallest graph entries from number thread to →
      (s : Successor) × Contains list s × (s.edge ≡ number) × (s.thread ≡ thread) × IsSame s.config to

-- each configuration that is a step back, by any thread at all, is covered by a successor
abbrev pub CoverAll : Graph → List Entry → Configuration → List Successor → Type 0
CoverAll graph entries from list = (number thread : ℕ) (to : Configuration) → Stands graph entries from number thread to →
    (s : Successor) × Contains list s × Covers s.config to
