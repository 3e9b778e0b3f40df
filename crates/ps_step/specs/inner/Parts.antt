-- Lists of successors that grow.
use Rattle.std.specs.Prelude.{◌≡◌, ◌<◌, ℕ, List, ◌++◌, Contains, Some, slice_get}
use Rattle.std.specs.Cmp.Lexicographic.{slice_cmp}
use Rattle.std.specs.List.Sorted.{IsStrictlySortedBy}
use Rattle.std.specs.declared.cmp.Ordering.TheVariants.{Less}
use Rattle.ps_atom.specs.Atoms.{atom_cmp}
use Rattle.ps_atom.specs.declared.atom.Atom.{Atom}
use Rattle.ps_config.specs.Configurations.{Configuration, threads_at}
use Rattle.ps_config.specs.declared.wide.WideStep.{WideStep}
use Rattle.ps_demand.specs.Candidates.{candidates}
use Rattle.ps_graph.specs.declared.edge.Edge.{Edge}
use Rattle.ps_graph.specs.declared.graph.Graph.{Graph}
use Rattle.ps_step.specs.Steps.{IsSmallest}
use Rattle.ps_step.specs.Successors.{IsSame, IsTried, step_cmp, successor_cmp}
use Rattle.ps_step.specs.Wide.{IsNarrow, IsWideBy}
use Rattle.ps_step.specs.declared.expansion.Successor.{Successor}
use Rattle.ps_triple.specs.declared.entry.Entry.{Entry}

-- the list has exactly the smallest configurations of these steps, each once and in order
pub record AreSmallestOf (graph : Graph) (entries : List Entry) (from : Configuration) (fresh : ℕ) (Step : ℕ → ℕ → Type 0) (list : List Successor) : Type 0 where
  pub ordered : IsStrictlySortedBy (successor_cmp fresh) list
  pub are : (s : Successor) → Contains list s → Step s.edge s.thread × IsSmallest graph entries from s.edge s.thread s.config
  pub every : (number thread : ℕ) (to : Configuration) → Step number thread → IsSmallest graph entries from number thread to →
      (s : Successor) × Contains list s × (s.edge ≡ number) × (s.thread ≡ thread) × IsSame s.config to

-- the pairs are the candidates of the edge of this number
abbrev pub AreCandidatesOf : Graph → List Entry → Configuration → ℕ → List (Atom × Entry) → Type 0
AreCandidatesOf graph entries from number pairs = (edge : Edge) → slice_get graph.edges number ≡ Some edge → pairs ≡ candidates entries from.atoms edge.command

-- this step alone
abbrev pub IsStep : ℕ → ℕ → ℕ → ℕ → Type 0
IsStep number thread n k = (n ≡ number) × (k ≡ thread)

-- the smallest configurations of one step, in the order of their atoms; it passes no limit
pub record AreOfStep (graph : Graph) (entries : List Entry) (from : Configuration) (number thread : ℕ) (list : List Successor) : Type 0 where
  pub ordered : IsStrictlySortedBy (λ (a b : Successor). slice_cmp atom_cmp a.config.atoms b.config.atoms) list
  pub are : (s : Successor) → Contains list s → IsStep number thread s.edge s.thread × IsSmallest graph entries from number thread s.config
  pub every : (to : Configuration) → IsSmallest graph entries from number thread to → (s : Successor) × Contains list s × IsSame s.config to
  pub narrow : IsNarrow graph entries from number thread

-- they were added
abbrev pub AddsStep : Graph → List Entry → Configuration → ℕ → ℕ → List Successor → List Successor → Type 0
AddsStep graph entries from number thread old new = (more : List Successor) × (new ≡ old ++ more) × AreOfStep graph entries from number thread more

-- those of all these steps, none of which passes a limit, were added
pub record AddsSteps (graph : Graph) (entries : List Entry) (from : Configuration) (fresh : ℕ) (Step : ℕ → ℕ → Type 0) (old new : List Successor) : Type 0 where
  pub more : List Successor
  pub added : new ≡ old ++ more
  pub are : AreSmallestOf graph entries from fresh Step more
  pub narrow : (number thread : ℕ) → Step number thread → IsNarrow graph entries from number thread

-- the step by this edge and thread is too wide
abbrev pub IsWideAt : Graph → List Entry → Configuration → ℕ → ℕ → WideStep → Type 0
IsWideAt graph entries from number thread step =
    (step.edge ≡ number) × (step.thread ≡ thread) × IsWideBy graph entries from number thread step.what step.count

-- the first of the steps along this edge that is too wide
pub record IsFirstWideAt (graph : Graph) (entries : List Entry) (from : Configuration) (fresh number : ℕ) (step : WideStep) : Type 0 where
  pub edge : step.edge ≡ number
  pub tried : IsTried from fresh step.thread
  pub wide : IsWideBy graph entries from number step.thread step.what step.count
  pub before : (thread : ℕ) → IsTried from fresh thread → step_cmp fresh number thread number step.thread ≡ Less → IsNarrow graph entries from number thread

-- the steps along this edge by threads that occur and are below this one
abbrev pub IsStepBelow : Configuration → ℕ → ℕ → ℕ → ℕ → Type 0
IsStepBelow from number at n k = (n ≡ number) × Contains (threads_at from) k × (k < at)

-- those along this edge by all threads that are tried
abbrev pub IsStepAlong : Configuration → ℕ → ℕ → ℕ → ℕ → Type 0
IsStepAlong from fresh number n k = (n ≡ number) × IsTried from fresh k

-- those along the edges before this one
abbrev pub IsStepBefore : Configuration → ℕ → ℕ → ℕ → ℕ → Type 0
IsStepBefore from fresh number n k = (n < number) × IsTried from fresh k
