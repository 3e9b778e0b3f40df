-- What is known of a proof once a part of it was looked through.
use Rattle.std.specs.Prelude.{◌≡◌, ℕ, ◌<◌, ◌^◌, List, length, Contains, Option, Some, slice_get}
use Rattle.std.specs.Cmp.Lexicographic.{slice_cmp}
use Rattle.std.specs.Ordering.{nat_cmp}
use Rattle.std.specs.declared.cmp.Ordering.TheVariants.{Less}
use Rattle.ps_atom.specs.Range.{IsInRange}
use Rattle.ps_atom.specs.declared.predicate.Predicate.{Predicate}
use Rattle.ps_check.specs.Faults.{HasUncovered, step_order, table_of, thread_order}
use Rattle.ps_check.specs.declared.steps.Step.{Step}
use Rattle.ps_config.specs.Configurations.{Configuration}
use Rattle.ps_config.specs.Forms.{start_configuration}
use Rattle.ps_file.specs.declared.proof.Proof.{Proof}
use Rattle.ps_graph.specs.declared.graph.Graph.{Graph}
use Rattle.ps_step.specs.Closed.{IsCovered, IsNamed}
use Rattle.ps_step.specs.Steps.{IsAccepting, Stands}
use Rattle.ps_step.specs.Successors.{IsTried}
use Rattle.ps_triple.specs.Faults.{EntryHolds}
use Rattle.ps_triple.specs.Short.{AreShort}
use Rattle.ps_triple.specs.declared.entry.Entry.{Entry}

-- all lists that are numbered, or counted, are short enough for 32 bits
pub record AreCounted (graph : Graph) (proof : Proof) : Type 0 where
  pub edges : length graph.edges < 2 ^ 32
  pub configs : length proof.configs < 2 ^ 32
  pub short : (entry : Entry) → Contains proof.entries entry → AreShort graph.setting entry

-- the listed predicates are in range
abbrev pub AreInRange : Graph → Proof → Type 0
AreInRange graph proof = (p : Predicate) → Contains proof.predicates p → IsInRange graph.setting.globals graph.setting.locals p

-- moreover the entries hold
pub record DoHold (graph : Graph) (proof : Proof) : Type 0 where
  pub in_range : AreInRange graph proof
  pub hold : (entry : Entry) → Contains proof.entries entry → EntryHolds graph.setting (table_of proof) entry

-- moreover the configurations name things
pub record AreNamed (graph : Graph) (proof : Proof) : Type 0 where
  pub held : DoHold graph proof
  pub named : (c : Configuration) → Contains proof.configs c → IsNamed graph (table_of proof) c

-- each configuration that stands by this edge and thread is covered
abbrev pub IsCoveredBy : Graph → List Entry → List Configuration → Configuration → ℕ → ℕ → Type 0
IsCoveredBy graph entries configurations from edge thread = (to : Configuration) →
    Stands graph entries from edge thread to → IsCovered configurations to

-- one isn't
abbrev pub IsUncoveredBy : Graph → List Entry → List Configuration → Configuration → ℕ → ℕ → Type 0
IsUncoveredBy graph entries configurations from edge thread = (to : Configuration) ×
    Stands graph entries from edge thread to × ¬ IsCovered configurations to

-- each that stands by this edge and a thread that is tried is covered
abbrev pub IsCoveredAlong : Graph → List Entry → List Configuration → Configuration → ℕ → ℕ → Type 0
IsCoveredAlong graph entries configurations from fresh edge = (thread : ℕ) → IsTried from fresh thread →
    IsCoveredBy graph entries configurations from edge thread

-- each that stands is covered
abbrev pub AreAllCovered : Graph → List Entry → List Configuration → Configuration → Type 0
AreAllCovered graph entries configurations from = (edge thread : ℕ) → IsCoveredBy graph entries configurations from edge thread

-- the step is along this edge, and the first uncovered one there
pub record IsFirstAlong (graph : Graph) (entries : List Entry) (configurations : List Configuration) (from : Configuration) (edge : ℕ) (step : Step) : Type 0 where
  pub along : step.edge ≡ edge
  pub has : HasUncovered graph entries configurations from edge step.thread
  pub before : (mover : Option ℕ) → slice_cmp nat_cmp (thread_order mover) (thread_order step.thread) ≡ Less →
      ¬ HasUncovered graph entries configurations from edge mover

-- the step is the first uncovered one
pub record IsFirstUncovered (graph : Graph) (entries : List Entry) (configurations : List Configuration) (from : Configuration) (step : Step) : Type 0 where
  pub has : HasUncovered graph entries configurations from step.edge step.thread
  pub before : (edge : ℕ) (mover : Option ℕ) → slice_cmp nat_cmp (step_order edge mover) (step_order step.edge step.thread) ≡ Less →
      ¬ HasUncovered graph entries configurations from edge mover

-- the configuration isn't accepting, and each step back from it is covered
pub record IsClosedAt (graph : Graph) (entries : List Entry) (configurations : List Configuration) (c : Configuration) : Type 0 where
  pub never : ¬ IsAccepting graph entries c
  pub next : AreAllCovered graph entries configurations c

-- moreover each step back from the start is covered
pub record IsStartCovered (graph : Graph) (proof : Proof) : Type 0 where
  pub named : AreNamed graph proof
  pub first : AreAllCovered graph proof.entries proof.configs start_configuration

-- the configurations before this number are closed
abbrev pub AreClosedBefore : Graph → Proof → ℕ → Type 0
AreClosedBefore graph proof number = (m : ℕ) (c : Configuration) → m < number → slice_get proof.configs m ≡ Some c →
    IsClosedAt graph proof.entries proof.configs c
