-- The faults of a proof, and their order.
use Rattle.std.specs.Prelude.{◌≡◌, ◌≢◌, ℕ, ◌<◌, List, [], ◌∷◌, Contains, Option, Some, None, slice_get}
use Rattle.std.specs.Cmp.Lexicographic.{slice_cmp}
use Rattle.std.specs.Ordering.{nat_cmp}
use Rattle.std.specs.declared.cmp.Ordering.TheVariants.{Less}
use Rattle.ps_atom.specs.Numbers.{false_predicate}
use Rattle.ps_atom.specs.Range.{IsInRange}
use Rattle.ps_atom.specs.declared.atom.Atom.{Atom}
use Rattle.ps_atom.specs.declared.predicate.Predicate.{Predicate as APredicate}
use Rattle.ps_check.specs.declared.fault.CheckFault.{CheckFault}
use Rattle.ps_check.specs.declared.fault.CheckFault.TheVariants.{Predicate, Entry, ConfigNumber, ConfigThread, Accepting, Uncovered}
use Rattle.ps_check.specs.declared.judgement.Judgement.{Judgement}
use Rattle.ps_check.specs.declared.judgement.Judgement.TheVariants.{Accepted, Refused}
use Rattle.ps_config.specs.Configurations.{Configuration, IsAt, threads_at}
use Rattle.ps_config.specs.Forms.{IsFresh, start_configuration}
use Rattle.ps_file.specs.declared.proof.Proof.{Proof}
use Rattle.ps_graph.specs.declared.graph.Graph.{Graph}
use Rattle.ps_step.specs.Closed.{IsCovered}
use Rattle.ps_step.specs.Steps.{IsAccepting, Stands}
use Rattle.ps_triple.specs.Faults.{EntryHolds, IsFirstEntryFault}
use Rattle.ps_triple.specs.Tests.{HasThreadsOnce, IsAtomOf}
use Rattle.ps_triple.specs.declared.entry.Entry.{Entry as AnEntry}

-- the predicates by number: false, and then those that the proof lists
abbrev pub table_of : Proof → List APredicate
table_of proof = false_predicate ∷ proof.predicates

-- each entry holds, with its predicates from that list
abbrev pub DoEntriesHold : Graph → Proof → Type 0
DoEntriesHold graph proof = (entry : AnEntry) → Contains proof.entries entry → EntryHolds graph.setting (table_of proof) entry

-- its locations are some of the graph other than the error, and its atoms have predicates of the list, as many threads as
-- slots
abbrev pub HasNumbers : Graph → List APredicate → Configuration → Type 0
HasNumbers graph predicates c =
    ((thread location : ℕ) → IsAt c thread location → (location < graph.locations) × (location ≢ 1))
    × ((q : Atom) → Contains c.atoms q → IsAtomOf graph.setting predicates q)

-- no atom has a thread twice
abbrev pub HasThreadsApart : Configuration → Type 0
HasThreadsApart c = (q : Atom) → Contains c.atoms q → HasThreadsOnce q

-- a step is named by what it is from, the start or a listed configuration,
abbrev pub IsSource : List Configuration → Option ℕ → Configuration → Type 0
IsSource configurations None from = from ≡ start_configuration
IsSource configurations (Some n) from = slice_get configurations n ≡ Some from

-- and by its thread, one that occurs or the fresh one
abbrev pub IsMover : Configuration → Option ℕ → ℕ → Type 0
IsMover from (Some t) thread = (t ≡ thread) × Contains (threads_at from) thread
IsMover from None thread = IsFresh from thread

-- some configuration that stands by this edge and thread isn't covered by a listed one
pub record HasUncovered (graph : Graph) (entries : List AnEntry) (configurations : List Configuration) (from : Configuration) (edge : ℕ) (mover : Option ℕ) : Type 0 where
  pub thread : ℕ
  pub to : Configuration
  pub named : IsMover from mover thread
  pub stands : Stands graph entries from edge thread to
  pub uncovered : ¬ IsCovered configurations to

-- the proof has the fault; that of an entry is its first one
abbrev pub HasFault : Graph → Proof → CheckFault → Type 0
HasFault graph proof (Predicate n) =
    (p : APredicate) × (slice_get (table_of proof) n ≡ Some p)
    × ¬ IsInRange graph.setting.globals graph.setting.locals p
HasFault graph proof (Entry n fault) =
    (entry : AnEntry) × (slice_get proof.entries n ≡ Some entry)
    × IsFirstEntryFault graph.setting (table_of proof) entry fault
HasFault graph proof (ConfigNumber n) =
    (c : Configuration) × (slice_get proof.configs n ≡ Some c) × ¬ HasNumbers graph (table_of proof) c
HasFault graph proof (ConfigThread n) =
    (c : Configuration) × (slice_get proof.configs n ≡ Some c) × ¬ HasThreadsApart c
HasFault graph proof (Accepting n) =
    (c : Configuration) × (slice_get proof.configs n ≡ Some c) × IsAccepting graph proof.entries c
HasFault graph proof (Uncovered config edge mover) =
    (from : Configuration) × IsSource proof.configs config from
    × HasUncovered graph proof.entries proof.configs from edge mover

-- threads are ordered by number, and the fresh one comes last
abbrev pub thread_order : Option ℕ → List ℕ
thread_order (Some thread) = 0 ∷ thread ∷ []
thread_order None = 1 ∷ []

-- steps are ordered by edge, then by thread
abbrev pub step_order : ℕ → Option ℕ → List ℕ
step_order edge mover = edge ∷ thread_order mover

-- Faults are ordered by lists of numbers, of which the first that differ decide: predicates; entries; configurations, of
-- each its numbers and then its threads; steps back from the start; and again configurations, of each that it is
-- accepting and then its steps back.
abbrev pub fault_order : CheckFault → List ℕ
fault_order (Predicate n) = 0 ∷ n ∷ []
fault_order (Entry n _) = 1 ∷ n ∷ []
fault_order (ConfigNumber n) = 2 ∷ n ∷ 0 ∷ []
fault_order (ConfigThread n) = 2 ∷ n ∷ 1 ∷ []
fault_order (Uncovered None edge thread) = 3 ∷ step_order edge thread
fault_order (Accepting n) = 4 ∷ n ∷ 0 ∷ []
fault_order (Uncovered (Some n) edge thread) = 4 ∷ n ∷ 1 ∷ step_order edge thread

abbrev pub IsBefore : CheckFault → CheckFault → Type 0
IsBefore one other = slice_cmp nat_cmp (fault_order one) (fault_order other) ≡ Less

-- the proof has the fault, and none before it
abbrev pub IsFirstFault : Graph → Proof → CheckFault → Type 0
IsFirstFault graph proof fault =
    HasFault graph proof fault × ((other : CheckFault) → IsBefore other fault → ¬ HasFault graph proof other)

-- the fact holds of the fault, if there is one
abbrev pub IfRefused : (CheckFault → Type 0) → Judgement → Type 0
IfRefused P Accepted = Unit {0}
IfRefused P (Refused fault) = P fault
