-- Closed coverings, and which proofs are accepted.
use Rattle.std.specs.Prelude.{◌≢◌, ℕ, ◌<◌, List, ◌∷◌, Contains}
use Rattle.ps_atom.specs.Numbers.{false_predicate}
use Rattle.ps_atom.specs.Range.{IsInRange}
use Rattle.ps_atom.specs.declared.atom.Atom.{Atom}
use Rattle.ps_atom.specs.declared.predicate.Predicate.{Predicate}
use Rattle.ps_config.specs.Configurations.{Configuration, Covers, IsAt}
use Rattle.ps_config.specs.Forms.{start_configuration}
use Rattle.ps_graph.specs.declared.graph.Graph.{Graph}
use Rattle.ps_step.specs.Steps.{IsAccepting, Stands}
use Rattle.ps_triple.specs.Faults.{EntryHolds}
use Rattle.ps_triple.specs.Tests.{HasThreadsOnce, IsAtomOf}
use Rattle.ps_triple.specs.declared.entry.Entry.{Entry}

-- one of the configurations covers it
abbrev pub IsCovered : List Configuration → Configuration → Type 0
IsCovered configurations to = (c : Configuration) × Contains configurations c × Covers c to

-- every configuration that is a step back from the start or from a listed one is covered by a listed one, and none of
-- them is accepting
pub record IsClosed (graph : Graph) (entries : List Entry) (configurations : List Configuration) : Type 0 where
  pub first : (number thread : ℕ) (to : Configuration) → Stands graph entries start_configuration number thread to →
      IsCovered configurations to
  pub next : (from : Configuration) → Contains configurations from → (number thread : ℕ) (to : Configuration) →
      Stands graph entries from number thread to → IsCovered configurations to
  pub never : (c : Configuration) → Contains configurations c → ¬ IsAccepting graph entries c

-- its locations are some of the graph other than the error, and its atoms have predicates of the list, as many threads as
-- slots, and no thread twice
pub record IsNamed (graph : Graph) (predicates : List Predicate) (c : Configuration) : Type 0 where
  pub locations : (thread location : ℕ) → IsAt c thread location → (location < graph.locations) × (location ≢ 1)
  pub atoms : (q : Atom) → Contains c.atoms q → IsAtomOf graph.setting predicates q
  pub apart : (q : Atom) → Contains c.atoms q → HasThreadsOnce q

-- Of a proof that lists these predicates after false, these entries and these configurations: the predicates are in range,
-- the entries hold, the configurations name things, and they are a closed covering under the entries.
pub record IsAccepted (graph : Graph) (predicates : List Predicate) (entries : List Entry) (configurations : List Configuration) : Type 0 where
  pub in_range : (p : Predicate) → Contains predicates p → IsInRange graph.setting.globals graph.setting.locals p
  pub hold : (entry : Entry) → Contains entries entry → EntryHolds graph.setting (false_predicate ∷ predicates) entry
  pub named : (c : Configuration) → Contains configurations c → IsNamed graph (false_predicate ∷ predicates) c
  pub closed : IsClosed graph entries configurations
