-- Steps back from configurations of any number of threads and atoms, and which configurations are accepting.
use Rattle.std.specs.Prelude.{◌≡◌, ◌≢◌, ℕ, ◌⊎◌, ◌↔◌, List, Contains, Some, slice_get}
use Rattle.ps_atom.specs.declared.atom.Atom.{Atom}
use Rattle.ps_basis.specs.Space.{IsPart}
use Rattle.ps_config.specs.Configurations.{Configuration, IsAt}
use Rattle.ps_config.specs.Forms.{start_configuration}
use Rattle.ps_graph.specs.Facts.{owner_of}
use Rattle.ps_graph.specs.declared.edge.Edge.{Edge}
use Rattle.ps_graph.specs.declared.graph.Graph.{Graph}
use Rattle.ps_triple.specs.Entries.{GivesAtom, HasInitial}
use Rattle.ps_triple.specs.declared.entry.Entry.{Entry}

-- the location belongs to the body that at most one thread runs
abbrev pub IsOfOnce : Graph → ℕ → Type 0
IsOfOnce graph location = (body : ℕ) × (graph.once ≡ Some body) × (owner_of graph.owner location ≡ Some body)

-- at most one thread is at a location of that body
abbrev pub HasOneInOnce : Graph → Configuration → Type 0
HasOneInOnce graph c = (s t l m : ℕ) → IsAt c s l → IsAt c t m → IsOfOnce graph l → IsOfOnce graph m → s ≡ t

-- from the start, thread 0 goes back along an edge that enters the error; from elsewhere, any thread along any other
abbrev pub IsDue : Configuration → Edge → ℕ → Type 0
IsDue from edge thread =
    ((from ≡ start_configuration) × (edge.target ≡ 1) × (thread ≡ 0)) ⊎ ((from ≢ start_configuration) × (edge.target ≢ 1))

-- the thread has no location
abbrev pub IsNowhere : Configuration → ℕ → Type 0
IsNowhere c thread = (location : ℕ) → ¬ IsAt c thread location

-- the thread is at this location, and the others where they are
abbrev pub IsMovedTo : Configuration → ℕ → ℕ → Configuration → Type 0
IsMovedTo from thread source to = (t l : ℕ) →
    IsAt to t l ↔ (((t ≡ thread) × (l ≡ source)) ⊎ ((t ≢ thread) × IsAt from t l))

-- the thread goes from the target of the edge, or from nowhere, back to its source, and the others stay
pub record GoesBack (graph : Graph) (from : Configuration) (edge : Edge) (thread : ℕ) (to : Configuration) : Type 0 where
  pub due : IsDue from edge thread
  pub was : IsAt from thread edge.target ⊎ IsNowhere from thread
  pub is : IsMovedTo from thread edge.source to
  pub once : HasOneInOnce graph to

-- of each renamed triple that has an atom of the first configuration after the command of the thread, one of the atoms
-- before it is an atom of the second
abbrev pub MeetsDemands : List Entry → Configuration → ℕ → ℕ → Configuration → Type 0
MeetsDemands entries from thread command to = (q : Atom) (a : List Atom) → Contains from.atoms q →
    GivesAtom entries thread command a q → (p : Atom) × Contains a p × Contains to.atoms p

-- the second configuration is a step back from the first, along this edge by this thread
pub record StandsBy (graph : Graph) (entries : List Entry) (from : Configuration) (edge : Edge) (thread : ℕ) (to : Configuration) : Type 0 where
  pub goes : GoesBack graph from edge thread to
  pub meets : MeetsDemands entries from thread edge.command to

-- the same along the edge of this number
pub record Stands (graph : Graph) (entries : List Entry) (from : Configuration) (number thread : ℕ) (to : Configuration) : Type 0 where
  pub edge : Edge
  pub is_edge : slice_get graph.edges number ≡ Some edge
  pub stands : StandsBy graph entries from edge thread to

-- it stands, and no configuration with its locations and fewer of its atoms does
pub record IsSmallest (graph : Graph) (entries : List Entry) (from : Configuration) (number thread : ℕ) (to : Configuration) : Type 0 where
  pub stands : Stands graph entries from number thread to
  pub least : (atoms : List Atom) → IsPart atoms to.atoms →
      Stands graph entries from number thread (record { at = to.at; atoms = atoms }) → IsPart to.atoms atoms

-- every located thread is at one of these locations
abbrev pub AreEntered : List ℕ → List (ℕ × ℕ) → Type 0
AreEntered locations at = (thread location : ℕ) → Contains at (thread, location) → Contains locations location

-- no atom has an initial entry
abbrev pub AreUninitial : List Entry → List Atom → Type 0
AreUninitial entries atoms = (q : Atom) → Contains atoms q → ¬ HasInitial entries q.predicate

-- every located thread is at the entry of a body, and no atom has an initial entry
pub record IsAccepting (graph : Graph) (entries : List Entry) (c : Configuration) : Type 0 where
  pub entered : AreEntered graph.entries c.at
  pub without : AreUninitial entries c.atoms
