-- The edges that leave each location, as lists of their numbers.
use Rattle.std.specs.Prelude.{◌≡◌, ℕ, ◌<◌, List, [], length, map, slice_index_or}
use Rattle.std.specs.List.{AllByRecursion}
use Rattle.ps_graph.specs.Follows.{leaving}
use Rattle.ps_graph.specs.declared.edge.Edge.{Edge}

-- what stands where there is no edge
abbrev pub no_edge : Edge
no_edge = record { source = 0; target = 0; command = 0; picks = [] }

-- the edges of these numbers
abbrev pub edges_by : List Edge → List ℕ → List Edge
edges_by edges ns = map (λ (n : ℕ). slice_index_or edges n no_edge) ns

-- they are the numbers of the edges that leave the location, in order
pub record AreLeaving (edges : List Edge) (a : ℕ) (ns : List ℕ) : Type 0 where
  pub same : edges_by edges ns ≡ leaving a edges
  pub within : AllByRecursion (λ (n : ℕ). n < length edges) ns

-- the list of each location has those of the edges that leave it
abbrev pub HoldsAll : List Edge → List (List ℕ) → Type 0
HoldsAll edges lists = (a : ℕ) → AreLeaving edges a (slice_index_or lists a [])
