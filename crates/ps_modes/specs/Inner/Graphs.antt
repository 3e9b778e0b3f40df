-- What is known of a graph that a text says, and of the line that refuses a text.
use Rattle.std.specs.Prelude.{◌≡◌, ℕ, ◌<◌, ◌^◌, List, length}
use Rattle.ps_graph.specs.Errors.{IsGraphOf}
use Rattle.ps_graph.specs.declared.graph.Graph.{Graph}
use Rattle.ps_modes.specs.Programs.{SaysProgram}
use Rattle.ps_modes.specs.declared.graphs.GraphEnd.{GraphEnd}
use Rattle.ps_modes.specs.declared.graphs.GraphEnd.TheVariants.{Refused, Memory}
use Rattle.ps_tree.specs.declared.program.Program.{Program}

-- the graph is one of the program that the text says, with few edges
pub record IsGraphSaid (text : List ℕ) (graph : Graph) : Type 0 where
  pub program : Program
  pub says : SaysProgram text program graph
  pub is : IsGraphOf program graph
  pub few : length graph.edges < 2 ^ 32

-- the fact holds of the line, if there is one
abbrev pub IfLine : (List ℕ → Type 0) → GraphEnd → Type 0
IfLine P (Refused text) = P text.items
IfLine P (Memory end) = Unit {0}

-- it has this line
abbrev pub IsRefusal : GraphEnd → List ℕ → Type 0
IsRefusal (Refused text) line = text.items ≡ line
IsRefusal (Memory end) line = ⊥
