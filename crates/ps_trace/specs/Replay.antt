-- Replays of a witness on a graph: each thread is at a location, and goes along edges.
use Rattle.std.specs.Prelude.{◌≡◌, ℕ, ℤ, Bool, false, not, ◌&&◌, ◌==◌, List, [], ◌∷◌, map, Option, Some, None, option_map, unwrap_or, slice_get, slice_index_or, IfSome, IsTrue, IsFalse}
use Rattle.std.specs.List.{list_any}
use Rattle.ps_command.specs.Commands.{ops_of}
use Rattle.ps_command.specs.Initial.{IsInitial}
use Rattle.ps_command.specs.RunFits.{RunFits, StartFits}
use Rattle.ps_command.specs.Values.{Values}
use Rattle.ps_command.specs.declared.command.Command.{Command}
use Rattle.ps_command.specs.declared.state.State.{State}
use Rattle.ps_graph.specs.Follows.{along}
use Rattle.ps_graph.specs.Picks.{havocs_of}
use Rattle.ps_graph.specs.Threads.{Seat, World, Stepping, moved}
use Rattle.ps_graph.specs.declared.edge.Edge.{Edge}
use Rattle.ps_graph.specs.declared.graph.Graph.{Graph}
use Rattle.ps_trace.specs.Reaches.{witness_state, steps_of}
use Rattle.ps_trace.specs.declared.witness.Witness.{Witness}

-- the first of the two that is there
abbrev pub or_else : {X : Type 0} → Option X → Option X → Option X
or_else (Some x) o = Some x
or_else None o = o

-- The step of a thread at a location: along the first edge that leaves it, whose picks the choices fit, and whose command runs.
abbrev pub along_first : List Command → List Edge → Stepping ℕ
along_first commands [] a v cs = None
along_first commands (e ∷ es) a v cs = or_else (along commands e a v cs) (along_first commands es a v cs)

-- some thread is at the error
abbrev pub at_error : World ℕ → Bool
at_error w = list_any (λ (u : Seat ℕ). u.at == 1) w.seats

-- the world after one step, by a thread with choices
abbrev pub moved_on : Graph → ℕ × List ℤ → World ℕ → Option (World ℕ)
moved_on graph m w = moved (along_first graph.setting.commands graph.edges) m w

-- the steps exist, after the last one a thread is at the error, and at no point before is one
abbrev pub fails_at_last : Graph → List (ℕ × List ℤ) → World ℕ → Bool
fails_at_last graph [] w = at_error w
fails_at_last graph (m ∷ ms) w = not (at_error w) && unwrap_or (option_map (fails_at_last graph ms) (moved_on graph m w)) false

-- the world in which each thread of a state is at this location
abbrev pub entered : ℕ → State → World ℕ
entered a s = record { globals = s.globals; seats = map (λ (ls : List ℤ). let u : Seat ℕ = record { locals = ls; at = a } in u) s.locals }

-- the world that a witness starts from: each thread is at the entry of the first body
abbrev pub world_of : Graph → Witness → World ℕ
world_of graph w = entered (slice_index_or graph.entries 0 0) (witness_state w)

-- The witness starts from an initial state, its steps exist, a thread comes to the error at its last step, and none at an
-- earlier one.
pub record Replays (graph : Graph) (w : Witness) : Type 0 where
  pub initial : IsInitial graph.setting (witness_state w)
  pub fails : IsTrue (fails_at_last graph (steps_of w) (world_of graph w))

-- a step along the edge, if the choices fit its picks, runs within 128 bits
abbrev pub EdgeFits : List Command → Edge → Values → List ℤ → Type 0
EdgeFits commands e v cs = (hs : List ℤ) → havocs_of e.picks cs ≡ Some hs → RunFits (ops_of commands e.command) v hs

-- each edge that is tried, up to the first that the thread goes along, runs within 128 bits
abbrev pub TriesFit : List Command → List Edge → ℕ → Values → List ℤ → Type 0
TriesFit commands [] a v cs = Unit {0}
TriesFit commands (e ∷ es) a v cs =
    (e.source ≡ a → EdgeFits commands e v cs) × (along commands e a v cs ≡ None → TriesFit commands es a v cs)

-- the same of the thread that moves, if it is there
abbrev pub MoveFits : Graph → ℕ × List ℤ → World ℕ → Type 0
MoveFits graph m w =
    IfSome (slice_get w.seats m.0) (λ (u : Seat ℕ).
    TriesFit graph.setting.commands graph.edges u.at (record { globals = w.globals; locals = u.locals }) m.1)

-- step by step, until a thread is at the error, or a step doesn't exist
abbrev pub StepsFit : Graph → List (ℕ × List ℤ) → World ℕ → Type 0
StepsFit graph [] w = Unit {0}
StepsFit graph (m ∷ ms) w =
    IsFalse (at_error w) → MoveFits graph m w × IfSome (moved_on graph m w) (StepsFit graph ms)

-- every value that comes before the answer is known is within 128 bits: those of the initial rows, and those of the steps
pub record ReplayFits (graph : Graph) (w : Witness) : Type 0 where
  pub start : StartFits graph.setting (witness_state w)
  pub steps : IsInitial graph.setting (witness_state w) → StepsFit graph (steps_of w) (world_of graph w)
