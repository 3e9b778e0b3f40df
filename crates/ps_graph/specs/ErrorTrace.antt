-- Error traces of a graph, over lists of pairs of a thread and the number of an edge.
use Rattle.std.specs.Prelude.{◌≡◌, ℕ, ℤ, ◌<◌, Bool, true, false, not, ◌&&◌, ◌==◌, List, [], ◌∷◌, length, map, filter, All, slice_get, slice_index_or, Option, Some, None, option_map, unwrap_or, IsTrue, IsSome}
use Rattle.std.specs.Option.{option_and_then}
use Rattle.ps_command.specs.Initial.{IsInitial}
use Rattle.ps_command.specs.Run.{run_by, havocs_in}
use Rattle.ps_command.specs.declared.command.Command.{Command}
use Rattle.ps_command.specs.declared.op.Op.{Op}
use Rattle.ps_command.specs.declared.state.State.{State}
use Rattle.ps_command.specs.Commands.{ops_of}
use Rattle.ps_graph.specs.declared.edge.Edge.{Edge}
use Rattle.ps_graph.specs.declared.graph.Graph.{Graph}

-- the edges that a thread takes, in order
abbrev pub edges_of : ℕ → List (ℕ × ℕ) → List ℕ
edges_of k letters = map (λ (l : ℕ × ℕ). l.1) (filter (λ (l : ℕ × ℕ). l.0 == k) letters)

-- the numbers name edges of which the first leaves this location, and each next one leaves the target of the one before
abbrev pub is_path : List Edge → ℕ → List ℕ → Bool
is_path edges a [] = true
is_path edges a (n ∷ ns) =
    unwrap_or (option_map (λ (e : Edge). e.source == a && is_path edges e.target ns) (slice_get edges n)) false

-- the edge of this number enters the error
abbrev pub enters_error : List Edge → ℕ → Bool
enters_error edges n = unwrap_or (option_map (λ (e : Edge). e.target == 1) (slice_get edges n)) false

-- the last edge enters the error, and no earlier one does
abbrev pub error_at_last : List Edge → List (ℕ × ℕ) → Bool
error_at_last edges [] = false
error_at_last edges (l ∷ []) = enters_error edges l.1
error_at_last edges (l ∷ ls) = not (enters_error edges l.1) && error_at_last edges ls

-- the edges of a thread are a path from the entry of this body
pub record RunsBody (graph : Graph) (letters : List (ℕ × ℕ)) (k body : ℕ) : Type 0 where
  pub exists : body < length graph.entries
  pub path : IsTrue (is_path graph.edges (slice_index_or graph.entries body 0) (edges_of k letters))

-- a thread that occurs begins at the entry of the body that at most one thread runs
abbrev pub BeginsOnce : Graph → List (ℕ × ℕ) → ℕ → Type 0
BeginsOnce graph letters k = (body : ℕ) × (graph.once ≡ Some body) × (0 < length (edges_of k letters)) × RunsBody graph letters k body

-- Each thread's edges are a path from the entry of one body, at most one thread's path begins at the entry of the
-- `once` body, the last edge enters the error, and no earlier one does.
pub record IsErrorTrace (graph : Graph) (letters : List (ℕ × ℕ)) : Type 0 where
  pub paths : (k : ℕ) → (body : ℕ) × RunsBody graph letters k body
  pub once : (j k : ℕ) → BeginsOnce graph letters j → BeginsOnce graph letters k → j ≡ k
  pub error : IsTrue (error_at_last graph.edges letters)

-- the ops of the command of the edge of a number
abbrev pub edge_ops : List Command → List Edge → ℕ → List Op
edge_ops commands edges n = unwrap_or (option_map (λ (e : Edge). ops_of commands e.command) (slice_get edges n)) []

-- the state after the letters run their commands one after another, each with its list of havoc values
abbrev pub after_letters : List Command → List Edge → List (ℕ × ℕ) → List (List ℤ) → State → Option State
after_letters commands edges [] _ s = Some s
after_letters commands edges (l ∷ ls) [] s = None
after_letters commands edges (l ∷ ls) (hs ∷ hss) s =
    option_and_then (after_letters commands edges ls hss) (run_by l.0 (edge_ops commands edges l.1) s hs)

-- each letter has as many havoc values as its command takes
abbrev pub HavocsFit : List Command → List Edge → List (ℕ × ℕ) → List (List ℤ) → Type 0
HavocsFit commands edges [] [] = Unit {0}
HavocsFit commands edges (l ∷ ls) (hs ∷ hss) = (length hs ≡ havocs_in (edge_ops commands edges l.1)) × HavocsFit commands edges ls hss
HavocsFit commands edges _ _ = ⊥

-- From this state, which is initial and has at least the threads that occur, the letters run with these havoc values.
pub record RunsFrom (graph : Graph) (letters : List (ℕ × ℕ)) (s : State) (havocs : List (List ℤ)) : Type 0 where
  pub initial : IsInitial graph.setting s
  pub threads : All (λ (l : ℕ × ℕ). l.0 < length s.locals) letters
  pub fit : HavocsFit graph.setting.commands graph.edges letters havocs
  pub runs : IsSome (after_letters graph.setting.commands graph.edges letters havocs s)

-- Some initial state, with at least the threads that occur, and some havoc values run its commands one after another.
abbrev pub IsFeasible : Graph → List (ℕ × ℕ) → Type 0
IsFeasible graph letters = (s : State) × (havocs : List (List ℤ)) × RunsFrom graph letters s havocs
