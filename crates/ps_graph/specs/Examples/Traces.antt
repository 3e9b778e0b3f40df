-- Worked examples: error traces, and which of them are feasible.
use Rattle.std.specs.Prelude.{◌≡◌, ℕ, ℤ, pos, negsuc, true, false, List, [], ◌∷◌, Option, Some, None}
use Rattle.ps_command.specs.declared.command.Command.{Command}
use Rattle.ps_command.specs.declared.op.Op.TheVariants.{Assume, Assign}
use Rattle.ps_graph.specs.ErrorTrace.{is_path, edges_of, error_at_last, IsErrorTrace, IsFeasible}
use Rattle.ps_graph.specs.Errors.{AreLettersOf}
use Rattle.ps_graph.specs.Examples.{x, t}
use Rattle.ps_graph.specs.Examples.Connections.{edge, counter_commands, counter_edges}
use Rattle.ps_graph.specs.Examples.Starts.{row_of}
use Rattle.ps_graph.specs.declared.edge.Edge.{Edge}
use Rattle.ps_graph.specs.declared.edge.Pick.TheVariants.{Star as StarPick, Value}
use Rattle.ps_graph.specs.declared.graph.Graph.{Graph}
use Rattle.ps_term.specs.declared.term.Term.{Term}

-- paths over the counter's edges: by thread 1 of letters of two threads, one that begins elsewhere, and no edge
abbrev pub PathsAreJoined : Type 0
PathsAreJoined =
    (is_path counter_edges 0 (edges_of 1 ((1, 0) ∷ (0, 0) ∷ (1, 2) ∷ [])) ≡ true)
    × (is_path counter_edges 0 (edges_of 0 ((0, 2) ∷ [])) ≡ false)
    × (is_path counter_edges 0 (edges_of 0 ((0, 0) ∷ (0, 0) ∷ [])) ≡ false)
    × (is_path counter_edges 0 (edges_of 0 ((0, 7) ∷ [])) ≡ false)

-- the error stands at the last letter, at an earlier one, at two, and at none
abbrev pub ErrorStandsLast : Type 0
ErrorStandsLast =
    (error_at_last counter_edges ((1, 0) ∷ (0, 0) ∷ (1, 2) ∷ []) ≡ true)
    × (error_at_last counter_edges ((1, 0) ∷ (1, 2) ∷ (0, 0) ∷ []) ≡ false)
    × (error_at_last counter_edges ((1, 0) ∷ (0, 0) ∷ (1, 2) ∷ (0, 2) ∷ []) ≡ false)
    × (error_at_last counter_edges ((0, 0) ∷ (0, 1) ∷ []) ≡ false)
    × (error_at_last counter_edges [] ≡ false)

-- the graph has these commands and edges, so many locals, and `x = 0` at the start; its one body has this entry, and any
-- number of threads run it, or at most one
pub record HasParts (its_commands : List Command) (its_edges : List Edge) (entry how_many : ℕ) (at_most_one : Option ℕ) (graph : Graph) : Type 0 where
  pub commands : graph.setting.commands ≡ its_commands
  pub edges : graph.edges ≡ its_edges
  pub entries : graph.entries ≡ entry ∷ []
  pub once : graph.once ≡ at_most_one
  pub globals : graph.setting.globals ≡ 1
  pub locals : graph.setting.locals ≡ how_many
  pub init_once : graph.setting.init_once ≡ row_of (pos 1) x (pos 0) ∷ row_of (negsuc 0) x (pos 0) ∷ []
  pub init_each : graph.setting.init_each ≡ []

-- the counter's graph
abbrev pub IsCounter : ℕ → Option ℕ → Graph → Type 0
IsCounter entry once graph = HasParts counter_commands counter_edges entry 0 once graph

-- Of the counter: a thread that counts and fails is an error trace; one that only fails, that passes or takes no edge at
-- all isn't, and neither is one that goes on.
abbrev pub CounterTraces : Type 0
CounterTraces = (graph : Graph) → IsCounter 0 None graph →
    IsErrorTrace graph ((0, 0) ∷ (0, 2) ∷ [])
    × (IsErrorTrace graph ((0, 2) ∷ []) → ⊥)
    × (IsErrorTrace graph ((0, 0) ∷ (0, 1) ∷ []) → ⊥)
    × (IsErrorTrace graph [] → ⊥)
    × (IsErrorTrace graph ((0, 0) ∷ (0, 2) ∷ (1, 0) ∷ []) → ⊥)

-- where the body's entry is the assertion, a thread begins there and nowhere else
abbrev pub TracesFromEntry : Type 0
TracesFromEntry = (graph : Graph) → IsCounter 3 None graph →
    IsErrorTrace graph ((0, 2) ∷ []) × (IsErrorTrace graph ((0, 0) ∷ (0, 2) ∷ []) → ⊥)

-- two threads run a body, unless it is one that at most one thread runs
abbrev pub OnceBodies : Type 0
OnceBodies =
    ((graph : Graph) → IsCounter 0 None graph → IsErrorTrace graph ((0, 0) ∷ (1, 0) ∷ (0, 2) ∷ []))
    × ((graph : Graph) → IsCounter 0 (Some 0) graph →
    IsErrorTrace graph ((1, 0) ∷ (1, 2) ∷ []) × (IsErrorTrace graph ((0, 0) ∷ (1, 0) ∷ (0, 2) ∷ []) → ⊥))

-- the counter's error trace isn't feasible: it runs from -4 alone and the like, and `x` is 0 at the start
abbrev pub CounterIsInfeasible : Type 0
CounterIsInfeasible = (graph : Graph) → IsCounter 0 None graph → IsFeasible graph ((0, 0) ∷ (0, 2) ∷ []) → ⊥

-- numbers times `x` and `t`, plus a number
abbrev pub both_of : ℤ → ℤ → ℤ → Term
both_of by_x by_t constant = record { pairs = (x, by_x) ∷ (t, by_t) ∷ []; constant = constant }

-- `t := x`, `x := t + 1`, `x == t + 1`, `x < t + 1` and `x > t + 1`
abbrev pub race_commands : List Command
race_commands = record { ops = Assign t (record { pairs = (x, pos 1) ∷ []; constant = pos 0 }) ∷ [] }
    ∷ record { ops = Assign x (record { pairs = (t, pos 1) ∷ []; constant = pos 1 }) ∷ [] }
    ∷ record { ops = Assume (record { term = both_of (pos 1) (negsuc 0) (negsuc 0) }) ∷ Assume (record { term = both_of (negsuc 0) (pos 1) (pos 1) }) ∷ [] }
    ∷ record { ops = Assume (record { term = both_of (pos 1) (negsuc 0) (pos 0) }) ∷ [] }
    ∷ record { ops = Assume (record { term = both_of (negsuc 0) (pos 1) (pos 2) }) ∷ [] } ∷ []

abbrev pub race_edges : List Edge
race_edges = edge 0 3 0 ∷ edge 3 4 1 ∷ edge 4 2 2 ∷ edge 4 1 3 ∷ edge 4 1 4 ∷ []

-- thread 0 reads and writes, thread 1 reads and writes, and thread 0 then fails, since `x` is more: a feasible error trace
abbrev pub RaceIsFeasible : Type 0
RaceIsFeasible =
    let letters : List (ℕ × ℕ) = (0, 0) ∷ (0, 1) ∷ (1, 0) ∷ (1, 1) ∷ (0, 4) ∷ [] in
    (graph : Graph) → HasParts race_commands race_edges 0 1 None graph → IsErrorTrace graph letters × IsFeasible graph letters

-- an edge by the choice of a `*` and a value
abbrev pub picking : List Edge
picking = record { source = 0; target = 2; command = 0; picks = StarPick true ∷ Value ∷ [] } ∷ []

-- a step of thread 1 along it with the choices 1 and 7 is the letter of thread 1 with the havoc value 7; not that of
-- another thread or edge, not with another value, not with a choice that doesn't fit, and not none
abbrev pub LettersOfSteps : Type 0
LettersOfSteps =
    let steps : ℤ → List (ℕ × List ℤ) = λ z. (1, z ∷ pos 7 ∷ []) ∷ [] in
    AreLettersOf picking (steps (pos 1)) ((1, 0) ∷ []) ((pos 7 ∷ []) ∷ [])
    × (AreLettersOf picking (steps (pos 1)) ((0, 0) ∷ []) ((pos 7 ∷ []) ∷ []) → ⊥)
    × (AreLettersOf picking (steps (pos 1)) ((1, 1) ∷ []) ((pos 7 ∷ []) ∷ []) → ⊥)
    × (AreLettersOf picking (steps (pos 1)) ((1, 0) ∷ []) ((pos 6 ∷ []) ∷ []) → ⊥)
    × (AreLettersOf picking (steps (pos 0)) ((1, 0) ∷ []) ((pos 7 ∷ []) ∷ []) → ⊥)
    × (AreLettersOf picking (steps (pos 1)) [] [] → ⊥)
