-- The letters of a graph as a trace of pairs of a thread and a command, and configurations that avoid the error.
use Rattle.std.specs.Prelude.{◌≢◌, ℕ, List, map, slice_get, option_map, unwrap_or, Contains}
use Rattle.ps_config.specs.Configurations.{Configuration, IsAt}
use Rattle.ps_graph.specs.declared.edge.Edge.{Edge}

-- the command of the edge of a number
abbrev pub command_of_edge : List Edge → ℕ → ℕ
command_of_edge edges n = unwrap_or (option_map (λ (e : Edge). e.command) (slice_get edges n)) 0

-- each letter, a thread and the number of an edge, as the thread and the edge's command
abbrev pub trace_of : List Edge → List (ℕ × ℕ) → List (ℕ × ℕ)
trace_of edges letters = map (λ (l : ℕ × ℕ). let m : ℕ × ℕ = (l.0, command_of_edge edges l.1) in m) letters

-- none of the configurations has a thread at the error
abbrev pub AvoidError : List Configuration → Type 0
AvoidError configurations = (c : Configuration) → Contains configurations c → (thread location : ℕ) →
    IsAt c thread location → location ≢ 1
