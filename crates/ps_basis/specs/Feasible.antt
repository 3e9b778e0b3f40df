-- Runs of traces: lists of pairs of a thread and a command.
use Rattle.std.specs.Prelude.{◌≡◌, ℕ, ℤ, ◌<◌, List, [], ◌∷◌, length, All, Option, Some, None}
use Rattle.std.specs.Option.{option_and_then}
use Rattle.ps_command.specs.Commands.{ops_of}
use Rattle.ps_command.specs.Initial.{IsInitial}
use Rattle.ps_command.specs.Run.{run_by, havocs_in}
use Rattle.ps_command.specs.declared.command.Command.{Command}
use Rattle.ps_command.specs.declared.setting.Setting.{Setting}
use Rattle.ps_command.specs.declared.state.State.{State}

-- the state after the threads ran the commands one after another, each with its havoc values, or none where an assume fails
abbrev pub after_trace : List Command → List (ℕ × ℕ) → List (List ℤ) → State → Option State
after_trace commands [] hss s = Some s
after_trace commands (l ∷ trace) [] s = None
after_trace commands (l ∷ trace) (hs ∷ hss) s =
    option_and_then (after_trace commands trace hss) (run_by l.0 (ops_of commands l.1) s hs)

-- each command has as many havoc values as it takes
abbrev pub TraceHavocsFit : List Command → List (ℕ × ℕ) → List (List ℤ) → Type 0
TraceHavocsFit commands [] hss = Unit {0}
TraceHavocsFit commands (l ∷ trace) [] = ⊥
TraceHavocsFit commands (l ∷ trace) (hs ∷ hss) =
    (length hs ≡ havocs_in (ops_of commands l.1)) × TraceHavocsFit commands trace hss

-- from an initial state with at least the threads that occur, and with some havoc values, the trace runs
pub record Runs (setting : Setting) (trace : List (ℕ × ℕ)) : Type 0 where
  pub state : State
  pub initial : IsInitial setting state
  pub threads : All (λ (l : ℕ × ℕ). l.0 < length state.locals) trace
  pub havocs : List (List ℤ)
  pub fit : TraceHavocsFit setting.commands trace havocs
  pub after : State
  pub runs : after_trace setting.commands trace havocs state ≡ Some after
