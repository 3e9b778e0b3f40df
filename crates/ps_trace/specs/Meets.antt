-- When values that a trace starts from, and values of its havocs, meet its rows.
use Rattle.std.specs.Prelude.{◌↔◌, ℕ, ◌<◌, ℤ, List, [], ◌∷◌, ◌++◌, length, All, IsTrue, IsSome}
use Rattle.std.specs.List.{list_all}
use Rattle.ps_command.specs.Fitting.{IsSized}
use Rattle.ps_command.specs.Run.{holds}
use Rattle.ps_command.specs.Symbolic.{with_havocs}
use Rattle.ps_command.specs.Values.{value_at, value_in, values_of}
use Rattle.ps_command.specs.declared.setting.Setting.{Setting}
use Rattle.ps_command.specs.declared.state.State.{State}
use Rattle.ps_graph.specs.ErrorTrace.{HavocsFit, after_letters}
use Rattle.ps_graph.specs.declared.graph.Graph.{Graph}
use Rattle.ps_term.specs.declared.var.Var.{Var}
use Rattle.ps_trace.specs.Rows.{rows_of, threads_in_trace}

-- the havoc values of letters, one list after another
abbrev pub in_a_row : List (List ℤ) → List ℤ
in_a_row [] = []
in_a_row (hs ∷ hss) = hs ++ in_a_row hss

-- the values of a state, and those of the havocs, numbered through the trace
abbrev pub trace_values : State → List (List ℤ) → Var → ℤ
trace_values s havocs = with_havocs (value_in s) (in_a_row havocs)

-- the rows that hold once do in this state, and those that hold for each thread do for these
pub record StartsWith (setting : Setting) (threads : List ℕ) (s : State) : Type 0 where
  pub once : IsTrue (list_all (holds (value_at (values_of 0 s))) setting.init_once)
  pub each : IsTrue (list_all (λ (k : ℕ). list_all (holds (value_at (values_of k s))) setting.init_each) threads)

-- Values of a state that has the threads, and of as many havocs as the letters take, meet the rows exactly where the
-- initial rows hold for the threads that occur and the letters run.
abbrev pub RowsSayRuns : Graph → List (ℕ × ℕ) → Type 0
RowsSayRuns graph letters = (s : State) (havocs : List (List ℤ)) → IsSized graph.setting s →
    All (λ (l : ℕ × ℕ). l.0 < length s.locals) letters → HavocsFit graph.setting.commands graph.edges letters havocs →
    IsTrue (list_all (holds (trace_values s havocs)) (rows_of graph letters))
    ↔ (StartsWith graph.setting (threads_in_trace letters) s × IsSome (after_letters graph.setting.commands graph.edges letters havocs s))
