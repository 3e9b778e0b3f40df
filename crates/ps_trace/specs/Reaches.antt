-- Witnesses that lead to a failure of a program.
use Rattle.std.specs.Prelude.{ℕ, ℤ, List, map, IsTrue}
use Rattle.ps_command.specs.declared.state.State.{State}
use Rattle.ps_graph.specs.Execution.{reaches}
use Rattle.ps_tree.specs.declared.program.Program.{Program}
use Rattle.ps_trace.specs.declared.step.Step.{Step}
use Rattle.ps_trace.specs.declared.witness.Witness.{Witness}

-- the state that a witness starts from
abbrev pub witness_state : Witness → State
witness_state w = record { globals = w.globals; locals = w.locals }

-- a step, as a pair of a thread and its choices
abbrev pub step_pair : Step → ℕ × List ℤ
step_pair s = (s.thread, s.choices)

-- the steps of a witness, as such pairs
abbrev pub steps_of : Witness → List (ℕ × List ℤ)
steps_of w = map step_pair w.steps

-- The execution from these values with these threads and choices exists, a thread becomes Failed at its last step, and
-- none at an earlier one.
abbrev pub Reaches : Program → Witness → Type 0
Reaches p w = IsTrue (reaches p (witness_state w) (steps_of w))
