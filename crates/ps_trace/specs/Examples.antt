-- Worked examples: witnesses, and traces.
use Rattle.std.specs.Prelude.{◌≡◌, ℕ, ℤ, pos, negsuc, List, [], ◌∷◌, Some, None}
use Rattle.ps_command.specs.Values.{Values}
use Rattle.ps_command.specs.declared.op.Op.TheVariants.{Havoc as Havocs}
use Rattle.ps_command.specs.declared.symbolic_form.SymbolicForm.{SymbolicForm}
use Rattle.ps_graph.specs.Examples.{of_body, race, x}
use Rattle.ps_graph.specs.Examples.Steps.{guess}
use Rattle.ps_graph.specs.Examples.Traces.{HasParts, IsCounter, picking, race_commands, race_edges}
use Rattle.ps_graph.specs.declared.graph.Graph.{Graph}
use Rattle.ps_trace.specs.Reaches.{Reaches}
use Rattle.ps_term.specs.declared.row.Row.{Row}
use Rattle.ps_term.specs.declared.term.Term.{Term}
use Rattle.ps_term.specs.declared.var.Var.{Var}
use Rattle.ps_term.specs.declared.var.Var.TheVariants.{Global, Local, Havoc}
use Rattle.ps_trace.specs.Replay.{along_first}
use Rattle.ps_trace.specs.Rows.{SoFar, after_letter, letter_rows, nothing_yet, rows_of_each, threads_in_trace}
use Rattle.ps_trace.specs.Traces.{IsErrorTraceOf, IsFeasibleTraceOf}
use Rattle.ps_trace.specs.WitnessOf.{steps_by, value_among, witness_of}
use Rattle.ps_trace.specs.declared.step.Step.{Step}
use Rattle.ps_trace.specs.declared.trace.IndexedTrace.{IndexedTrace}
use Rattle.ps_trace.specs.declared.trace.Letter.{Letter}
use Rattle.ps_trace.specs.declared.witness.Witness.{Witness}

-- a step of a thread with choices
abbrev pub step_of : ℕ → List ℤ → Step
step_of thread choices = record { thread = thread; choices = choices }

-- two threads from 0, with these steps
abbrev pub race_by : List Step → Witness
race_by steps = record { globals = pos 0 ∷ []; locals = (pos 0 ∷ []) ∷ (pos 0 ∷ []) ∷ []; steps = steps }

-- thread 0 reads and writes, thread 1 reads and writes, and thread 0 then fails; not a step earlier, not with the threads
-- of the last two steps changed round, and not from 1
abbrev pub RaceIsReached : Type 0
RaceIsReached =
    let first : Step = step_of 0 [] in
    let second : Step = step_of 1 [] in
    Reaches race (race_by (first ∷ first ∷ second ∷ second ∷ first ∷ []))
    × (Reaches race (race_by (first ∷ first ∷ second ∷ second ∷ [])) → ⊥)
    × (Reaches race (race_by (first ∷ first ∷ second ∷ first ∷ second ∷ [])) → ⊥)
    × (Reaches race (record (race_by (first ∷ first ∷ second ∷ second ∷ first ∷ [])) { globals = pos 1 ∷ [] }) → ⊥)

-- `atomic { havoc x; if (*) { assert x >= 0; } }` fails with the choices -1 and 1, and not with 1 and -1
abbrev pub ChoicesCount : Type 0
ChoicesCount =
    let by : List ℤ → Witness = λ cs. record { globals = pos 0 ∷ []; locals = [] ∷ []; steps = step_of 0 cs ∷ [] } in
    Reaches (of_body [] guess) (by (negsuc 0 ∷ pos 1 ∷ [])) × (Reaches (of_body [] guess) (by (pos 1 ∷ negsuc 0 ∷ [])) → ⊥)

-- a thread that takes an edge
abbrev pub letter : ℕ → ℕ → Letter
letter thread edge = record { thread = thread; edge = edge }

-- the trace of the race's failure
abbrev pub race_failure : IndexedTrace
race_failure = record { letters = letter 0 0 ∷ letter 0 1 ∷ letter 1 0 ∷ letter 1 1 ∷ letter 0 4 ∷ [] }

-- it is a feasible error trace of the race's graph
abbrev pub RaceIsTraced : Type 0
RaceIsTraced = (graph : Graph) → HasParts race_commands race_edges 0 1 None graph →
    IsErrorTraceOf graph race_failure × IsFeasibleTraceOf graph race_failure

-- of the counter's graph, no letters are no error trace, and one that fails isn't feasible
abbrev pub CounterTraces : Type 0
CounterTraces = (graph : Graph) → IsCounter 0 None graph →
    (IsErrorTraceOf graph (record { letters = [] }) → ⊥)
    × (IsFeasibleTraceOf graph (record { letters = letter 0 0 ∷ letter 0 2 ∷ [] }) → ⊥)

-- ---- rows

abbrev pub term : List (Var × ℤ) → ℤ → Term
term pairs constant = record { pairs = pairs; constant = constant }

abbrev pub row : List (Var × ℤ) → ℤ → Row
row pairs constant = record { term = term pairs constant }

-- of a command with the form of `atomic { assume t <= h; t := x + 1; x := h; }`, h being what its one havoc chose
abbrev pub taking : SymbolicForm
taking = record {
  rows = row ((Local 0 0, pos 1) ∷ (Havoc 0, negsuc 0) ∷ []) (pos 0) ∷ [];
  after = (Global 0, term ((Havoc 0, pos 1) ∷ []) (pos 0)) ∷ (Local 0 0, term ((Global 0, pos 1) ∷ []) (pos 1)) ∷ [];
  havocs = 1;
}

-- what variables are worth after thread 2 ran it, and after thread 1 ran it then
abbrev pub one_letter : SoFar
one_letter = record {
  after = (Global 0, term ((Havoc 0, pos 1) ∷ []) (pos 0)) ∷ (Local 2 0, term ((Global 0, pos 1) ∷ []) (pos 1)) ∷ [];
  havocs = 1;
}

abbrev pub two_letters : SoFar
two_letters = record {
  after = (Global 0, term ((Havoc 1, pos 1) ∷ []) (pos 0)) ∷ (Local 1 0, term ((Havoc 0, pos 1) ∷ []) (pos 1)) ∷ (Local 2 0, term ((Global 0, pos 1) ∷ []) (pos 1)) ∷ [];
  havocs = 2;
}

-- Havocs are numbered through the letters, a local is its thread's, and each term is put over what came before: the
-- third letter, of thread 2 again, asks `x + 1 <= h` of the x that the trace starts from.
abbrev pub LettersAsk : Type 0
LettersAsk =
    (letter_rows nothing_yet 2 taking ≡ row ((Local 2 0, pos 1) ∷ (Havoc 0, negsuc 0) ∷ []) (pos 0) ∷ [])
    × (after_letter nothing_yet 2 taking ≡ one_letter)
    × (letter_rows one_letter 1 taking ≡ row ((Local 1 0, pos 1) ∷ (Havoc 1, negsuc 0) ∷ []) (pos 0) ∷ [])
    × (after_letter one_letter 1 taking ≡ two_letters)
    × (letter_rows two_letters 2 taking ≡ row ((Global 0, pos 1) ∷ (Havoc 2, negsuc 0) ∷ []) (pos 1) ∷ [])

-- the threads that occur stand once each, in ascending order, and each has its rows at the start
abbrev pub ThreadsStart : Type 0
ThreadsStart =
    let letters : List (ℕ × ℕ) = (3, 0) ∷ (1, 5) ∷ (3, 2) ∷ [] in
    (threads_in_trace letters ≡ 1 ∷ 3 ∷ [])
    × (rows_of_each (row ((Local 0 0, pos 1) ∷ []) (pos 0) ∷ []) (1 ∷ 3 ∷ [])
    ≡ row ((Local 1 0, pos 1) ∷ []) (pos 0) ∷ row ((Local 3 0, pos 1) ∷ []) (pos 0) ∷ [])

-- ---- replays

-- a thread of the race at these values of `x` and `t`
abbrev pub sees : ℤ → ℤ → Values
sees x t = record { globals = x ∷ []; locals = t ∷ [] }

-- At the assertion a thread goes along the first edge whose assume holds: to the end where `x` is `t + 1`, and to the
-- error along the last edge where it is more. With a choice too much it goes along none, and none leaves the end.
abbrev pub FirstThatRuns : Type 0
FirstThatRuns =
    (along_first race_commands race_edges 4 (sees (pos 1) (pos 0)) [] ≡ Some (sees (pos 1) (pos 0), 2))
    × (along_first race_commands race_edges 4 (sees (pos 2) (pos 0)) [] ≡ Some (sees (pos 2) (pos 0), 1))
    × (along_first race_commands race_edges 4 (sees (pos 1) (pos 0)) (pos 0 ∷ []) ≡ None)
    × (along_first race_commands race_edges 2 (sees (pos 1) (pos 0)) [] ≡ None)

-- ---- witnesses of traces

-- Thread 2 reads and writes, thread 0 reads and writes, and thread 2 then fails. Thread 0 stays the first, and 2 becomes
-- 1; of the two values for its local the first counts, and the local of thread 0 has none.
abbrev pub RaceIsWitnessed : Type 0
RaceIsWitnessed =
    let letters : List (ℕ × ℕ) = (2, 0) ∷ (2, 1) ∷ (0, 0) ∷ (0, 1) ∷ (2, 4) ∷ [] in
    let values : List (Var × ℤ) = (Local 2 0, pos 5) ∷ (Global 0, negsuc 6) ∷ (Local 2 0, pos 9) ∷ [] in
    let steps : List Step = step_of 1 [] ∷ step_of 1 [] ∷ step_of 0 [] ∷ step_of 0 [] ∷ step_of 1 [] ∷ [] in
    (graph : Graph) → HasParts race_commands race_edges 0 1 None graph →
    witness_of graph letters (value_among values)
    ≡ record { globals = negsuc 6 ∷ []; locals = (pos 0 ∷ []) ∷ (pos 5 ∷ []) ∷ []; steps = steps }

-- Of an edge by the choice of a `*` and the value of a havoc, the first letter takes the value of the havoc 0, and the
-- second that of the havoc 1.
abbrev pub HavocsAreNumbered : Type 0
HavocsAreNumbered =
    let values : List (Var × ℤ) = (Havoc 1, pos 8) ∷ (Havoc 0, pos 7) ∷ [] in
    (graph : Graph) → graph.setting.commands ≡ record { ops = Havocs x ∷ [] } ∷ [] → graph.edges ≡ picking →
    steps_by graph (3 ∷ []) (value_among values) 0 ((3, 0) ∷ (3, 0) ∷ [])
    ≡ step_of 0 (pos 1 ∷ pos 7 ∷ []) ∷ step_of 0 (pos 1 ∷ pos 8 ∷ []) ∷ []
