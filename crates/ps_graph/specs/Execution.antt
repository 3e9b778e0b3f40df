-- Executions of a program with any number of threads.
use Rattle.std.specs.Prelude.{◌≡◌, ℕ, ℤ, Bool, true, false, not, ◌&&◌, List, [], ◌∷◌, length, replicate, Option, Some, option_map, unwrap_or, IsTrue, IsFalse}
use Rattle.std.specs.List.{list_any}
use Rattle.ps_command.specs.declared.state.State.{State}
use Rattle.ps_graph.specs.Initial.{is_initial}
use Rattle.ps_graph.specs.Step.{Thread, Runs, Failed, step}
use Rattle.ps_graph.specs.Threads.{Seat, World, moved, all_moved}
use Rattle.ps_tree.specs.declared.program.Program.{Program}
use Rattle.ps_tree.specs.declared.stmt.Stmt.{Stmt}

-- the threads of a state, each with its locals and a rest, in order
abbrev pub threads_with : List (List Stmt) → List (List ℤ) → List (Seat Thread)
threads_with (rest ∷ rests) (locals ∷ all) = record { locals = locals; at = Runs rest } ∷ threads_with rests all
threads_with _ _ = []

-- the world in which each thread of a state has a rest to run
abbrev pub started : List (List Stmt) → State → World Thread
started rests s = record { globals = s.globals; seats = threads_with rests s.locals }

-- what the threads of a state have to run at the start of an execution: each the body
abbrev pub bodies_of : Program → State → List (List Stmt)
bodies_of p s = replicate (length s.locals) p.body

-- the world after an execution from a state, by a list of pairs of a thread and its choices, if it exists
abbrev pub executed : Program → State → List (ℕ × List ℤ) → Option (World Thread)
executed p s steps = all_moved step steps (started (bodies_of p s) s)

-- the thread is Failed
abbrev pub is_failed : Seat Thread → Bool
is_failed t = elim t.at [ Runs _ ↦ false | Failed ↦ true ]

-- some thread is Failed
abbrev pub at_error : World Thread → Bool
at_error w = list_any is_failed w.seats

-- No execution with any number of threads fails an assertion: from no initial state, of however many threads, do any
-- steps lead to a world in which a thread is Failed.
abbrev pub NeverFails : Program → Type 0
NeverFails p = (s : State) (steps : List (ℕ × List ℤ)) (w : World Thread) →
    IsTrue (is_initial p s) → executed p s steps ≡ Some w → IsFalse (at_error w)

-- the steps exist, after the last one a thread is Failed, and at no point before is one
abbrev pub fails_at_last : List (ℕ × List ℤ) → World Thread → Bool
fails_at_last [] w = at_error w
fails_at_last (m ∷ ms) w = not (at_error w) && unwrap_or (option_map (fails_at_last ms) (moved step m w)) false

-- The execution from this initial state with these threads and choices exists, a thread becomes Failed at its last
-- step, and none at an earlier one.
abbrev pub reaches : Program → State → List (ℕ × List ℤ) → Bool
reaches p s steps = is_initial p s && fails_at_last steps (started (bodies_of p s) s)
