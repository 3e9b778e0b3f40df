-- Worked examples: executions of small programs.
use Rattle.std.specs.Prelude.{◌≡◌, pos, negsuc, ◌+◌, ◌^◌, true, false, List, [], ◌∷◌, Some}
use Rattle.ps_graph.specs.Examples.{does, number, plus, x, t, of_body, undeclared, state, by, counter, race, loop}
use Rattle.ps_graph.specs.Execution.{started, executed, reaches, NeverFails}
use Rattle.ps_graph.specs.Step.{Thread, Runs}
use Rattle.ps_graph.specs.Threads.{Seat}
use Rattle.ps_tree.specs.declared.stmt.Stmt.{Stmt}
use Rattle.ps_tree.specs.declared.stmt.StmtKind.TheVariants.{Assign, Skip}

-- one thread of the counter passes both statements, and then `x` is 1
abbrev pub CounterPasses : Type 0
CounterPasses =
    let seat : Seat Thread = record { locals = []; at = Runs [] } in
    executed counter (state (pos 0) ([] ∷ [])) (by 0 ∷ by 0 ∷ [])
    ≡ Some (record { globals = pos 1 ∷ []; seats = seat ∷ [] })

-- `x := x + 1;` from 2 to the 127th, where `x` isn't declared to be anything
abbrev pub ValuesHaveNoBound : Type 0
ValuesHaveNoBound =
    let seat : Seat Thread = record { locals = []; at = Runs [] } in
    executed (undeclared (does (Assign x (plus x (pos 1))) ∷ [])) (state (pos (2 ^ 127)) ([] ∷ [])) (by 0 ∷ [])
    ≡ Some (record { globals = pos ((2 ^ 127) + 1) ∷ []; seats = seat ∷ [] })

-- a thread to which no rest is given isn't there, and each has its own
abbrev pub RestsAreOwn : Type 0
RestsAreOwn =
    let first : Seat Thread = record { locals = pos 3 ∷ []; at = Runs [] } in
    let second : Seat Thread = record { locals = pos 4 ∷ []; at = Runs (does Skip ∷ []) } in
    started ([] ∷ (does Skip ∷ []) ∷ []) (state (pos 0) ((pos 3 ∷ []) ∷ (pos 4 ∷ []) ∷ (pos 5 ∷ []) ∷ []))
    ≡ record { globals = pos 0 ∷ []; seats = first ∷ second ∷ [] }

-- after `t := 3;` of thread 1, thread 0 has its own `t` as before
abbrev pub LocalsAreOwn : Type 0
LocalsAreOwn =
    let body : List Stmt = does (Assign t (number (pos 3))) ∷ [] in
    let first : Seat Thread = record { locals = pos 0 ∷ []; at = Runs body } in
    let second : Seat Thread = record { locals = pos 3 ∷ []; at = Runs [] } in
    executed (of_body ((116 ∷ []) ∷ []) body) (state (pos 0) ((pos 0 ∷ []) ∷ (pos 0 ∷ []) ∷ [])) (by 1 ∷ [])
    ≡ Some (record { globals = pos 0 ∷ []; seats = first ∷ second ∷ [] })

-- thread 0 reads 0 and writes 1, thread 1 reads 1 and writes 2, and thread 0 then fails: at this step and not before
abbrev pub RaceFails : Type 0
RaceFails = reaches race (state (pos 0) ((pos 0 ∷ []) ∷ (pos 0 ∷ []) ∷ [])) (by 0 ∷ by 0 ∷ by 1 ∷ by 1 ∷ by 0 ∷ []) ≡ true

-- one thread alone doesn't fail by the same steps of its own
abbrev pub RaceAlonePasses : Type 0
RaceAlonePasses = reaches race (state (pos 0) ((pos 0 ∷ []) ∷ (pos 0 ∷ []) ∷ [])) (by 0 ∷ by 0 ∷ by 0 ∷ []) ≡ false

-- steps that go on after the failure don't reach it at the last one
abbrev pub RaceFailsOnce : Type 0
RaceFailsOnce = reaches race (state (pos 0) ((pos 0 ∷ []) ∷ (pos 0 ∷ []) ∷ [])) (by 0 ∷ by 0 ∷ by 1 ∷ by 1 ∷ by 0 ∷ by 1 ∷ []) ≡ false

-- three tests, two rounds and the assertion are six steps
abbrev pub LoopFailsAtSix : Type 0
LoopFailsAtSix = reaches loop (state (pos 0) ([] ∷ [])) (by 0 ∷ by 0 ∷ by 0 ∷ by 0 ∷ by 0 ∷ by 0 ∷ []) ≡ true

-- five steps don't reach the failure
abbrev pub LoopPassesAtFive : Type 0
LoopPassesAtFive = reaches loop (state (pos 0) ([] ∷ [])) (by 0 ∷ by 0 ∷ by 0 ∷ by 0 ∷ by 0 ∷ []) ≡ false

-- no failure is reached from a state that isn't initial, with a step of a thread that there isn't, or without steps
abbrev pub NotReached : Type 0
NotReached = (reaches counter (state (negsuc 4) ([] ∷ [])) (by 0 ∷ by 0 ∷ []) ≡ false)
    × (reaches loop (state (pos 0) ([] ∷ [])) (by 0 ∷ by 0 ∷ by 1 ∷ by 0 ∷ by 0 ∷ by 0 ∷ by 0 ∷ []) ≡ false)
    × (reaches loop (state (pos 0) ([] ∷ [])) [] ≡ false)

-- it isn't so that the race never fails
abbrev pub RaceFailsSometimes : Type 0
RaceFailsSometimes = NeverFails race → ⊥

-- a program without statements never fails
abbrev pub NothingFails : Type 0
NothingFails = NeverFails (undeclared [])
