-- The multipliers of a trace's rows, row by row: those of the rows that hold once at the start, those of each thread's rows, and
-- those of the letters.
use Rattle.std.specs.Prelude.{ℕ, ◌+◌, ◌<◌, ◌^◌, ◌==◌, List, [], ◌∷◌, ◌++◌, length, map, take, drop, All, if◌then◌else◌}
use Rattle.std.specs.List.{flat_map, list_any}
use Rattle.ps_command.specs.declared.setting.Setting.{Setting}
use Rattle.ps_term.specs.declared.row.Row.{Row}
use Rattle.ps_trace.specs.Rows.{rows_at_start, threads_in_trace}

-- a multiplier 0 for each row
abbrev pub zeros : List Row → List ℕ
zeros rows = map (λ _. 0) rows

-- those of the rows that hold once
abbrev pub once_weights : Setting → List ℕ → List ℕ
once_weights setting lambda = take (length setting.init_once) lambda

-- each thread with those of its rows, so many for each
abbrev pub weights_by_thread : ℕ → List ℕ → List ℕ → List (ℕ × List ℕ)
weights_by_thread count [] ws = []
weights_by_thread count (k ∷ ks) ws = (k, take count ws) ∷ weights_by_thread count ks (drop count ws)

-- the threads of a trace, each with the multipliers of its rows at the start
abbrev pub thread_weights : Setting → List (ℕ × ℕ) → List ℕ → List (ℕ × List ℕ)
thread_weights setting trace lambda =
    weights_by_thread (length setting.init_each) (threads_in_trace trace) (drop (length setting.init_once) lambda)

-- those of a thread's rows; a thread that doesn't occur has none but 0
abbrev pub weights_of : List ℕ → List (ℕ × List ℕ) → ℕ → List ℕ
weights_of none [] k = none
weights_of none (p ∷ ps) k = if p.0 == k then p.1 else weights_of none ps k

-- the sums, place by place
abbrev pub added : List ℕ → List ℕ → List ℕ
added (m ∷ ms) (n ∷ ns) = (m + n) ∷ added ms ns
added [] ns = []
added (m ∷ ms) [] = []

-- for each row the sum of its multipliers for all threads but these
abbrev pub weights_of_others : List ℕ → List (ℕ × List ℕ) → List ℕ → List ℕ
weights_of_others none [] slots = none
weights_of_others none (p ∷ ps) slots =
    if list_any (λ s. s == p.0) slots then weights_of_others none ps slots else added p.1 (weights_of_others none ps slots)

-- Those of the rows of an initial entry for a predicate with these threads in its slots, but for the last row: those of the rows
-- that hold once, those of each slot's thread, and for one thread more the sums of those of all threads in no slot.
abbrev pub initial_weights : Setting → List (ℕ × ℕ) → List ℕ → List ℕ → List ℕ
initial_weights setting trace lambda slots =
    once_weights setting lambda
    ++ (flat_map (weights_of (zeros setting.init_each) (thread_weights setting trace lambda)) slots
    ++ weights_of_others (zeros setting.init_each) (thread_weights setting trace lambda) slots)

-- the sums of those of all threads in no slot are numbers of 128 bits with a sign
abbrev pub OthersFit : Setting → List (ℕ × ℕ) → List ℕ → List ℕ → Type 0
OthersFit setting trace lambda slots =
    All (λ n. n < 2 ^ 127) (weights_of_others (zeros setting.init_each) (thread_weights setting trace lambda) slots)

-- those of the rows of the letters
abbrev pub letter_weights : Setting → List (ℕ × ℕ) → List ℕ → List ℕ
letter_weights setting trace lambda = drop (length (rows_at_start setting (threads_in_trace trace))) lambda
