-- How traces are spelled, and which ones are within the limits.
use Rattle.std.specs.Prelude.{ℕ, ◌≤◌, ◌<◌, ◌^◌, List, [], ◌∷◌, ◌++◌, map, length, decimal, codes}
use Rattle.std.specs.List.{AllByRecursion}
use Rattle.ps_trace.specs.declared.trace.IndexedTrace.{IndexedTrace}
use Rattle.ps_trace.specs.declared.trace.Letter.{Letter}

-- A line `step` with the thread and the edge.
abbrev pub letter_line : Letter → List ℕ × List (List ℕ)
letter_line l = (codes "step", decimal l.thread ∷ decimal l.edge ∷ [])

-- `trace` and the number of letters, a line for each letter, and `end`.
abbrev pub trace_lines : IndexedTrace → List (List ℕ × List (List ℕ))
trace_lines trace = (codes "trace", decimal (length trace.letters) ∷ []) ∷ (map letter_line trace.letters ++ ((codes "end", []) ∷ []))

-- The numbers are of 32 bits.
pub record LetterFits (l : Letter) : Type 0 where
  pub thread : l.thread < 2 ^ 32
  pub edge : l.edge < 2 ^ 32

-- At most 1,048,576 letters.
pub record TraceFits (trace : IndexedTrace) : Type 0 where
  pub few : length trace.letters ≤ 1048576
  pub letters : AllByRecursion LetterFits trace.letters
