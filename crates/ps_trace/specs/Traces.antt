-- Error traces of a graph.
use Rattle.std.specs.Prelude.{ℕ, List, map}
use Rattle.ps_graph.specs.ErrorTrace.{IsErrorTrace, IsFeasible}
use Rattle.ps_graph.specs.declared.graph.Graph.{Graph}
use Rattle.ps_trace.specs.declared.trace.IndexedTrace.{IndexedTrace}
use Rattle.ps_trace.specs.declared.trace.Letter.{Letter}

-- a letter, as a pair of a thread and the number of an edge
abbrev pub letter_pair : Letter → ℕ × ℕ
letter_pair l = (l.thread, l.edge)

-- letters, as such pairs
abbrev pub pairs_in : List Letter → List (ℕ × ℕ)
pairs_in letters = map letter_pair letters

-- the letters of a trace, as such pairs
abbrev pub pairs_of : IndexedTrace → List (ℕ × ℕ)
pairs_of trace = pairs_in trace.letters

-- Each thread's edges are a path from the entry of one body, at most one thread's path begins at the entry of the
-- `once` body, the last edge enters the error, and no earlier one does.
abbrev pub IsErrorTraceOf : Graph → IndexedTrace → Type 0
IsErrorTraceOf graph trace = IsErrorTrace graph (pairs_of trace)

-- Some initial state, with at least the threads that occur, and some havoc values run its commands one after another.
abbrev pub IsFeasibleTraceOf : Graph → IndexedTrace → Type 0
IsFeasibleTraceOf graph trace = IsFeasible graph (pairs_of trace)
