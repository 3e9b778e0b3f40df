-- Worked examples: the edges and commands of small bodies.
use Rattle.std.specs.Prelude.{ℕ, ℤ, pos, negsuc, true, false, List, [], ◌∷◌}
use Rattle.ps_command.specs.declared.command.Command.{Command}
use Rattle.ps_command.specs.declared.op.Op.{Op}
use Rattle.ps_command.specs.declared.op.Op.TheVariants.{Assume, Assign as Sets}
use Rattle.ps_compile.specs.Compiled.{AreEdges, IsLaidOut}
use Rattle.ps_compile.specs.Layout.{all_planned, body_sites}
use Rattle.ps_graph.specs.Examples.{does, compare_with, number, plus, x, counter, loop}
use Rattle.ps_graph.specs.Examples.Connections.{term_of, edge, star_edge, counter_commands, counter_edges, idle_commands}
use Rattle.ps_graph.specs.declared.edge.Edge.{Edge}
use Rattle.ps_graph.specs.declared.edge.Pick.{Pick}
use Rattle.ps_graph.specs.declared.edge.Pick.TheVariants.{Star as StarPick}
use Rattle.ps_tree.specs.declared.cond.Test.TheVariants.{Star, Cond as Where}
use Rattle.ps_tree.specs.declared.relation.Sign.TheVariants.{GreaterEq, Equal}
use Rattle.ps_tree.specs.declared.stmt.StmtKind.TheVariants.{Assign, Assume as AssumeStmt, Assert, Skip, Atomic, If, While}

-- a command of these ops
abbrev pub runs : List Op → Command
runs ops = record { ops = ops }

-- so many times `x`, plus a number, is at most 0
abbrev pub at_most_zero : ℤ → ℤ → Op
at_most_zero by constant = Assume (record { term = term_of by constant })

-- `x := z`
abbrev pub sets_to : ℤ → Op
sets_to z = Sets x (record { pairs = []; constant = z })

-- an edge by the choice of a `*`, and by a command
abbrev pub chosen_edge : ℕ → ℕ → Pick → ℕ → Edge
chosen_edge source target pick command = record { source = source; target = target; command = command; picks = pick ∷ [] }

-- `x := x + 1; assert x >= 1;` has the edges and commands that follow it
abbrev pub CounterIsLaidOut : Type 0
CounterIsLaidOut = IsLaidOut counter.body 4 counter_commands counter_edges

-- `x := x + 1`, no op, `1 - x <= 0` and `x <= 0`
abbrev pub branch_commands : List Command
branch_commands = runs (Sets x (term_of (pos 1) (pos 1)) ∷ []) ∷ runs [] ∷ runs (at_most_zero (negsuc 0) (pos 1) ∷ [])
    ∷ runs (at_most_zero (pos 1) (pos 0) ∷ []) ∷ []

-- `x := x + 1; if (*) { } else { skip; } assert x >= 1; assert x >= 1;`: eight edges and four commands, of which the two
-- assertions share theirs, and so do the ways of `*` and `skip`
abbrev pub BranchIsLaidOut : Type 0
BranchIsLaidOut =
    IsLaidOut (does (Assign x (plus x (pos 1))) ∷ does (If Star [] (does Skip ∷ []))
    ∷ does (Assert (compare_with x GreaterEq (pos 1))) ∷ does (Assert (compare_with x GreaterEq (pos 1))) ∷ [])
    7
    branch_commands
    (edge 0 3 0 ∷ chosen_edge 3 4 (StarPick true) 1 ∷ chosen_edge 3 5 (StarPick false) 1 ∷ edge 5 4 1
    ∷ edge 4 6 2 ∷ edge 4 1 3 ∷ edge 6 2 2 ∷ edge 6 1 3 ∷ [])

-- the block, the two rows of `x == 1`, `x <= 0`, `2 - x <= 0` and `x := 0`
abbrev pub lock_commands : List Command
lock_commands = runs (at_most_zero (pos 1) (pos 0) ∷ at_most_zero (negsuc 0) (pos 0) ∷ sets_to (pos 1) ∷ [])
    ∷ runs (at_most_zero (pos 1) (negsuc 0) ∷ at_most_zero (negsuc 0) (pos 1) ∷ [])
    ∷ runs (at_most_zero (pos 1) (pos 0) ∷ []) ∷ runs (at_most_zero (negsuc 0) (pos 2) ∷ [])
    ∷ runs (sets_to (pos 0) ∷ []) ∷ []

-- `atomic { assume x == 0; x := 1; } assert x == 1; x := 0;`: the block is one edge; the assertion goes on by two rows,
-- and fails below 1 and above it; five commands
abbrev pub LockIsLaidOut : Type 0
LockIsLaidOut =
    IsLaidOut (does (Atomic (does (AssumeStmt (compare_with x Equal (pos 0))) ∷ does (Assign x (number (pos 1))) ∷ []))
    ∷ does (Assert (compare_with x Equal (pos 1))) ∷ does (Assign x (number (pos 0))) ∷ [])
    5
    lock_commands
    (edge 0 3 0 ∷ edge 3 4 1 ∷ edge 3 1 2 ∷ edge 3 1 3 ∷ edge 4 2 4 ∷ [])

-- `x - 1 <= 0`, `2 - x <= 0`, `x := x + 1`, `3 - x <= 0`, and both rows of `x == 2`
abbrev pub loop_commands : List Command
loop_commands = runs (at_most_zero (pos 1) (negsuc 0) ∷ []) ∷ runs (at_most_zero (negsuc 0) (pos 2) ∷ [])
    ∷ runs (Sets x (term_of (pos 1) (pos 1)) ∷ []) ∷ runs (at_most_zero (negsuc 0) (pos 3) ∷ [])
    ∷ runs (at_most_zero (pos 1) (negsuc 1) ∷ at_most_zero (negsuc 0) (pos 2) ∷ []) ∷ []

-- `while (x < 2) { x := x + 1; } assert x != 2;`: six edges, of which the first command stands twice
abbrev pub LoopIsLaidOut : Type 0
LoopIsLaidOut =
    IsLaidOut loop.body 5
    loop_commands
    (edge 0 4 0 ∷ edge 0 3 1 ∷ edge 4 0 2 ∷ edge 3 2 0 ∷ edge 3 2 3 ∷ edge 3 1 4 ∷ [])

-- the way through the first block, and the two through the second
abbrev pub nested_commands : List Command
nested_commands = runs (at_most_zero (negsuc 0) (pos 1) ∷ sets_to (pos 0) ∷ [])
    ∷ runs (at_most_zero (pos 1) (pos 0) ∷ at_most_zero (negsuc 0) (pos 0) ∷ [])
    ∷ runs (at_most_zero (pos 1) (pos 0) ∷ at_most_zero (pos 1) (pos 1) ∷ []) ∷ []

-- `atomic { if (x >= 1) { x := 0; } else { assert x >= 0; } }`: one edge for each path through the block
abbrev pub NestedIfIsLaidOut : Type 0
NestedIfIsLaidOut =
    IsLaidOut (does (Atomic (does (If (Where (compare_with x GreaterEq (pos 1))) (does (Assign x (number (pos 0))) ∷ [])
    (does (Assert (compare_with x GreaterEq (pos 0))) ∷ [])) ∷ [])) ∷ [])
    3
    nested_commands
    (edge 0 2 0 ∷ edge 0 2 1 ∷ edge 0 1 2 ∷ [])

-- `if (*) { skip; skip; } else { skip; skip; }`: both blocks have their starts, 3 and 4, before either has a location more
abbrev pub BlocksAreLaidOut : Type 0
BlocksAreLaidOut =
    IsLaidOut (does (If Star (does Skip ∷ does Skip ∷ []) (does Skip ∷ does Skip ∷ [])) ∷ [])
    7 idle_commands
    (star_edge 0 3 (StarPick true) ∷ star_edge 0 4 (StarPick false) ∷ edge 3 5 0 ∷ edge 5 2 0 ∷ edge 4 6 0 ∷ edge 6 2 0 ∷ [])

-- an empty body has no end and no edge; empty blocks of `if`, `while` and `atomic` take no location
abbrev pub EmptyBlocksAreLaidOut : Type 0
EmptyBlocksAreLaidOut =
    IsLaidOut [] 2 [] []
    × IsLaidOut (does (If Star [] []) ∷ []) 3 idle_commands (star_edge 0 2 (StarPick true) ∷ star_edge 0 2 (StarPick false) ∷ [])
    × IsLaidOut (does (While Star []) ∷ []) 3 idle_commands (star_edge 0 0 (StarPick true) ∷ star_edge 0 2 (StarPick false) ∷ [])
    × IsLaidOut (does (Atomic []) ∷ []) 3 idle_commands (edge 0 2 0 ∷ [])

-- a body with another entry: `skip; skip;` from 5, where the next new location is 6
abbrev pub OtherEntriesServe : Type 0
OtherEntriesServe = AreEdges idle_commands (all_planned (body_sites (does Skip ∷ does Skip ∷ []) 5 6)) (edge 5 7 0 ∷ edge 7 6 0 ∷ [])
