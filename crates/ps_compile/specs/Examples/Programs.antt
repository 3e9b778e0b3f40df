-- Worked examples: the edges and commands of further programs of `examples/programs`.
use Rattle.std.specs.Prelude.{ℤ, pos, negsuc, true, false, List, [], ◌∷◌, Some, None}
use Rattle.ps_command.specs.declared.command.Command.{Command}
use Rattle.ps_command.specs.declared.op.Op.{Op}
use Rattle.ps_command.specs.declared.op.Op.TheVariants.{Assume, Assign as Sets}
use Rattle.ps_compile.specs.Compiled.{IsLaidOut}
use Rattle.ps_compile.specs.Examples.Bodies.{chosen_edge, runs}
use Rattle.ps_graph.specs.Examples.{does, number, plus, t, x, y}
use Rattle.ps_graph.specs.Examples.Connections.{edge}
use Rattle.ps_graph.specs.declared.edge.Edge.{Edge}
use Rattle.ps_graph.specs.declared.edge.Pick.TheVariants.{Star as StarPick}
use Rattle.ps_term.specs.declared.term.Term.{Term}
use Rattle.ps_term.specs.declared.var.Var.{Var}
use Rattle.ps_term.specs.declared.var.Var.TheVariants.{Global}
use Rattle.ps_tree.specs.declared.cond.Cond.{Cond, Rel}
use Rattle.ps_tree.specs.declared.cond.Test.TheVariants.{Star, Cond as Where}
use Rattle.ps_tree.specs.declared.relation.Sign.{Sign}
use Rattle.ps_tree.specs.declared.relation.Sign.TheVariants.{Greater, GreaterEq, LessEq, Equal}
use Rattle.ps_tree.specs.declared.stmt.Stmt.{Stmt}
use Rattle.ps_tree.specs.declared.stmt.StmtKind.TheVariants.{Assign, Assume as AssumeStmt, Assert, Skip, Atomic, If, While}
use Rattle.ps_tree.specs.declared.sum.Sum.{Sum}

-- the sum of a variable alone, and two sums compared
abbrev pub only : Var → Sum
only v = record { terms = (pos 1, Some v) ∷ [] }

abbrev pub compare : Sum → Sign → Sum → Cond
compare left sign right = Rel (record { left = left; sign = sign; right = right })

-- the term of so many times a variable, plus a number, and that it is at most 0
abbrev pub times_plus : Var → ℤ → ℤ → Term
times_plus v by constant = record { pairs = (v, by) ∷ []; constant = constant }

abbrev pub most_zero : Term → Op
most_zero term = Assume (record { term = term })

-- `half.ps`: `assume 2 * x == 3 * y + 1; assert 1 <= 0;`
abbrev pub half : List Stmt
half = does (AssumeStmt (compare (record { terms = (pos 2, Some x) ∷ [] }) Equal (record { terms = (pos 3, Some y) ∷ (pos 1, None) ∷ [] })))
    ∷ does (Assert (compare (number (pos 1)) LessEq (number (pos 0)))) ∷ []

-- both rows of `2 * x == 3 * y + 1`, then `1 <= 0`, and `0 <= 0` by which the assertion fails
abbrev pub half_commands : List Command
half_commands = runs (most_zero (record { pairs = (x, pos 2) ∷ (y, negsuc 2) ∷ []; constant = negsuc 0 })
    ∷ most_zero (record { pairs = (x, negsuc 1) ∷ (y, pos 3) ∷ []; constant = pos 1 }) ∷ [])
    ∷ runs (most_zero (record { pairs = []; constant = pos 1 }) ∷ []) ∷ runs (most_zero (record { pairs = []; constant = pos 0 }) ∷ []) ∷ []

abbrev pub HalfIsLaidOut : Type 0
HalfIsLaidOut = IsLaidOut half 4 half_commands (edge 0 3 0 ∷ edge 3 2 1 ∷ edge 3 1 2 ∷ [])

-- `race.ps`: `t := x; x := t + 1; assert x == t + 1;`
abbrev pub race : List Stmt
race = does (Assign t (only x)) ∷ does (Assign x (plus t (pos 1))) ∷ does (Assert (compare (only x) Equal (plus t (pos 1)))) ∷ []

-- so many times `x - t`, plus a number, is at most 0
abbrev pub apart_by : ℤ → ℤ → ℤ → Op
apart_by first second constant = most_zero (record { pairs = (x, first) ∷ (t, second) ∷ []; constant = constant })

-- the assignments, both rows of `x == t + 1`, and that `x` is below it and above it
abbrev pub race_commands : List Command
race_commands = runs (Sets t (times_plus x (pos 1) (pos 0)) ∷ []) ∷ runs (Sets x (times_plus t (pos 1) (pos 1)) ∷ [])
    ∷ runs (apart_by (pos 1) (negsuc 0) (negsuc 0) ∷ apart_by (negsuc 0) (pos 1) (pos 1) ∷ [])
    ∷ runs (apart_by (pos 1) (negsuc 0) (pos 0) ∷ []) ∷ runs (apart_by (negsuc 0) (pos 1) (pos 2) ∷ []) ∷ []

abbrev pub RaceIsLaidOut : Type 0
RaceIsLaidOut = IsLaidOut race 5 race_commands (edge 0 3 0 ∷ edge 3 4 1 ∷ edge 4 2 2 ∷ edge 4 1 3 ∷ edge 4 1 4 ∷ [])

-- `pool.ps`: its globals, of which the first is `lock`, and its local `n`
abbrev pub lock : Var
lock = Global 0

abbrev pub busy : Var
busy = Global 1

abbrev pub done : Var
done = Global 2

abbrev pub n : Var
n = t

abbrev pub sets : Var → ℤ → Stmt
sets v z = does (Assign v (number z))

abbrev pub pool_round : List Stmt
pool_round = does (Atomic (does (AssumeStmt (compare (only lock) Equal (number (pos 0)))) ∷ sets lock (pos 1) ∷ []))
    ∷ sets busy (pos 1)
    ∷ does (If Star (does (Assign done (plus done (pos 1))) ∷ does (Assert (compare (only done) GreaterEq (number (pos 1)))) ∷ []) (does Skip ∷ []))
    ∷ does (Assert (compare (only busy) Equal (number (pos 1))))
    ∷ sets busy (pos 0) ∷ sets lock (pos 0) ∷ does (Assign n (plus n (negsuc 0))) ∷ []

abbrev pub pool : List Stmt
pool = does (While (Where (compare (only n) Greater (number (pos 0)))) pool_round) ∷ []

abbrev pub sets_number : Var → ℤ → Op
sets_number v z = Sets v (record { pairs = []; constant = z })

-- `n > 0`, `n <= 0`, the atomic block, `busy := 1`, no op, `done := done + 1`, `done >= 1`, `done < 1`, both rows of
-- `busy == 1`, that `busy` is below 1 and above it, `busy := 0`, `lock := 0` and `n := n - 1`
abbrev pub pool_commands : List Command
pool_commands = runs (most_zero (times_plus n (negsuc 0) (pos 1)) ∷ []) ∷ runs (most_zero (times_plus n (pos 1) (pos 0)) ∷ [])
    ∷ runs (most_zero (times_plus lock (pos 1) (pos 0)) ∷ most_zero (times_plus lock (negsuc 0) (pos 0)) ∷ sets_number lock (pos 1) ∷ [])
    ∷ runs (sets_number busy (pos 1) ∷ []) ∷ runs [] ∷ runs (Sets done (times_plus done (pos 1) (pos 1)) ∷ [])
    ∷ runs (most_zero (times_plus done (negsuc 0) (pos 1)) ∷ []) ∷ runs (most_zero (times_plus done (pos 1) (pos 0)) ∷ [])
    ∷ runs (most_zero (times_plus busy (pos 1) (negsuc 0)) ∷ most_zero (times_plus busy (negsuc 0) (pos 1)) ∷ [])
    ∷ runs (most_zero (times_plus busy (pos 1) (pos 0)) ∷ []) ∷ runs (most_zero (times_plus busy (negsuc 0) (pos 2)) ∷ [])
    ∷ runs (sets_number busy (pos 0) ∷ []) ∷ runs (sets_number lock (pos 0) ∷ [])
    ∷ runs (Sets n (times_plus n (pos 1) (negsuc 0)) ∷ []) ∷ []

abbrev pub pool_edges : List Edge
pool_edges = edge 0 3 0 ∷ edge 0 2 1 ∷ edge 3 4 2 ∷ edge 4 5 3 ∷ chosen_edge 5 7 (StarPick true) 4 ∷ chosen_edge 5 8 (StarPick false) 4
    ∷ edge 7 9 5 ∷ edge 9 6 6 ∷ edge 9 1 7 ∷ edge 8 6 4 ∷ edge 6 10 8 ∷ edge 6 1 9 ∷ edge 6 1 10
    ∷ edge 10 11 11 ∷ edge 11 12 12 ∷ edge 12 0 13 ∷ []

abbrev pub PoolIsLaidOut : Type 0
PoolIsLaidOut = IsLaidOut pool 13 pool_commands pool_edges
