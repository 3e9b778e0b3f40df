-- Worked examples: edges that follow a text, and edges that don't.
use Rattle.std.specs.Prelude.{ℕ, ℤ, pos, negsuc, true, false, List, [], ◌∷◌, ◌++◌}
use Rattle.ps_command.specs.declared.command.Command.{Command}
use Rattle.ps_command.specs.declared.op.Op.TheVariants.{Assume, Assign}
use Rattle.ps_graph.specs.Examples.{does, x, counter}
use Rattle.ps_graph.specs.Follows.{RestBeginsAt}
use Rattle.ps_graph.specs.declared.edge.Edge.{Edge}
use Rattle.ps_graph.specs.declared.edge.Pick.{Pick}
use Rattle.ps_graph.specs.declared.edge.Pick.TheVariants.{Star as StarPick}
use Rattle.ps_tree.specs.declared.cond.Test.TheVariants.{Star}
use Rattle.ps_tree.specs.declared.stmt.StmtKind.TheVariants.{Skip, If, While}
use Rattle.ps_term.specs.declared.term.Term.{Term}

-- a number times `x`, plus a number
abbrev pub term_of : ℤ → ℤ → Term
term_of by constant = record { pairs = (x, by) ∷ []; constant = constant }

-- an edge from a location to another by a command, without picks
abbrev pub edge : ℕ → ℕ → ℕ → Edge
edge source target command = record { source = source; target = target; command = command; picks = [] }

-- `x := x + 1`, `1 - x <= 0` and `x <= 0`
abbrev pub counter_commands : List Command
counter_commands = record { ops = Assign x (term_of (pos 1) (pos 1)) ∷ [] }
    ∷ record { ops = Assume (record { term = term_of (negsuc 0) (pos 1) }) ∷ [] }
    ∷ record { ops = Assume (record { term = term_of (pos 1) (pos 0) }) ∷ [] } ∷ []

-- from 0 to 3 the counter counts, and from there its assertion goes on to 2, or fails
abbrev pub counter_edges : List Edge
counter_edges = edge 0 3 0 ∷ edge 3 2 1 ∷ edge 3 1 2 ∷ []

-- the counter's body begins at 0
abbrev pub CounterBegins : Type 0
CounterBegins = RestBeginsAt counter_commands counter_edges counter.body 0

-- it doesn't where a further edge leaves 0, where one goes on from its end, where the failing edge leads elsewhere, or
-- where the assertion goes on by the wrong row
abbrev pub CounterBeginsNot : Type 0
CounterBeginsNot = (RestBeginsAt counter_commands (counter_edges ++ edge 0 2 0 ∷ []) counter.body 0 → ⊥)
    × (RestBeginsAt counter_commands (counter_edges ++ edge 2 3 0 ∷ []) counter.body 0 → ⊥)
    × (RestBeginsAt counter_commands (edge 0 3 0 ∷ edge 3 2 1 ∷ edge 3 2 2 ∷ []) counter.body 0 → ⊥)
    × (RestBeginsAt counter_commands (edge 0 3 0 ∷ edge 3 2 2 ∷ edge 3 1 2 ∷ []) counter.body 0 → ⊥)

-- no op, as the one command
abbrev pub idle_commands : List Command
idle_commands = record { ops = [] } ∷ []

-- an edge by the choice of a `*`
abbrev pub star_edge : ℕ → ℕ → Pick → Edge
star_edge source target pick = record { source = source; target = target; command = 0; picks = pick ∷ [] }

-- `if (*) { } else { skip; }`, from 0 to 2: the one block is empty, the other starts at 3
abbrev pub IfBegins : Type 0
IfBegins = RestBeginsAt idle_commands (star_edge 0 2 (StarPick true) ∷ star_edge 0 3 (StarPick false) ∷ edge 3 2 0 ∷ [])
    (does (If Star [] (does Skip ∷ [])) ∷ []) 0

-- `while (*) { skip; }`, from 0 to 2: the block starts at 3 and ends at 0
abbrev pub WhileBegins : Type 0
WhileBegins = RestBeginsAt idle_commands (star_edge 0 3 (StarPick true) ∷ star_edge 0 2 (StarPick false) ∷ edge 3 0 0 ∷ [])
    (does (While Star (does Skip ∷ [])) ∷ []) 0
