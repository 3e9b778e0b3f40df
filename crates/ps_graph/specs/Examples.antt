-- The programs of the worked examples, and what the examples are written with.
pub mod Conditions
pub mod Connections
pub mod Executions
pub mod Keeping
pub mod Starts
pub mod Steps
pub mod Traces
pub mod Ways
use Rattle.std.specs.Prelude.{ℕ, ℤ, pos, List, [], ◌∷◌, Some, None}
use Rattle.ps_command.specs.Values.{Values}
use Rattle.ps_command.specs.declared.state.State.{State}
use Rattle.ps_tree.specs.declared.cond.Cond.{Cond}
use Rattle.ps_tree.specs.declared.cond.Cond.TheVariants.{Rel}
use Rattle.ps_tree.specs.declared.cond.Test.TheVariants.{Cond as Where}
use Rattle.ps_tree.specs.declared.program.Program.{Program}
use Rattle.ps_tree.specs.declared.relation.Relation.{Relation}
use Rattle.ps_tree.specs.declared.relation.Sign.{Sign}
use Rattle.ps_tree.specs.declared.relation.Sign.TheVariants.{Less, GreaterEq, Equal, NotEqual}
use Rattle.ps_tree.specs.declared.stmt.Stmt.{Stmt}
use Rattle.ps_tree.specs.declared.stmt.StmtKind.{StmtKind}
use Rattle.ps_tree.specs.declared.stmt.StmtKind.TheVariants.{Assign, Assert, While}
use Rattle.ps_tree.specs.declared.sum.Sum.{Sum}
use Rattle.ps_term.specs.declared.var.Var.{Var}
use Rattle.ps_term.specs.declared.var.Var.TheVariants.{Global, Local}

-- a statement of this kind; the place doesn't matter
abbrev pub does : StmtKind → Stmt
does k = record { place = record { line = 1; column = 1 }; kind = k }

-- the sum of a number alone
abbrev pub number : ℤ → Sum
number z = record { terms = (z, None) ∷ [] }

-- the sum of a variable and a number
abbrev pub plus : Var → ℤ → Sum
plus v z = record { terms = (pos 1, Some v) ∷ (z, None) ∷ [] }

-- the relation of a variable and a number
abbrev pub relation_with : Var → Sign → ℤ → Relation
relation_with v sign z = record { left = plus v (pos 0); sign = sign; right = number z }

-- the condition that it holds
abbrev pub compare_with : Var → Sign → ℤ → Cond
compare_with v sign z = Rel (relation_with v sign z)

-- the globals of the examples
abbrev pub x : Var
x = Global 0

abbrev pub y : Var
y = Global 1

-- the local of the examples
abbrev pub t : Var
t = Local 0 0

-- a program `global x = 0; thread { .. }`, with a local `t` where there are names of locals
abbrev pub of_body : List (List ℕ) → List Stmt → Program
of_body locals body = record { globals = record { name = 120 ∷ []; value = Some (pos 0) } ∷ []; locals = locals; inits = []; body = body }

-- a program `global x; thread { .. }`
abbrev pub undeclared : List Stmt → Program
undeclared body = record { globals = record { name = 120 ∷ []; value = None } ∷ []; locals = []; inits = []; body = body }

-- the state in which `x` has a value, and each thread its locals
abbrev pub state : ℤ → List (List ℤ) → State
state z locals = record { globals = z ∷ []; locals = locals }

-- the values of a thread that sees `x` and has no local
abbrev pub seeing : ℤ → Values
seeing z = record { globals = z ∷ []; locals = [] }

-- a step of a thread without choices
abbrev pub by : ℕ → ℕ × List ℤ
by k = (k, [])

-- `x := x + 1; assert x >= 1;`
abbrev pub counter : Program
counter = of_body [] (does (Assign x (plus x (pos 1))) ∷ does (Assert (compare_with x GreaterEq (pos 1))) ∷ [])

-- `t := x; x := t + 1; assert x == t + 1;`
abbrev pub race : Program
race = of_body ((116 ∷ []) ∷ [])
    (does (Assign t (plus x (pos 0))) ∷ does (Assign x (plus t (pos 1)))
    ∷ does (Assert (Rel (record { left = plus x (pos 0); sign = Equal; right = plus t (pos 1) }))) ∷ [])

-- `while (x < 2) { x := x + 1; } assert x != 2;`
abbrev pub loop : Program
loop = of_body [] (does (While (Where (compare_with x Less (pos 2))) (does (Assign x (plus x (pos 1))) ∷ []))
    ∷ does (Assert (compare_with x NotEqual (pos 2))) ∷ [])
