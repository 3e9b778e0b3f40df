-- The exact graph of a program.
use Rattle.std.specs.Prelude.{◌≡◌, ◌≢◌, ℕ, suc, ◌+◌, ◌<◌, not, List, [], ◌∷◌, ◌++◌, map, filter, length, replicate, Option, Some, None, if◌then◌else◌, ◌⊎◌, ℤ, pos, negsuc, neg_ℤ, All, AllPairs}
use Rattle.std.specs.List.{AllZip, flat_map}
use Rattle.ps_command.specs.Commands.{ops_of}
use Rattle.ps_command.specs.Named.{names_local}
use Rattle.ps_command.specs.declared.command.Command.{Command}
use Rattle.ps_compile.specs.Layout.{Planned, all_planned, body_sites, body_size}
use Rattle.ps_compile.specs.Ops.{bound_row, ops_on, with_product}
use Rattle.ps_graph.specs.Alternatives.{Bound, of_relation}
use Rattle.ps_graph.specs.Paths.{is_failing, picks_of}
use Rattle.ps_graph.specs.declared.edge.Edge.{Edge}
use Rattle.ps_graph.specs.declared.graph.Graph.{Graph}
use Rattle.ps_term.specs.Exact.{number_term}
use Rattle.ps_term.specs.declared.row.Row.{Row}
use Rattle.ps_term.specs.declared.var.Var.TheVariants.{Global}
use Rattle.ps_tree.specs.declared.global_decl.GlobalDecl.{GlobalDecl}
use Rattle.ps_tree.specs.declared.program.Program.{Program}
use Rattle.ps_tree.specs.declared.relation.Relation.{Relation}
use Rattle.ps_tree.specs.declared.relation.Sign.TheVariants.{NotEqual}
use Rattle.ps_tree.specs.declared.stmt.Stmt.{Stmt}

-- the edge of a path: its command has the path's ops, and where the path fails it enters the error
pub record IsEdge (commands : List Command) (planned : Planned) (e : Edge) : Type 0 where
  pub source : e.source ≡ planned.source
  pub target : e.target ≡ (if is_failing planned.path then 1 else planned.goal)
  pub ops : ops_of commands e.command ≡ ops_on planned.path
  pub picks : e.picks ≡ picks_of planned.path

-- the edges are those of the paths, one by one
abbrev pub AreEdges : List Command → List Planned → List Edge → Type 0
AreEdges commands planned edges = AllZip (IsEdge commands) planned edges

-- the numbers are given in the order in which they first stand, up to so many: each is below the next one, or is it
abbrev pub AreInOrder : ℕ → List ℕ → ℕ → Type 0
AreInOrder next [] all = next ≡ all
AreInOrder next (n ∷ ns) all = ((n < next) × AreInOrder next ns all) ⊎ ((n ≡ next) × AreInOrder (suc next) ns all)

-- equal op lists are one command, numbered by first appearance
pub record AreNumbered (commands : List Command) (edges : List Edge) : Type 0 where
  pub different : AllPairs (λ (c d : Command). c ≢ d) commands
  pub in_order : AreInOrder 0 (map (λ (e : Edge). e.command) edges) (length commands)

-- The one body of a graph: it is laid out from location 0, the next new location being 2.
pub record IsLaidOut (body : List Stmt) (locations : ℕ) (commands : List Command) (edges : List Edge) : Type 0 where
  pub counted : locations ≡ 2 + body_size body
  pub planned : AreEdges commands (all_planned (body_sites body 0 2)) edges
  pub numbered : AreNumbered commands edges

-- body 0 owns each location but the error
abbrev pub one_owner : ℕ → List (Option ℕ)
one_owner size = Some 0 ∷ None ∷ replicate size (Some 0)

abbrev pub first_alternative : List (List Bound) → List Bound
first_alternative [] = []
first_alternative (bs ∷ _) = bs

-- the rows of a relation that holds at the start, which has one alternative unless its sign is `!=`
abbrev pub relation_rows : Relation → List Row
relation_rows r = map bound_row (first_alternative (of_relation r.sign r.left r.right))

-- no relation has the sign `!=`, as the grammar has it
abbrev pub NoneIsNotEqual : List Relation → Type 0
NoneIsNotEqual inits = All (λ (r : Relation). r.sign ≢ NotEqual) inits

-- where a value v is declared, x - v and v - x
abbrev pub value_rows : ℕ → Option ℤ → List Row
value_rows n None = []
value_rows n (Some z) =
    record { term = with_product (pos 1) (Some (Global n)) (number_term (neg_ℤ z)) }
    ∷ record { term = with_product (negsuc 0) (Some (Global n)) (number_term z) } ∷ []

-- the rows of declared values, where the first global has this number
abbrev pub declared_rows : ℕ → List GlobalDecl → List Row
declared_rows n [] = []
declared_rows n (d ∷ globals) = value_rows n d.value ++ declared_rows (suc n) globals

-- the rows that hold at the start: those of declared values, then those of relations, in text order
abbrev pub start_rows : Program → List Row
start_rows p = declared_rows 0 p.globals ++ flat_map relation_rows p.inits

-- The graph of a program: body 0, from location 0, which any number of threads run. The rows that name a local hold for
-- each thread, the others once. That its symbolic forms are those of its commands is a fact of every setting.
pub record IsCompiled (p : Program) (g : Graph) : Type 0 where
  pub body : IsLaidOut p.body g.locations g.setting.commands g.edges
  pub entries : g.entries ≡ 0 ∷ []
  pub once : g.once ≡ None
  pub owner : g.owner ≡ one_owner (body_size p.body)
  pub globals : g.setting.globals ≡ length p.globals
  pub locals : g.setting.locals ≡ length p.locals
  pub init_once : g.setting.init_once ≡ filter (λ (r : Row). not (names_local r)) (start_rows p)
  pub init_each : g.setting.init_each ≡ filter names_local (start_rows p)
