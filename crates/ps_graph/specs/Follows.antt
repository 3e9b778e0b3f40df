-- How the edges of a graph follow the text.
use Rattle.std.specs.Prelude.{◌≡◌, ◌≢◌, ℕ, ℤ, true, false, ◌==◌, List, [], ◌∷◌, ◌++◌, map, filter, Contains, Option, Some, None, option_map, if◌then◌else◌}
use Rattle.ps_command.specs.Values.{Values}
use Rattle.ps_command.specs.declared.command.Command.{Command}
use Rattle.ps_command.specs.declared.op.Op.{Op}
use Rattle.ps_command.specs.declared.op.Op.TheVariants.{Assume, Assign, Havoc}
use Rattle.ps_graph.specs.Alternatives.{bound_value}
use Rattle.ps_graph.specs.Facts.{after_edge}
use Rattle.ps_command.specs.Commands.{ops_of}
use Rattle.ps_graph.specs.Paths.{Act, Guards, Assigns, Havocs, Chooses, Fails, is_failing, picks_of, paths, ways}
use Rattle.ps_graph.specs.Step.{Thread, Runs, Failed, step}
use Rattle.ps_graph.specs.declared.edge.Edge.{Edge}
use Rattle.ps_tree.specs.Sum.{sum_value}
use Rattle.ps_tree.specs.declared.stmt.Stmt.{Stmt}
use Rattle.ps_tree.specs.declared.stmt.StmtKind.{StmtKind, If', While', Row_of-Stmt, end_of-Stmt, more_of-Stmt}
use Rattle.ps_term.specs.Term.{value}
use Rattle.ps_term.specs.declared.var.Var.{Var}

-- The ops are those of the path: each does what its act does, at all values, and a choice of a `*` has no op. This fixes
-- a term where it is canonical, since two canonical terms that are worth the same at all values are one.
abbrev pub SaysOps : List Act → List Op → Type 0
SaysOps [] ops = ops ≡ []
SaysOps (Chooses _ ∷ p) ops = SaysOps p ops
SaysOps (Fails ∷ p) ops = ops ≡ []
SaysOps (Guards b ∷ p) (Assume r ∷ ops) = ((values : Var → ℤ) → value values r.term ≡ bound_value values b) × SaysOps p ops
SaysOps (Assigns x s ∷ p) (Assign y t ∷ ops) = (y ≡ x) × ((values : Var → ℤ) → value values t ≡ sum_value values s) × SaysOps p ops
SaysOps (Havocs x ∷ p) (Havoc y ∷ ops) = (y ≡ x) × SaysOps p ops
SaysOps _ _ = ⊥

-- an edge realises a path that goes on to a location: it leads there, or to the error where the path fails
pub record Realises (commands : List Command) (a : ℕ) (p : List Act) (goal : ℕ) (e : Edge) : Type 0 where
  pub source : e.source ≡ a
  pub target : e.target ≡ (if is_failing p then 1 else goal)
  pub ops : SaysOps p (ops_of commands e.command)
  pub picks : e.picks ≡ picks_of p

-- the edges realise the paths from a location, one by one
abbrev pub AreRealised : List Command → ℕ → List (List Act × ℕ) → List Edge → Type 0
AreRealised commands a [] [] = Unit {0}
AreRealised commands a (p ∷ ps) (e ∷ es) = Realises commands a p.0 p.1 e × AreRealised commands a ps es
AreRealised commands a _ _ = ⊥

-- the paths, each of which goes on to this location
abbrev pub going_to : ℕ → List (List Act) → List (List Act × ℕ)
going_to goal ps = map (λ (p : List Act). let q : List Act × ℕ = (p, goal) in q) ps

-- the edges that leave a location, in order
abbrev pub leaving : ℕ → List Edge → List Edge
leaving a edges = filter (λ (e : Edge). e.source == a) edges

-- A statement, and a block, connects a control location to another: the edges that leave the first are exactly those of
-- the statement. `if` goes to the start of a block, whose end is the second, and `while` to the start of its block, whose
-- end is where it stands itself. No statement begins at the error.
abbrev mutual
  pub StmtConnects : List Command → List Edge → StmtKind → ℕ → ℕ → Type 0
  StmtConnects commands edges (If' t _ held _ failed) a z =
      (b : ℕ) × (c : ℕ) × AreRealised commands a (going_to b (ways true t) ++ going_to c (ways false t)) (leaving a edges)
      × BlockConnects commands edges held b z × BlockConnects commands edges failed c z
  StmtConnects commands edges (While' t _ block) a z =
      (b : ℕ) × AreRealised commands a (going_to b (ways true t) ++ going_to z (ways false t)) (leaving a edges)
      × BlockConnects commands edges block b a
  StmtConnects commands edges k a z = AreRealised commands a (going_to z (paths k)) (leaving a edges)

  pub BlockConnects : List Command → List Edge → {n : _} → Row_of-Stmt n → ℕ → ℕ → Type 0
  BlockConnects commands edges end_of-Stmt a z = a ≡ z
  BlockConnects commands edges (more_of-Stmt _ k rest) a z =
      (b : ℕ) × (a ≢ 1) × StmtConnects commands edges k a b × BlockConnects commands edges rest b z

-- a rest of statements begins at a location other than the error; where nothing is left to run, no edge leaves it
abbrev pub RestBeginsAt : List Command → List Edge → List Stmt → ℕ → Type 0
RestBeginsAt commands edges [] a = (a ≢ 1) × (leaving a edges ≡ [])
RestBeginsAt commands edges (s ∷ rest) a =
    (b : ℕ) × (a ≢ 1) × StmtConnects commands edges s.kind a b × RestBeginsAt commands edges rest b

-- a thread is at a location: where its rest begins, or at the error where it is Failed
abbrev pub ThreadIsAt : List Command → List Edge → Thread → ℕ → Type 0
ThreadIsAt commands edges (Runs rest) a = RestBeginsAt commands edges rest a
ThreadIsAt commands edges Failed a = a ≡ 1

-- one step of a thread at a location along an edge: the values and the location after it
abbrev pub along : List Command → Edge → ℕ → Values → List ℤ → Option (Values × ℕ)
along commands e a v cs = if e.source == a then option_map (λ (w : Values). (w, e.target)) (after_edge commands e v cs) else None

-- Where a thread is at a location, each step of it is a step along an edge, and each step along an edge is a step of it,
-- with the same choices and to the same values; and after it the thread is at the target.
pub record StepsAreEdges (commands : List Command) (edges : List Edge) : Type 0 where
  pub forth : (t : Thread) (a : ℕ) → ThreadIsAt commands edges t a →
      (v : Values) (cs : List ℤ) (w : Values) (u : Thread) → step t v cs ≡ Some (w, u) →
      (e : Edge) × (b : ℕ) × Contains edges e × (along commands e a v cs ≡ Some (w, b)) × ThreadIsAt commands edges u b
  pub back : (t : Thread) (a : ℕ) → ThreadIsAt commands edges t a →
      (v : Values) (cs : List ℤ) (e : Edge) (w : Values) (b : ℕ) → Contains edges e → along commands e a v cs ≡ Some (w, b) →
      (u : Thread) × (step t v cs ≡ Some (w, u)) × ThreadIsAt commands edges u b
