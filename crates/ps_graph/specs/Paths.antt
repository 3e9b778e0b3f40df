-- The paths of a statement.
use Rattle.std.specs.Prelude.{Bool, true, false, List, [], ◌∷◌, ◌++◌, map, if◌then◌else◌}
use Rattle.ps_graph.specs.Alternatives.{Bound, alternatives}
use Rattle.ps_graph.specs.declared.edge.Pick.{Pick}
use Rattle.ps_graph.specs.declared.edge.Pick.TheVariants.{Star as StarPick, Value}
use Rattle.ps_tree.specs.declared.cond.Test.{Test}
use Rattle.ps_tree.specs.declared.cond.Test.TheVariants.{Star, Cond}
use Rattle.ps_tree.specs.declared.stmt.StmtKind.{StmtKind, Assign, Havoc, Assume, Assert, Skip, Atomic', If', While', Row_of-Stmt, end_of-Stmt, more_of-Stmt}
use Rattle.ps_tree.specs.declared.sum.Sum.{Sum}
use Rattle.ps_term.specs.declared.var.Var.{Var}

-- One act of a path: a guard, which lets it go on only where a bound holds; it assigns to a variable what a sum is
-- worth, havocs it, which sets it to the next choice, or chooses, which lets it go on only where the next choice is
-- that of a `*`; or an assertion fails, and the path ends.
pub data Act : Type 0 where
  Guards : Bound → Act
  Assigns : Var → Sum → Act
  Havocs : Var → Act
  Chooses : Bool → Act
  Fails : Act

-- the path ends in a failed assertion
abbrev pub is_failing : List Act → Bool
is_failing [] = false
is_failing (Fails ∷ p) = true
is_failing (_ ∷ p) = is_failing p

-- the picks of a path: its choices, in order
abbrev pub picks_of : List Act → List Pick
picks_of [] = []
picks_of (Havocs x ∷ p) = Value ∷ picks_of p
picks_of (Chooses b ∷ p) = StarPick b ∷ picks_of p
picks_of (Fails ∷ p) = []
picks_of (_ ∷ p) = picks_of p

-- an alternative as guards
abbrev pub guarded_by : List Bound → List Act
guarded_by bs = map Guards bs

-- the ways in which a test holds, at true, and fails, at false
abbrev pub ways : Bool → Test → List (List Act)
ways b Star = (Chooses b ∷ []) ∷ []
ways b (Cond c) = map guarded_by (alternatives b c)

-- each path, and after it each of the others where it didn't fail
abbrev pub followed : List (List Act) → List (List Act) → List (List Act)
followed [] qs = []
followed (p ∷ ps) qs = (if is_failing p then p ∷ [] else map (λ (q : List Act). p ++ q) qs) ++ followed ps qs

-- The paths of a statement, and of a block, that is run in one go. A loop has none.
abbrev mutual
  pub paths : StmtKind → List (List Act)
  paths (Assign x s) = (Assigns x s ∷ []) ∷ []
  paths (Havoc x) = (Havocs x ∷ []) ∷ []
  paths (Assume c) = map guarded_by (alternatives true c)
  paths (Assert c) =
      map guarded_by (alternatives true c) ++ map (λ (bs : List Bound). guarded_by bs ++ Fails ∷ []) (alternatives false c)
  paths Skip = [] ∷ []
  paths (Atomic' _ block) = paths_all block
  paths (If' t _ held _ failed) = followed (ways true t) (paths_all held) ++ followed (ways false t) (paths_all failed)
  paths (While' _ _ _) = []

  pub paths_all : {n : _} → Row_of-Stmt n → List (List Act)
  paths_all end_of-Stmt = [] ∷ []
  paths_all (more_of-Stmt _ k rest) = followed (paths k) (paths_all rest)
