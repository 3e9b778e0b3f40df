-- How much there is in statements: what a recursion over them goes by.
use Rattle.std.specs.Prelude.{ℕ, ◌+◌, List, [], ◌∷◌}
use Rattle.ps_tree.specs.declared.stmt.Stmt.{Stmt}
use Rattle.ps_tree.specs.declared.stmt.StmtKind.{StmtKind, Atomic', If', While', Row_of-Stmt, end_of-Stmt, more_of-Stmt}

-- more than its blocks, and a block more than each of its statements
abbrev mutual
  pub weight : StmtKind → ℕ
  weight (Atomic' _ block) = 1 + weight_all block
  weight (If' _ _ held _ failed) = 1 + (weight_all held + weight_all failed)
  weight (While' _ _ block) = 1 + weight_all block
  weight _ = 1

  pub weight_all : {n : _} → Row_of-Stmt n → ℕ
  weight_all end_of-Stmt = 0
  weight_all (more_of-Stmt _ k rest) = (1 + weight k) + weight_all rest

-- the same of a list of statements
abbrev pub weight_of : List Stmt → ℕ
weight_of [] = 0
weight_of (s ∷ rest) = (1 + weight s.kind) + weight_of rest
