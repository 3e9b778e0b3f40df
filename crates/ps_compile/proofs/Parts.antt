-- Parts of what can be compiled can be compiled, and weigh less.
use Rattle.std.proofs.Common.{◌≡◌, Bool, true, false, refl, sym, ◌∙◌, ap, subst, ℕ, zero, suc, ◌<◌, ◌+◌, List, [], ◌∷◌, length, get_or, arith}
use Rattle.std.specs.List.{AllByRecursion}
use Rattle.ps_compile.specs.Conditions.{IsCompilableBlock, IsCompilableStmt}
use Rattle.ps_compile.specs.inner.Compilable.{StmtIsCompilable, BlockIsCompilable}
use Rattle.ps_compile.specs.inner.Weights.{weight, weight_all, weight_of}
use Rattle.ps_tree.specs.declared.cond.Test.{Test}
use Rattle.ps_tree.specs.declared.stmt.Stmt.{Stmt}
use Rattle.ps_tree.specs.declared.stmt.StmtKind.{StmtKind, Row_of-Stmt, end_of-Stmt, more_of-Stmt, items-the_row-Stmt}
use Rattle.ps_tree.specs.declared.stmt.StmtKind.TheVariants.{Atomic, If, While}
use Rattle.ps_tree.specs.declared.stmt.StmtKind.TheBlock.{hidden-the_row-Stmt-0, items_hidden-the_row-Stmt-0}

-- a block as a list
block_row : (g l : ℕ) (inside : Bool) {n : _} (row : Row_of-Stmt n) → IsCompilableBlock g l inside row →
    AllByRecursion (λ (s : Stmt). IsCompilableStmt g l inside s.kind) (items-the_row-Stmt n row)
block_row g l inside end_of-Stmt h = tt
block_row g l inside (more_of-Stmt _ k rest) h = (h.0, block_row g l inside rest h.1)

block_list : (g l : ℕ) (inside : Bool) (b slice : List Stmt) → slice ≡ b → IsCompilableBlock g l inside (hidden-the_row-Stmt-0 b) → BlockIsCompilable slice
unfolding BlockIsCompilable
block_list g l inside b slice e h = (
  g,
  l,
  inside,
  subst (λ (s : List Stmt). AllByRecursion (λ (s : Stmt). IsCompilableStmt g l inside s.kind) s) (sym e)
      (subst (λ (s : List Stmt). AllByRecursion (λ (s : Stmt). IsCompilableStmt g l inside s.kind) s) (items_hidden-the_row-Stmt-0 b)
      (block_row g l inside (hidden-the_row-Stmt-0 b) h)),
)

-- the statement of a number
pub item : (block : List Stmt) (i : ℕ) (s : Stmt) → i < length block → s ≡ get_or block i s → BlockIsCompilable block → StmtIsCompilable s.kind
unfolding BlockIsCompilable
item block i s lt e (g, l, inside, h) = (g, l, inside, at block i lt e h)
  where
    at : (block : List Stmt) (i : ℕ) → i < length block → s ≡ get_or block i s → AllByRecursion (λ (s : Stmt). IsCompilableStmt g l inside s.kind) block →
        IsCompilableStmt g l inside s.kind
    at [] i lt e h = let no_such : ⊥ = omega (arith, lt) in absurd no_such
    at (x ∷ xs) zero lt e h = subst (λ (s : Stmt). IsCompilableStmt g l inside s.kind) (sym e) h.0
    at (x ∷ xs) (suc i) lt e h = at xs i (omega (arith, lt)) e h.1

pub atomic_block : (k : StmtKind) (b slice : List Stmt) → k ≡ Atomic b → slice ≡ b → StmtIsCompilable k → BlockIsCompilable slice
atomic_block k b slice e s (g, l, inside, h) = block_list g l true b slice s (subst (IsCompilableStmt g l inside) e h)

pub if_held : (k : StmtKind) (t : Test) (x y slice : List Stmt) → k ≡ If t x y → slice ≡ x → StmtIsCompilable k → BlockIsCompilable slice
if_held k t x y slice e s (g, l, inside, h) = let parts = subst (IsCompilableStmt g l inside) e h in block_list g l inside x slice s parts.1

pub if_failed : (k : StmtKind) (t : Test) (x y slice : List Stmt) → k ≡ If t x y → slice ≡ y → StmtIsCompilable k → BlockIsCompilable slice
if_failed k t x y slice e s (g, l, inside, h) = let parts = subst (IsCompilableStmt g l inside) e h in block_list g l inside y slice s parts.2

pub while_block : (k : StmtKind) (t : Test) (x slice : List Stmt) → k ≡ While t x → slice ≡ x → StmtIsCompilable k → BlockIsCompilable slice
while_block k t x slice e s (g, l, inside, h) = let parts = subst (IsCompilableStmt g l inside) e h in block_list g l inside x slice s parts.2

pub whole_body : (g l : ℕ) (body slice : List Stmt) → slice ≡ body → AllByRecursion (λ (s : Stmt). IsCompilableStmt g l false s.kind) body → BlockIsCompilable slice
unfolding BlockIsCompilable
whole_body g l body slice e h = (g, l, false, subst (λ (b : List Stmt). AllByRecursion (λ (s : Stmt). IsCompilableStmt g l false s.kind) b) (sym e) h)

-- ---- weights

weight_row : {n : _} (row : Row_of-Stmt n) → weight_all row ≡ weight_of (items-the_row-Stmt n row)
weight_row end_of-Stmt = refl
weight_row (more_of-Stmt _ k rest) = ap (λ (w : ℕ). (1 + weight k) + w) (weight_row rest)

weight_list : (b slice : List Stmt) → slice ≡ b → weight_of slice ≡ weight_all (hidden-the_row-Stmt-0 b)
weight_list b slice e = ap weight_of e ∙ sym (weight_row (hidden-the_row-Stmt-0 b) ∙ ap weight_of (items_hidden-the_row-Stmt-0 b))

pub atomic_weight : (k : StmtKind) (b slice : List Stmt) → k ≡ Atomic b → slice ≡ b → weight_of slice < weight k
atomic_weight k b slice e s = omega (arith, ap weight e, weight_list b slice s)

pub held_weight : (k : StmtKind) (t : Test) (x y slice : List Stmt) → k ≡ If t x y → slice ≡ x → weight_of slice < weight k
held_weight k t x y slice e s = omega (arith, ap weight e, weight_list x slice s)

pub failed_weight : (k : StmtKind) (t : Test) (x y slice : List Stmt) → k ≡ If t x y → slice ≡ y → weight_of slice < weight k
failed_weight k t x y slice e s = omega (arith, ap weight e, weight_list y slice s)

pub while_weight : (k : StmtKind) (t : Test) (x slice : List Stmt) → k ≡ While t x → slice ≡ x → weight_of slice < weight k
while_weight k t x slice e s = omega (arith, ap weight e, weight_list x slice s)

pub item_weight : (block : List Stmt) (i : ℕ) (s : Stmt) → i < length block → s ≡ get_or block i s → weight s.kind < weight_of block
item_weight [] i s lt e = let no_such : ⊥ = omega (arith, lt) in absurd no_such
item_weight (x ∷ xs) zero s lt e = omega (arith, ap (λ (s : Stmt). weight s.kind) e)
item_weight (x ∷ xs) (suc i) s lt e = omega (arith, item_weight xs i s (omega (arith, lt)) e)
