-- Parts of programs that can be compiled, whatever the numbers of globals and locals.
use Rattle.std.specs.Prelude.{ℕ, Bool, List}
use Rattle.std.specs.List.{AllByRecursion}
use Rattle.ps_compile.specs.Conditions.{IsCompilableCond, IsCompilableStmt, IsCompilableSum, IsCompilableTest}
use Rattle.ps_tree.specs.declared.cond.Cond.{Cond}
use Rattle.ps_tree.specs.declared.cond.Test.{Test}
use Rattle.ps_tree.specs.declared.stmt.Stmt.{Stmt}
use Rattle.ps_tree.specs.declared.stmt.StmtKind.{StmtKind}
use Rattle.ps_tree.specs.declared.sum.Sum.{Sum}

abbrev pub SumIsCompilable : Sum → Type 0
SumIsCompilable s = (globals : ℕ) × (locals : ℕ) × IsCompilableSum globals locals s

abbrev pub CondIsCompilable : Cond → Type 0
CondIsCompilable c = (globals : ℕ) × (locals : ℕ) × IsCompilableCond globals locals c

abbrev pub TestIsCompilable : Test → Type 0
TestIsCompilable t = (globals : ℕ) × (locals : ℕ) × IsCompilableTest globals locals t

abbrev pub StmtIsCompilable : StmtKind → Type 0
StmtIsCompilable k = (globals : ℕ) × (locals : ℕ) × (inside : Bool) × IsCompilableStmt globals locals inside k

unfoldable pub BlockIsCompilable : List Stmt → Type 0
BlockIsCompilable block =
    (globals : ℕ) × (locals : ℕ) × (inside : Bool)
    × AllByRecursion (λ (s : Stmt). IsCompilableStmt globals locals inside s.kind) block
