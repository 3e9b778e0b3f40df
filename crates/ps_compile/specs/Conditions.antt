-- Which programs are compiled: every program that is read is one of them.
use Rattle.std.specs.Prelude.{◌≡◌, ℕ, ◌<◌, ◌^◌, ℤ, Bool, true, false, Option, Some, None, IsTrue, length, unsigned_abs}
use Rattle.std.specs.List.{AllByRecursion}
use Rattle.ps_command.specs.Named.{is_declared}
use Rattle.ps_compile.specs.Compiled.{NoneIsNotEqual}
use Rattle.ps_term.specs.declared.var.Var.{Var}
use Rattle.ps_tree.specs.declared.cond.Cond.{Cond, Rel, Not', And', Or', Row_of-Cond, end_of-Cond, more_of-Cond}
use Rattle.ps_tree.specs.declared.cond.Test.{Test}
use Rattle.ps_tree.specs.declared.cond.Test.TheVariants.{Star, Cond as Where}
use Rattle.ps_tree.specs.declared.global_decl.GlobalDecl.{GlobalDecl}
use Rattle.ps_tree.specs.declared.program.Program.{Program}
use Rattle.ps_tree.specs.declared.relation.Relation.{Relation}
use Rattle.ps_tree.specs.declared.stmt.Stmt.{Stmt}
use Rattle.ps_tree.specs.declared.stmt.StmtKind.{StmtKind, Assign, Havoc, Assume, Assert, Skip, Atomic', If', While', Row_of-Stmt, end_of-Stmt, more_of-Stmt}
use Rattle.ps_tree.specs.declared.sum.Sum.{Sum}

-- every number of a program text is less than this
abbrev pub number_bound : ℕ
number_bound = 10 ^ 18

-- the number lies strictly between -10^18 and 10^18
abbrev pub IsSmall : ℤ → Type 0
IsSmall n = unsigned_abs n < number_bound

-- the variable, where there is one, is one of so many globals, or of so many locals
abbrev pub IsKnownFactor : ℕ → ℕ → Option Var → Type 0
IsKnownFactor globals locals None = Unit {0}
IsKnownFactor globals locals (Some x) = IsTrue (is_declared globals locals x)

abbrev pub IsCompilableProduct : ℕ → ℕ → ℤ × Option Var → Type 0
IsCompilableProduct globals locals p = IsSmall p.0 × IsKnownFactor globals locals p.1

-- numbers are small, and names declared
abbrev pub IsCompilableSum : ℕ → ℕ → Sum → Type 0
IsCompilableSum globals locals s = AllByRecursion (IsCompilableProduct globals locals) s.terms

abbrev pub IsCompilableRelation : ℕ → ℕ → Relation → Type 0
IsCompilableRelation globals locals r =
    IsCompilableSum globals locals r.left × IsCompilableSum globals locals r.right

abbrev mutual
  pub IsCompilableCond : ℕ → ℕ → Cond → Type 0
  IsCompilableCond globals locals (Rel r) = IsCompilableRelation globals locals r
  IsCompilableCond globals locals (Not' _ negated) = AreCompilableConds globals locals negated
  IsCompilableCond globals locals (And' _ members) = AreCompilableConds globals locals members
  IsCompilableCond globals locals (Or' _ members) = AreCompilableConds globals locals members

  pub AreCompilableConds : ℕ → ℕ → {n : _} → Row_of-Cond n → Type 0
  AreCompilableConds globals locals end_of-Cond = Unit {0}
  AreCompilableConds globals locals (more_of-Cond c rest) =
      IsCompilableCond globals locals c × AreCompilableConds globals locals rest

abbrev pub IsCompilableTest : ℕ → ℕ → Test → Type 0
IsCompilableTest globals locals Star = Unit {0}
IsCompilableTest globals locals (Where c) = IsCompilableCond globals locals c

-- A statement, inside an atomic block or not: no `while` stands in an atomic block.
abbrev mutual
  pub IsCompilableStmt : ℕ → ℕ → Bool → StmtKind → Type 0
  IsCompilableStmt globals locals inside (Assign x s) =
      IsTrue (is_declared globals locals x) × IsCompilableSum globals locals s
  IsCompilableStmt globals locals inside (Havoc x) = IsTrue (is_declared globals locals x)
  IsCompilableStmt globals locals inside (Assume c) = IsCompilableCond globals locals c
  IsCompilableStmt globals locals inside (Assert c) = IsCompilableCond globals locals c
  IsCompilableStmt globals locals inside Skip = Unit {0}
  IsCompilableStmt globals locals inside (Atomic' _ block) = IsCompilableBlock globals locals true block
  IsCompilableStmt globals locals inside (If' t _ held _ failed) =
      IsCompilableTest globals locals t
      × IsCompilableBlock globals locals inside held
      × IsCompilableBlock globals locals inside failed
  IsCompilableStmt globals locals inside (While' t _ block) =
      (inside ≡ false) × IsCompilableTest globals locals t × IsCompilableBlock globals locals inside block

  pub IsCompilableBlock : ℕ → ℕ → Bool → {n : _} → Row_of-Stmt n → Type 0
  IsCompilableBlock globals locals inside end_of-Stmt = Unit {0}
  IsCompilableBlock globals locals inside (more_of-Stmt _ k rest) =
      IsCompilableStmt globals locals inside k × IsCompilableBlock globals locals inside rest

-- where a value is declared it is small
abbrev pub IsSmallValue : Option ℤ → Type 0
IsSmallValue None = Unit {0}
IsSmallValue (Some n) = IsSmall n

-- Every variable of the program is declared, every declared value and number of a sum is small, no relation that holds
-- at the start has the sign `!=`, and no `while` stands in an atomic block.
pub record IsCompilable (p : Program) : Type 0 where
  pub values : AllByRecursion (λ (d : GlobalDecl). IsSmallValue d.value) p.globals
  pub inits : AllByRecursion (IsCompilableRelation (length p.globals) (length p.locals)) p.inits
  pub signs : NoneIsNotEqual p.inits
  pub body : AllByRecursion (λ (s : Stmt). IsCompilableStmt (length p.globals) (length p.locals) false s.kind) p.body
