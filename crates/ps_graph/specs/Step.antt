-- One step of a thread, read on the syntax tree.
use Rattle.std.specs.Prelude.{ℤ, pos, Bool, true, false, List, [], ◌∷◌, ◌++◌, Option, Some, None, if◌then◌else◌}
use Rattle.std.specs.Ordering.{int_eq}
use Rattle.ps_command.specs.Values.{Values, value_at, with_value}
use Rattle.ps_tree.specs.Cond.{truth}
use Rattle.ps_tree.specs.Sum.{sum_value}
use Rattle.ps_tree.specs.declared.cond.Test.{Test}
use Rattle.ps_tree.specs.declared.cond.Test.TheVariants.{Star, Cond}
use Rattle.ps_tree.specs.declared.stmt.Stmt.{Stmt}
use Rattle.ps_tree.specs.declared.stmt.StmtKind.{StmtKind, Assign, Havoc, Assume, Assert, Skip, Atomic', If', While', Row_of-Stmt, end_of-Stmt, more_of-Stmt, items-the_row-Stmt}

-- How statements that are run in one go end: normally, with values and the choices that are left, by an assertion that
-- fails, with the same, or not at all, where an `assume` blocks them.
pub data Completion : Type 0 where
  Normal : Values → List ℤ → Completion
  Failing : Values → List ℤ → Completion
  Blocked : Completion

-- Whether a test holds, and the choices that are left: a condition by its truth, `*` by its choice, 1 or 0.
abbrev pub decided : Test → Values → List ℤ → Option (Bool × List ℤ)
decided (Cond c) v cs = Some (truth (value_at v) c, cs)
decided Star v [] = None
decided Star v (c ∷ cs) = if int_eq c (pos 1) then Some (true, cs) else if int_eq c (pos 0) then Some (false, cs) else None

-- one run after another
abbrev pub then_do : Completion → (Values → List ℤ → Completion) → Completion
then_do (Normal v cs) next = next v cs
then_do (Failing v cs) next = Failing v cs
then_do Blocked next = Blocked

-- the one run where the test holds, the other where it doesn't
abbrev pub branch : Option (Bool × List ℤ) → (List ℤ → Completion) → (List ℤ → Completion) → Completion
branch None held failed = Blocked
branch (Some (true, cs)) held failed = held cs
branch (Some (false, cs)) held failed = failed cs

-- A statement, and a block, run in one go from values with choices. A loop has no such run.
abbrev mutual
  pub step_within : StmtKind → Values → List ℤ → Completion
  step_within (Assign x s) v cs = Normal (with_value v x (sum_value (value_at v) s)) cs
  step_within (Havoc x) v [] = Blocked
  step_within (Havoc x) v (c ∷ cs) = Normal (with_value v x c) cs
  step_within (Assume c) v cs = if truth (value_at v) c then Normal v cs else Blocked
  step_within (Assert c) v cs = if truth (value_at v) c then Normal v cs else Failing v cs
  step_within Skip v cs = Normal v cs
  step_within (Atomic' _ block) v cs = within_all block v cs
  step_within (If' t _ held _ failed) v cs = branch (decided t v cs) (within_all held v) (within_all failed v)
  step_within (While' _ _ _) v cs = Blocked

  pub within_all : {n : _} → Row_of-Stmt n → Values → List ℤ → Completion
  within_all end_of-Stmt v cs = Normal v cs
  within_all (more_of-Stmt _ k rest) v cs = then_do (step_within k v cs) (within_all rest)

-- a thread: the statements that it still has to run, or Failed
pub data Thread : Type 0 where
  Runs : List Stmt → Thread
  Failed : Thread

-- what a run in one go makes of the thread, where no choice is left; the rest is what comes after it
abbrev pub completed : List Stmt → Completion → Option (Values × Thread)
completed rest (Normal v []) = Some (v, Runs rest)
completed rest (Failing v []) = Some (v, Failed)
completed rest _ = None

-- the one list of statements where the test holds, the other where it doesn't, where no choice is left
abbrev pub chosen : Option (Bool × List ℤ) → List Stmt → List Stmt → Values → Option (Values × Thread)
chosen (Some (true, [])) held failed v = Some (v, Runs held)
chosen (Some (false, [])) held failed v = Some (v, Runs failed)
chosen _ held failed v = None

-- The step of a statement of this kind, before a rest: `if` puts the chosen block before the rest, `while` puts its
-- block and itself before it or goes on, and any other statement is run in one go.
abbrev pub step_of : Stmt → StmtKind → List Stmt → Values → List ℤ → Option (Values × Thread)
step_of s (If' t _ held _ failed) rest v cs =
    chosen (decided t v cs) (items-the_row-Stmt _ held ++ rest) (items-the_row-Stmt _ failed ++ rest) v
step_of s (While' t _ block) rest v cs = chosen (decided t v cs) (items-the_row-Stmt _ block ++ s ∷ rest) rest v
step_of s k rest v cs = completed rest (step_within k v cs)

-- One step of a thread from values, with a list of choices that it uses up exactly: its first statement is run. A
-- thread that is Failed or has nothing left to run has no step.
abbrev pub step : Thread → Values → List ℤ → Option (Values × Thread)
step (Runs (s ∷ rest)) v cs = step_of s s.kind rest v cs
step _ v cs = None
