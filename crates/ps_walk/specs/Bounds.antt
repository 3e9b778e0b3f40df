-- How rows bound a variable, at values of the other ones.
use Rattle.std.specs.Prelude.{◌≢◌, ◌↔◌, ◌≤◌, ℤ, pos, ◌≤ℤ◌, ◌<ℤ◌, List, All, unsigned_abs, FitsSigned}
use Rattle.std.specs.Int.{w128}
use Rattle.ps_term.specs.declared.row.Row.{Row}
use Rattle.ps_term.specs.declared.var.Var.{Var}
use Rattle.ps_term.specs.Pairs.{coefficient}
use Rattle.ps_term.specs.Row.{Holds}
use Rattle.ps_term.specs.Evaluation.{EvaluationFitsFrom}
use Rattle.ps_walk.specs.Values.{with_number, without}

-- the row holds where the variable x is n
abbrev pub HoldsWith : (Var → ℤ) → Var → Row → ℤ → Type 0
HoldsWith values x r n = Holds (with_number x n values) r

-- the rows with a negative coefficient, which bound the variable from below, hold where it is n
abbrev pub LowerRowsHold : (Var → ℤ) → Var → List Row → ℤ → Type 0
LowerRowsHold values x rows n = All (λ r. coefficient x r.term.pairs <ℤ pos 0 → HoldsWith values x r n) rows

-- the rows with a positive coefficient, which bound the variable from above, hold where it is n
abbrev pub UpperRowsHold : (Var → ℤ) → Var → List Row → ℤ → Type 0
UpperRowsHold values x rows n = All (λ r. pos 0 <ℤ coefficient x r.term.pairs → HoldsWith values x r n) rows

-- the rows of both kinds hold where the variable is n
abbrev pub Allows : (Var → ℤ) → Var → List Row → ℤ → Type 0
Allows values x rows n = LowerRowsHold values x rows n × UpperRowsHold values x rows n

-- the lower bound that the rows give, and the upper one
abbrev pub IsLower : (Var → ℤ) → Var → List Row → ℤ → Type 0
IsLower values x rows lower = (n : ℤ) → LowerRowsHold values x rows n ↔ (lower ≤ℤ n)

abbrev pub IsUpper : (Var → ℤ) → Var → List Row → ℤ → Type 0
IsUpper values x rows upper = (n : ℤ) → UpperRowsHold values x rows n ↔ (n ≤ℤ upper)

-- of the numbers that are allowed the one that is nearest to 0
pub record IsNearest (allowed : ℤ → Type 0) (n : ℤ) : Type 0 where
  pub allows : allowed n
  pub nearest : (m : ℤ) → allowed m → unsigned_abs n ≤ unsigned_abs m

-- at the values of the other variables the row is evaluated, and bounds the variable, within 128 bits
pub record BoundFits (values : Var → ℤ) (x : Var) (r : Row) : Type 0 where
  pub sum : EvaluationFitsFrom values (pos 0) (without x r.term.pairs) r.term.constant
  pub lower : (b : ℤ) → ((n : ℤ) → HoldsWith values x r n ↔ (b ≤ℤ n)) → FitsSigned w128 b
  pub upper : (b : ℤ) → ((n : ℤ) → HoldsWith values x r n ↔ (n ≤ℤ b)) → FitsSigned w128 b

-- so is, and so does, each row that has the variable
abbrev pub StageFits : (Var → ℤ) → Var → List Row → Type 0
StageFits values x rows = All (λ r. coefficient x r.term.pairs ≢ pos 0 → BoundFits values x r) rows
