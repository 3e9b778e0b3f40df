-- The answer of a walk.
use Rattle.std.specs.Prelude.{◌≡◌, ◌<ℤ◌, ◌⊎◌, ℕ, ℤ, List, All}
use Rattle.ps_elim.specs.declared.stage.Stage.{Stage}
use Rattle.ps_term.specs.declared.row.Row.{Row}
use Rattle.ps_term.specs.declared.var.Var.{Var}
use Rattle.ps_walk.specs.Bounds.{IsLower, IsUpper, StageFits}
use Rattle.ps_walk.specs.Values.{value_found}
use Rattle.ps_walk.specs.Rows.{Fails, FirstAt, IsPast, PassesRow}
use Rattle.ps_walk.specs.Walking.{AreFound, WalkStopsAt}
use Rattle.ps_walk.specs.declared.answer.Walk.{Walk}
use Rattle.ps_walk.specs.declared.answer.Walk.TheVariants.{Values, NoInteger, Misses, Past128}

-- at the stage, which fits, the variable has these bounds, and they allow no number
pub record AllowsNone (x : Var) (lower upper : ℤ) (later : List (Var × ℤ)) (s : Stage) : Type 0 where
  pub variable : x ≡ s.variable
  pub fits : StageFits (value_found later) x s.rows
  pub is_lower : IsLower (value_found later) x s.rows lower
  pub is_upper : IsUpper (value_found later) x s.rows upper
  pub apart : upper <ℤ lower

-- the stage doesn't fit
abbrev pub StagePast : List (Var × ℤ) → Stage → Type 0
StagePast later s = ¬ StageFits (value_found later) s.variable s.rows

-- the walk comes to its end, and there to the row with this number, of which this is so
abbrev pub EndsAt : ((Var → ℤ) → Row → Type 0) → List Row → List Stage → ℕ → Type 0
EndsAt reason rows stages number =
    (values : List (Var × ℤ)) × AreFound stages values × FirstAt reason (value_found values) rows number

-- the answer to these rows and stages
abbrev pub IsWalk : List Row → List Stage → Walk → Type 0
IsWalk rows stages (Values values) = AreFound stages values × All (PassesRow (value_found values)) rows
IsWalk rows stages (NoInteger x lower upper) = WalkStopsAt (AllowsNone x lower upper) stages
IsWalk rows stages (Misses row) = EndsAt Fails rows stages row
IsWalk rows stages Past128 = WalkStopsAt StagePast stages ⊎ ((n : ℕ) × EndsAt IsPast rows stages n)

-- where the answer is a list of values, this holds of it
abbrev pub OnValues : Walk → (List (Var × ℤ) → Type 0) → Type 0
OnValues (Values values) fact = fact values
OnValues (NoInteger x lower upper) fact = Unit {0}
OnValues (Misses row) fact = Unit {0}
OnValues Past128 fact = Unit {0}
