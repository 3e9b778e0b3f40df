-- Rows at values of the variables.
use Rattle.std.specs.Prelude.{◌≡◌, ◌<ℤ◌, ℕ, ℤ, pos, List, ◌∷◌, ◌++◌, All, length}
use Rattle.ps_term.specs.declared.row.Row.{Row}
use Rattle.ps_term.specs.declared.var.Var.{Var}
use Rattle.ps_term.specs.Row.{Holds}
use Rattle.ps_term.specs.Term.{value}
use Rattle.ps_term.specs.Evaluation.{EvaluationFits}

-- the row is evaluated within 128 bits
abbrev pub IsEvaluated : (Var → ℤ) → Row → Type 0
IsEvaluated values r = EvaluationFits values r.term

-- the row is evaluated, and holds
abbrev pub PassesRow : (Var → ℤ) → Row → Type 0
PassesRow values r = IsEvaluated values r × Holds values r

-- of the row with this number this is so, and those before it pass
pub record FirstAt (reason : (Var → ℤ) → Row → Type 0) (values : Var → ℤ) (rows : List Row) (number : ℕ) : Type 0 where
  pub before : List Row
  pub here : Row
  pub after : List Row
  pub is : rows ≡ before ++ here ∷ after
  pub number_is : number ≡ length before
  pub passed : All (PassesRow values) before
  pub stops : reason values here

-- the row is evaluated, and doesn't hold
abbrev pub Fails : (Var → ℤ) → Row → Type 0
Fails values r = IsEvaluated values r × (pos 0 <ℤ value values r.term)

-- the row isn't evaluated within 128 bits
abbrev pub IsPast : (Var → ℤ) → Row → Type 0
IsPast values r = ¬ IsEvaluated values r
