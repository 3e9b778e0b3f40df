-- Vectors of multipliers, with one entry for each row, and the row that a vector makes.
use Rattle.std.specs.Prelude.{◌≡◌, ℕ, zero, suc, ℤ, List, [], ◌∷◌, map, replicate}
use Rattle.std.specs.List.{AllZip}
use Rattle.ps_farkas.specs.Refutes.{weighted}
use Rattle.ps_term.specs.Pairs.{coefficient}
use Rattle.ps_term.specs.declared.row.Row.{Row}
use Rattle.ps_term.specs.declared.var.Var.{Var}

-- for each of so many places, the vector with 1 there and 0 elsewhere
abbrev pub units : ℕ → List (List ℕ)
units zero = []
units (suc n) = (1 ∷ replicate n 0) ∷ map (λ v. 0 ∷ v) (units n)

-- the coefficient of a variable in the sum of the rows, weighted by the vector
abbrev pub coefficient_under : List Row → Var → List ℕ → ℤ
coefficient_under rows x v = weighted (λ t. coefficient x t.pairs) rows v

-- the constant of that sum
abbrev pub constant_under : List Row → List ℕ → ℤ
constant_under rows v = weighted (λ t. t.constant) rows v

-- the row is the weighted sum
pub record IsSum (rows : List Row) (v : List ℕ) (sum : Row) : Type 0 where
  pub coefficients : (x : Var) → coefficient x sum.term.pairs ≡ coefficient_under rows x v
  pub constant : sum.term.constant ≡ constant_under rows v

-- each row is that of the vector at its place
abbrev pub AreSums : List Row → List (List ℕ) → List Row → Type 0
AreSums rows = AllZip (IsSum rows)
