-- The weights with which two rows are added.
use Rattle.std.specs.Prelude.{◌≡◌, ◌/◌, ℕ, unsigned_abs}
use Rattle.ps_elim.specs.Combining.{WeightedFits}
use Rattle.ps_elim.specs.Divisors.{common_divisor}
use Rattle.ps_elim.specs.declared.pair.Weights.{Weights}
use Rattle.ps_term.specs.Pairs.{coefficient}
use Rattle.ps_term.specs.declared.row.Row.{Row}
use Rattle.ps_term.specs.declared.term.Term.{Term}
use Rattle.ps_term.specs.declared.var.Var.{Var}

-- the coefficient of the row, without sign
abbrev pub size_in : Var → Row → ℕ
size_in x r = unsigned_abs (coefficient x r.term.pairs)

-- the least weights with which the coefficients of two rows have one size
pub record AreWeights (x : Var) (p q : Row) (weights : Weights) : Type 0 where
  pub first : weights.first ≡ size_in x q / common_divisor (size_in x p) (size_in x q)
  pub second : weights.second ≡ size_in x p / common_divisor (size_in x q) (size_in x p)

-- in the weighted sum of two terms each product and sum stays within 128 bits
abbrev pub TermsFit : ℕ → Term → ℕ → Term → Type 0
TermsFit m p n q =
    ((x : Var) → WeightedFits m (coefficient x p.pairs) n (coefficient x q.pairs)) × WeightedFits m p.constant n q.constant
