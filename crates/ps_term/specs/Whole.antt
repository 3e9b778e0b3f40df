-- Division that rounds up.
use Rattle.std.specs.Prelude.{ℤ, ◌*ℤ◌, ◌≤ℤ◌}

-- the least number whose `divisor`-fold is at least `n`
pub record IsCeiling (n divisor quotient : ℤ) : Type 0 where
  pub reaches : n ≤ℤ (divisor *ℤ quotient)
  pub least : (m : ℤ) → n ≤ℤ (divisor *ℤ m) → quotient ≤ℤ m
