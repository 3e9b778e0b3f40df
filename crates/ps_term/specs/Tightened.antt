-- Rows divided by what their coefficients have in common.
use Rattle.std.specs.Prelude.{◌≡◌, ℕ, pos, ◌*ℤ◌, ◌≤◌}
use Rattle.ps_term.specs.declared.row.Row.{Row}
use Rattle.ps_term.specs.declared.var.Var.{Var}
use Rattle.ps_term.specs.Factors.{DividesAll}
use Rattle.ps_term.specs.Pairs.{coefficient}
use Rattle.ps_term.specs.Whole.{IsCeiling}

-- the coefficients are divided by a factor, so that no number but 1 divides all the new ones, and the
-- constant is divided by it and rounded up
pub record IsTightened (old new : Row) : Type 0 where
  pub factor : ℕ
  pub positive : 1 ≤ factor
  pub coefficients : (x : Var) → coefficient x old.term.pairs ≡ (pos factor *ℤ coefficient x new.term.pairs)
  pub coprime : (d : ℕ) → DividesAll d new.term.pairs → d ≡ 1
  pub constant : IsCeiling old.term.constant (pos factor) new.term.constant
