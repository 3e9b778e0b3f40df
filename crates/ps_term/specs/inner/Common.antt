-- What the coefficients of pairs have in common.
use Rattle.std.specs.Prelude.{ℕ, ℤ, List}
use Rattle.std.specs.Int.{◌∣◌}
use Rattle.ps_term.specs.declared.var.Var.{Var}
use Rattle.ps_term.specs.Factors.{DividesAll}

-- the number divides each coefficient, and each number that does divides it
pub record IsCommonFactor (ps : List (Var × ℤ)) (factor : ℕ) : Type 0 where
  pub divides : DividesAll factor ps
  pub greatest : (d : ℕ) → DividesAll d ps → d ∣ factor
