-- The least vector whose row can't hold.
use Rattle.std.specs.Prelude.{◌≤ℤ◌, pos, IsTrue, List, All, Contains, Option, Some, None, if◌then◌else◌}
use Rattle.ps_elim.specs.Supports.{is_less}
use Rattle.ps_elim.specs.declared.weighted.Weighted.{Weighted}

-- the constant of the row is positive
abbrev pub IsPositive : Weighted → Type 0
IsPositive w = pos 1 ≤ℤ w.row.term.constant

-- one of the list with a positive constant, and of those none is lexicographically less
pub record IsLeastAmong (ws : List Weighted) (best : Weighted) : Type 0 where
  pub is_in : Contains ws best
  pub positive : IsPositive best
  pub least : All (λ w. IsPositive w → ¬ IsTrue (is_less w.vector best.vector)) ws

-- the lesser one, and of two that are alike the first
abbrev pub lesser_vector : Option Weighted → Weighted → Weighted
lesser_vector None w = w
lesser_vector (Some best) w = if is_less w.vector best.vector then w else best
