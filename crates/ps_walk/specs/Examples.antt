-- Worked examples: values, bounds and walks.
use Rattle.std.specs.Prelude.{◌≡◌, ◌≤ℤ◌, ◌-◌, ◌^◌, ℕ, ℤ, pos, negsuc, List, [], ◌∷◌}
use Rattle.ps_elim.specs.declared.stage.Stage.{Stage}
use Rattle.ps_term.specs.declared.row.Row.{Row}
use Rattle.ps_term.specs.declared.var.Var.{Var}
use Rattle.ps_term.specs.declared.var.Var.TheVariants.{Global}
use Rattle.ps_walk.specs.Answer.{IsWalk}
use Rattle.ps_walk.specs.Bounds.{IsLower, IsNearest, BoundFits}
use Rattle.ps_walk.specs.Values.{value_found, without}
use Rattle.ps_walk.specs.declared.answer.Walk.TheVariants.{Values, NoInteger, Misses, Past128}

-- the row of these pairs and this constant
abbrev pub row_of : List (Var × ℤ) → ℤ → Row
row_of pairs constant = record { term = record { pairs = pairs; constant = constant } }

-- the stage of a variable with these vectors and rows
abbrev pub stage_of : Var → List (List ℕ) → List Row → Stage
stage_of x vectors rows = record { variable = x; vectors = vectors; rows = rows }

-- -g0 + 6 <= 0, so g0 is at least 6
abbrev pub from_6 : Row
from_6 = row_of ((Global 0, negsuc 0) ∷ []) (pos 6)

-- g0 - 2^127 <= 0, so g0 is at most 2^127
abbrev pub far : Row
far = row_of ((Global 0, pos 1) ∷ []) (negsuc (2 ^ 127 - 1))

-- 2*g0 - 3*g1 - 1 <= 0 and -2*g0 + 3*g1 + 1 <= 0
abbrev pub below : Row
below = row_of ((Global 0, pos 2) ∷ (Global 1, negsuc 2) ∷ []) (negsuc 0)

abbrev pub over : Row
over = row_of ((Global 0, negsuc 1) ∷ (Global 1, pos 3) ∷ []) (pos 1)

-- 0 <= 0, and 1 <= 0
abbrev pub zero_row : Row
zero_row = row_of [] (pos 0)

abbrev pub one_row : Row
one_row = row_of [] (pos 1)

-- the two rows and 0 <= 0, and the stages of their elimination
abbrev pub three : List Row
three = below ∷ over ∷ zero_row ∷ []

abbrev pub first_of_three : Stage
first_of_three = stage_of (Global 0) ((1 ∷ 0 ∷ 0 ∷ []) ∷ (0 ∷ 1 ∷ 0 ∷ []) ∷ (0 ∷ 0 ∷ 1 ∷ []) ∷ []) three

abbrev pub second_of_three : Stage
second_of_three = stage_of (Global 1) ((0 ∷ 0 ∷ 1 ∷ []) ∷ (1 ∷ 1 ∷ 0 ∷ []) ∷ []) (zero_row ∷ zero_row ∷ [])

-- a list gives a variable its value, and 0 to one that it lacks
abbrev pub ValuesAreTaken : Type 0
ValuesAreTaken =
    (value_found ((Global 0, pos 6) ∷ (Global 1, pos 2) ∷ []) (Global 1) ≡ pos 2)
    × (value_found ((Global 0, pos 6) ∷ []) (Global 1) ≡ pos 0)

-- without g0 the pair of g1 is left
abbrev pub OthersAreLeft : Type 0
OthersAreLeft = without (Global 0) ((Global 0, pos 2) ∷ (Global 1, pos 3) ∷ []) ≡ (Global 1, pos 3) ∷ []

-- the first row alone gives the lower bound 6
abbrev pub SixIsLower : Type 0
SixIsLower = (values : Var → ℤ) → IsLower values (Global 0) (from_6 ∷ []) (pos 6)

-- of the numbers from 6 on, 6 is nearest to 0
abbrev pub SixIsNearest : Type 0
SixIsNearest = IsNearest (λ n. pos 6 ≤ℤ n) (pos 6)

-- the bound 2^127 is past 128 bits
abbrev pub FarIsPast : Type 0
FarIsPast = (values : Var → ℤ) → ¬ BoundFits values (Global 0) far

-- no rows and no stages: no values
abbrev pub NothingIsWalked : Type 0
NothingIsWalked = IsWalk [] [] (Values [])

-- the first row alone gives g0 the value 6
abbrev pub SixIsFound : Type 0
SixIsFound = IsWalk (from_6 ∷ []) (stage_of (Global 0) ((1 ∷ []) ∷ []) (from_6 ∷ []) ∷ []) (Values ((Global 0, pos 6) ∷ []))

-- g1 is bounded by no row, so it is 0, and then 2*g0 is at least 1 and at most 1
abbrev pub NoneIsBetween : Type 0
NoneIsBetween = IsWalk three (first_of_three ∷ second_of_three ∷ []) (NoInteger (Global 0) (pos 1) (pos 0))

-- without stages 1 <= 0 is the first given row that doesn't hold
abbrev pub SecondIsMissed : Type 0
SecondIsMissed = IsWalk (zero_row ∷ one_row ∷ []) [] (Misses 1)

-- a stage whose bound is past 128 bits ends the walk
abbrev pub FarEndsWalk : Type 0
FarEndsWalk = IsWalk (far ∷ []) (stage_of (Global 0) ((1 ∷ []) ∷ []) (far ∷ []) ∷ []) Past128
