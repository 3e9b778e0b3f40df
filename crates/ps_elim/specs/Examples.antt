-- Worked examples: sets of vectors, and answers.
use Rattle.std.specs.Prelude.{◌≡◌, ◌-◌, ◌^◌, ℕ, ℤ, pos, negsuc, List, [], ◌∷◌, ◌++◌, replicate}
use Rattle.ps_elim.specs.Combining.{all_combined, eliminated, negatives, positives}
use Rattle.ps_elim.specs.Elimination.{IsElimination, last_set}
use Rattle.ps_elim.specs.Stages.{first_set, variables}
use Rattle.ps_elim.specs.declared.answer.Elim.TheVariants.{Refuted, Past128, TooWide}
use Rattle.ps_term.specs.declared.row.Row.{Row}
use Rattle.ps_term.specs.declared.var.Var.{Var}
use Rattle.ps_term.specs.declared.var.Var.TheVariants.{Global}

-- the row of these pairs and this constant
abbrev pub row_of : List (Var × ℤ) → ℤ → Row
row_of pairs constant = record { term = record { pairs = pairs; constant = constant } }

-- g0 + 1 <= 0 and -g0 <= 0
abbrev pub two : List Row
two = row_of ((Global 0, pos 1) ∷ []) (pos 1) ∷ row_of ((Global 0, negsuc 0) ∷ []) (pos 0) ∷ []

-- their sum is 1 <= 0
abbrev pub SumRefutesTwo : Type 0
SumRefutesTwo = IsElimination two (Refuted (1 ∷ 1 ∷ []))

-- 2*g0 - 3*g1 - 1 <= 0, -2*g0 + 3*g1 + 1 <= 0 and 0 <= 0
abbrev pub three : List Row
three =
    row_of ((Global 0, pos 2) ∷ (Global 1, negsuc 2) ∷ []) (negsuc 0)
    ∷ row_of ((Global 0, negsuc 1) ∷ (Global 1, pos 3) ∷ []) (pos 1)
    ∷ row_of [] (pos 0)
    ∷ []

-- g1 vanishes with g0; the vector of coefficient 0 comes first
abbrev pub ZerosComeFirst : Type 0
ZerosComeFirst =
    (variables three ≡ Global 0 ∷ Global 1 ∷ []) × (last_set three ≡ (0 ∷ 0 ∷ 1 ∷ []) ∷ (1 ∷ 1 ∷ 0 ∷ []) ∷ [])

-- g0 + g1, -g0 + g1, g0 - g1 and -g0 - g1: the first with the last, and the second with the third, cancel at once
abbrev pub four : List Row
four =
    row_of ((Global 0, pos 1) ∷ (Global 1, pos 1) ∷ []) (pos 0)
    ∷ row_of ((Global 0, negsuc 0) ∷ (Global 1, pos 1) ∷ []) (pos 0)
    ∷ row_of ((Global 0, pos 1) ∷ (Global 1, negsuc 0) ∷ []) (pos 0)
    ∷ row_of ((Global 0, negsuc 0) ∷ (Global 1, negsuc 0) ∷ []) (pos 0)
    ∷ []

-- the set before g1
abbrev pub before_g1 : List (List ℕ)
before_g1 = eliminated four (Global 0) (first_set four)

-- at g1 the first and the last vector make one whose support strictly contains those of the two between; so it is dropped
abbrev pub WiderIsDropped : Type 0
WiderIsDropped =
    (before_g1 ≡ (1 ∷ 1 ∷ 0 ∷ 0 ∷ []) ∷ (1 ∷ 0 ∷ 0 ∷ 1 ∷ []) ∷ (0 ∷ 1 ∷ 1 ∷ 0 ∷ []) ∷ (0 ∷ 0 ∷ 1 ∷ 1 ∷ []) ∷ [])
    × (all_combined four (Global 1) (positives four (Global 1) before_g1) (negatives four (Global 1) before_g1) ≡ (1 ∷ 1 ∷ 1 ∷ 1 ∷ []) ∷ [])
    × (last_set four ≡ (1 ∷ 0 ∷ 0 ∷ 1 ∷ []) ∷ (0 ∷ 1 ∷ 1 ∷ 0 ∷ []) ∷ [])

-- 46 times g0 <= 0 and 45 times -g0 <= 0
abbrev pub wide : List Row
wide = replicate 46 (row_of ((Global 0, pos 1) ∷ []) (pos 0)) ++ replicate 45 (row_of ((Global 0, negsuc 0) ∷ []) (pos 0))

-- they give 2,070 pairs at the first stage
abbrev pub PairsAreTooMany : Type 0
PairsAreTooMany = IsElimination wide (TooWide 0 2070)

-- the greatest number of 128 bits times g0, and -2 times g0
abbrev pub great : List Row
great = row_of ((Global 0, pos (2 ^ 127 - 1)) ∷ []) (pos 0) ∷ row_of ((Global 0, negsuc 1) ∷ []) (pos 0) ∷ []

-- the product of the great number with 2 leaves 128 bits at the first stage
abbrev pub TwiceIsPast : Type 0
TwiceIsPast = IsElimination great (Past128 0)
