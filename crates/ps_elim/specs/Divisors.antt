-- The greatest common divisor of numbers, and numbers divided by it.
use Rattle.std.specs.Prelude.{ℕ, zero, suc, ◌/◌, ◌%◌, List, [], ◌∷◌, map}

-- by Euclid's divisions, of which at most so many are made
abbrev pub divided_down : ℕ → ℕ → ℕ → ℕ
divided_down zero a b = a
divided_down (suc n) a zero = a
divided_down (suc n) a (suc b) = divided_down n (suc b) (a % suc b)

-- the greatest number that divides both
abbrev pub common_divisor : ℕ → ℕ → ℕ
common_divisor a b = divided_down (suc b) a b

-- the greatest number that divides all
abbrev pub divisor_of_all : List ℕ → ℕ
divisor_of_all [] = 0
divisor_of_all (n ∷ ns) = common_divisor n (divisor_of_all ns)

-- the entries divided by what they have in common
abbrev pub reduced : List ℕ → List ℕ
reduced v = map (λ n. n / divisor_of_all v) v
