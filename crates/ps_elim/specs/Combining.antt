-- One variable is eliminated from a set of vectors.
use Rattle.std.specs.Prelude.{ℕ, ℤ, pos, ◌+◌, ◌*◌, ◌/◌, ◌*ℤ◌, List, [], ◌∷◌, ◌++◌, All, length, map, int_lt, unsigned_abs, FitsSigned}
use Rattle.std.specs.Int.{w128}
use Rattle.std.specs.List.{AllZip, filter}
use Rattle.std.specs.Ordering.{int_eq}
use Rattle.ps_elim.specs.Divisors.{common_divisor, reduced}
use Rattle.ps_elim.specs.Supports.{kept}
use Rattle.ps_elim.specs.Vectors.{coefficient_under, constant_under}
use Rattle.ps_term.specs.Sums.{ScaledFits}
use Rattle.ps_term.specs.declared.row.Row.{Row}
use Rattle.ps_term.specs.declared.var.Var.{Var}

-- the vectors under which the variable vanishes, and those that give it a positive and a negative coefficient
abbrev pub zeros : List Row → Var → List (List ℕ) → List (List ℕ)
zeros rows x = filter (λ v. int_eq (coefficient_under rows x v) (pos 0))

abbrev pub positives : List Row → Var → List (List ℕ) → List (List ℕ)
positives rows x = filter (λ v. int_lt (pos 0) (coefficient_under rows x v))

abbrev pub negatives : List Row → Var → List (List ℕ) → List (List ℕ)
negatives rows x = filter (λ v. int_lt (coefficient_under rows x v) (pos 0))

-- how many vectors are made: those of zero, and one for each pair of a positive and a negative one
abbrev pub width : List Row → Var → List (List ℕ) → ℕ
width rows x vs = length (zeros rows x vs) + (length (positives rows x vs) * length (negatives rows x vs))

-- the coefficient that the vector gives, without sign
abbrev pub size_under : List Row → Var → List ℕ → ℕ
size_under rows x v = unsigned_abs (coefficient_under rows x v)

-- the least weight of the first vector with which the variable vanishes beside the second
abbrev pub weight : List Row → Var → List ℕ → List ℕ → ℕ
weight rows x p q = size_under rows x q / common_divisor (size_under rows x p) (size_under rows x q)

-- the sum of two vectors with a weight each, entry by entry
abbrev pub weighted_entries : ℕ → List ℕ → ℕ → List ℕ → List ℕ
weighted_entries m (i ∷ p) n (j ∷ q) = ((m * i) + (n * j)) ∷ weighted_entries m p n q
weighted_entries m [] n q = []
weighted_entries m (i ∷ p) n [] = []

-- the vector of a pair: the sum in which the variable vanishes, divided by what its entries have in common
abbrev pub combined : List Row → Var → List ℕ → List ℕ → List ℕ
combined rows x p q = reduced (weighted_entries (weight rows x p q) p (weight rows x q p) q)

-- the vectors of all pairs: for each of the first ones, each of the second
abbrev pub all_combined : List Row → Var → List (List ℕ) → List (List ℕ) → List (List ℕ)
all_combined rows x [] qs = []
all_combined rows x (p ∷ ps) qs = map (combined rows x p) qs ++ all_combined rows x ps qs

-- the set that comes next: the vectors of zero and those of all pairs, of which the ones with least supports stay
abbrev pub eliminated : List Row → Var → List (List ℕ) → List (List ℕ)
eliminated rows x vs = kept (zeros rows x vs ++ all_combined rows x (positives rows x vs) (negatives rows x vs))

-- in `m * i + n * j` both products and the sum fit
abbrev pub WeightedFits : ℕ → ℤ → ℕ → ℤ → Type 0
WeightedFits m i n j = FitsSigned w128 (pos m *ℤ i) × ScaledFits (pos m *ℤ i) (pos n) j

-- before its entries are divided, a pair's vector and its row stay within 128 bits
pub record CombinationFits (rows : List Row) (x : Var) (p q : List ℕ) : Type 0 where
  pub entries : AllZip (λ i j. WeightedFits (weight rows x p q) (pos i) (weight rows x q p) (pos j)) p q
  pub coefficients : (y : Var) → WeightedFits (weight rows x p q) (coefficient_under rows y p) (weight rows x q p) (coefficient_under rows y q)
  pub constant : WeightedFits (weight rows x p q) (constant_under rows p) (weight rows x q p) (constant_under rows q)

-- all pairs do
abbrev pub AllFit : List Row → Var → List (List ℕ) → Type 0
AllFit rows x vs = All (λ p. All (CombinationFits rows x p) (negatives rows x vs)) (positives rows x vs)
