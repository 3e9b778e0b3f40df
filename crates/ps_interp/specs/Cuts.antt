-- The cuts of a trace: cut i is before letter i, and the last one after all letters.
use Rattle.std.specs.Prelude.{◌≡◌, ℕ, ◌-◌, ◌<◌, ◌≤◌, ◌⊎◌, pos, ◌≤ℤ◌, List, [], map, reverse, slice_index_or}
use Rattle.std.specs.List.{range_with_len}
use Rattle.ps_interp.specs.Sums.{Weighed}
use Rattle.ps_term.specs.Exact.{number_term}
use Rattle.ps_term.specs.declared.term.Term.{Term}

-- the sum at a cut
abbrev pub sum_at : List Weighed → ℕ → Term
sum_at letters cut = slice_index_or (map (λ (w : Weighed). w.before) letters) cut (number_term (pos 0))

-- a cut with this sum is false: nothing can be true there
abbrev pub IsFalseSum : Term → Type 0
IsFalseSum sum = (sum.pairs ≡ []) × (sum.constant ≤ℤ pos 0)

-- it is trivial: the letters after it can't run, whatever the values are
abbrev pub IsTrivialSum : Term → Type 0
IsTrivialSum sum = (sum.pairs ≡ []) × (pos 1 ≤ℤ sum.constant)

-- the least false cut, and the greatest trivial one below it, or 0 where there is none
pub record AreBounds (letters : List Weighed) (low high : ℕ) : Type 0 where
  pub within : low ≤ high
  pub ends : IsFalseSum (sum_at letters high)
  pub least : (cut : ℕ) → cut < high → ¬ IsFalseSum (sum_at letters cut)
  pub starts : (low ≡ 0) ⊎ ((low < high) × IsTrivialSum (sum_at letters low))
  pub greatest : (cut : ℕ) → low < cut → cut < high → ¬ IsTrivialSum (sum_at letters cut)

-- the cuts from one up to below another, in descending order
abbrev pub cuts_down : ℕ → ℕ → List ℕ
cuts_down low high = reverse (range_with_len low (high - low))
