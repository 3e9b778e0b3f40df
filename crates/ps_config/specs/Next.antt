-- The next of some numbers.
use Rattle.std.specs.Prelude.{ℕ, ◌<◌, ◌≤◌, List, Contains, Option, Some, None}

-- the least of the numbers from this one on; none where all are below it
abbrev pub IsNextThread : List ℕ → ℕ → Option ℕ → Type 0
IsNextThread xs from None = (n : ℕ) → Contains xs n → n < from
IsNextThread xs from (Some m) = Contains xs m × (from ≤ m) × ((n : ℕ) → Contains xs n → from ≤ n → m ≤ n)
