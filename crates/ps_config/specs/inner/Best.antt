-- The best of some numbers so far.
use Rattle.std.specs.Prelude.{ℕ, Option, Some, None, min, nat_lt, if◌then◌else◌}

-- the least of two, where there are such
abbrev pub least_of : Option ℕ → Option ℕ → Option ℕ
least_of None b = b
least_of (Some a) None = Some a
least_of (Some a) (Some b) = Some (min a b)

-- the best so far, or one more number that is not below the bound
abbrev pub better_of : Option ℕ → ℕ → ℕ → Option ℕ
better_of best number from = if nat_lt number from then best else least_of best (Some number)
