-- Lists that end in zeros.
use Rattle.std.specs.Prelude.{◌≡◌, ℕ, ◌≤◌, List, slice_index}

-- the numbers from this place on are 0
abbrev pub AreZeroFrom : ℕ → List ℕ → Type 0
AreZeroFrom place numbers = (k : ℕ) → place ≤ k → slice_index numbers k ≡ 0
