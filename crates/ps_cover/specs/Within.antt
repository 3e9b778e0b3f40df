-- How often numbers stand in lists.
use Rattle.std.specs.Prelude.{ℕ, ◌≤◌, ◌==◌, List, filter, length}

-- how often the number stands in the list
abbrev pub times : ℕ → List ℕ → ℕ
times number numbers = length (filter (λ n. n == number) numbers)

-- each number stands in the first list at most as often as in the second
abbrev pub IsWithinList : List ℕ → List ℕ → Type 0
IsWithinList small large = (n : ℕ) → times n small ≤ times n large
