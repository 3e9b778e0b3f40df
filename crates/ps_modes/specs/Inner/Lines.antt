-- Numbers of lines that 32 bits hold.
use Rattle.std.specs.Prelude.{ℕ, ◌+◌, ◌<◌, ◌≤◌, ◌^◌, List, length}

-- a text that begins at the line of this number, from 1, ends below line 2^32
abbrev pub HasRoom : List ℕ → ℕ → Type 0
HasRoom text line = (1 ≤ line) × (line + length text < 2 ^ 32)
