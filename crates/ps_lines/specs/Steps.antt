-- Readings from a state, with the first fault that is met: of the lines of a text, and of the words of a program.
use Rattle.std.specs.Prelude.{Result, Ok, Err}

-- A reading gives what it read and the state after it, or a fault.
abbrev pub Reading : Type 0 → Type 0 → Type 0 → Type 0
Reading S F A = S → Result (A × S) F

-- One reading, and then another from its value.
infixl 10 ◌>>=◌
unfoldable pub and_then : {F A B : Type 0} → Result A F → (A → Result B F) → Result B F
and_then (Ok x) f = f x
and_then (Err e) f = Err e

-- The same, between the lines of a `do`.
abbrev pub ◌>>=◌ : {F A B : Type 0} → Result A F → (A → Result B F) → Result B F
r >>= f = and_then r f
