-- What a source over memory holds, and which of its calls fail.
use Rattle.std.specs.Prelude.{ℕ, ◌+◌, ◌-◌, ◌^◌, ◌<◌, Bool, List, Contains}

-- the bytes that are left, how many a call gives at most, the calls that fail (counted from 1),
-- how many calls there were, how many of them failed, and whether the last one did
pub record SourceState : Type 0 where
  pub left : List ℕ
  pub piece : ℕ
  pub failing : List ℕ
  pub calls : ℕ
  pub faults : ℕ
  pub failed : Bool

-- the call after this many is one of the listed ones; at the last value of the counter, where it stays, no call is
abbrev pub IsListedCall : List ℕ → ℕ → Type 0
IsListedCall failing calls = (calls < 2 ^ 64 - 1) × Contains failing (calls + 1)
