-- What a sink over memory holds, and which of its calls fail.
use Rattle.std.specs.Prelude.{ℕ, ◌+◌, ◌<◌, ◌⊎◌, min, List, length}
use Rattle.ps_io.specs.SourceState.{IsListedCall}

-- the bytes that were written, how many there may be, how many a call takes at most, the calls that fail
-- (counted from 1), how many calls there were, and how many of them failed
pub record SinkState : Type 0 where
  pub written : List ℕ
  pub room : ℕ
  pub piece : ℕ
  pub failing : List ℕ
  pub calls : ℕ
  pub faults : ℕ

-- the next put of this many bytes is a listed call, or what it would take doesn't fit the room
abbrev pub PutFails : SinkState → ℕ → Type 0
PutFails sink len = IsListedCall sink.failing sink.calls ⊎ (sink.room < length sink.written + min sink.piece len)
