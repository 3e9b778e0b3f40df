-- How many bytes came from a source, and how many went into a sink.
use Rattle.std.specs.Prelude.{ℕ, ◌<◌, ◌≤◌, List, length, take, Option}
use Rattle.std.specs.Io.KnownBytes.{Appends, Consumes}

-- the source gave at most this many bytes
abbrev pub GaveAtMost : ℕ → Option (List ℕ) → Option (List ℕ) → Type 0
GaveAtMost most old new = (given : List ℕ) × Consumes old new given × (length given ≤ most)

-- the source gave more bytes than this
abbrev pub GaveMore : ℕ → Option (List ℕ) → Option (List ℕ) → Type 0
GaveMore most old new = (given : List ℕ) × Consumes old new given × (most < length given)

-- the sink took some first bytes of the text, and not all
abbrev pub TookPrefix : Option (List ℕ) → Option (List ℕ) → List ℕ → Type 0
TookPrefix old new text = (n : ℕ) × (n < length text) × Appends old new (take n text)
