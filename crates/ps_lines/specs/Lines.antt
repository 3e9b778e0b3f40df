-- The lines of a text, as the texts of their fields.
use Rattle.std.specs.Prelude.{ℕ, ◌+◌, ◌-◌, ◌≤◌, List, [], ◌∷◌, map, take, drop, All}
use Rattle.ps_lines.specs.declared.span.Span.{Span}
use Rattle.ps_lines.specs.declared.line.Line.{Line}
use Rattle.ps_lines.specs.Tokens.{LinePart, Field, Newline}

-- A field before what it stands before: it is of the first line, or of none where no line ends ahead.
abbrev pub onto_line : List ℕ → List (List (List ℕ)) → List (List (List ℕ))
onto_line field [] = []
onto_line field (line ∷ lines) = (field ∷ line) ∷ lines

-- The ended lines of a text, each as its fields.
abbrev pub lines_of : List LinePart → List (List (List ℕ))
lines_of [] = []
lines_of (Newline ∷ ts) = [] ∷ lines_of ts
lines_of (Field f ∷ ts) = onto_line f (lines_of ts)

-- Lines with their numbers, which count from `first`.
abbrev pub numbered : ℕ → List (List (List ℕ)) → List (ℕ × List (List ℕ))
numbered first [] = []
numbered first (line ∷ lines) = (first, line) ∷ numbered (first + 1) lines

-- What stands at a span.
abbrev pub span_text : List ℕ → Span → List ℕ
span_text bytes span = take (span.end - span.start) (drop span.start bytes)

-- A line's number, and the texts of its fields.
abbrev pub numbered_fields : List ℕ → Line → ℕ × List (List ℕ)
numbered_fields bytes line = (line.number, map (span_text bytes) line.fields)

-- A span is inside a text of this length.
pub record IsSpanWithin (len : ℕ) (span : Span) : Type 0 where
  pub ordered : span.start ≤ span.end
  pub inside : span.end ≤ len

-- The spans of a line are.
abbrev pub IsLineWithin : ℕ → Line → Type 0
IsLineWithin len line = All (IsSpanWithin len) line.fields
