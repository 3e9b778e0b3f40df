-- What stands ahead of a place: the rest of a field, a line, and the next member of a list.
use Rattle.std.specs.Prelude.{◌≡◌, ℕ, ◌+◌, ◌≤◌, ◌<◌, Bool, false, ◌||◌, List, [], ◌∷◌, map, length, drop, Option, Some, None, Result, Ok, ◌==◌, if◌then◌else◌, All}
use Rattle.ps_lines.specs.declared.form_name.FormName.{FormName}
use Rattle.ps_lines.specs.declared.span.Span.{Span}
use Rattle.ps_lines.specs.Lines.{IsSpanWithin, lines_of, span_text}
use Rattle.ps_lines.specs.Reading.{Position, Read, leaf_at}
use Rattle.ps_lines.specs.Steps.{◌>>=◌}
use Rattle.ps_lines.specs.Tokens.{LinePart, Field, next_field, line_parts}

-- How many bytes stand before the first blank or line feed.
abbrev pub field_len : List ℕ → ℕ
field_len [] = 0
field_len (b ∷ bs) = if b == 32 || b == 10 then 0 else field_len bs + 1

-- The line that begins at a place: its spans and the place after it, or none where no line ends ahead.
abbrev pub IsLineAhead : List ℕ → ℕ → Option (List Span × ℕ) → Type 0
IsLineAhead bytes start None = lines_of (line_parts (drop start bytes)) ≡ []
IsLineAhead bytes start (Some p) =
    (lines_of (line_parts (drop start bytes)) ≡ map (span_text bytes) p.0 ∷ lines_of (line_parts (drop p.1 bytes))) × All (IsSpanWithin (length bytes)) p.0 × (start < p.1) × (p.1 ≤ length bytes)

-- The next field of a line and the place after it, from the line's number, the field's, and the tokens ahead.
abbrev pub field_ahead_from : ℕ → ℕ → List LinePart → Option (List ℕ × Position)
field_ahead_from line field (Field f ∷ ts) = Some (f, record { line = line; field = field + 1; tokens = ts })
field_ahead_from line field ts = None

-- The same, from a place.
abbrev pub field_ahead : Position → Option (List ℕ × Position)
field_ahead at = field_ahead_from at.line at.field at.tokens

-- Whether a list goes on with what stands next.
abbrev pub list_goes_on : (List ℕ → Bool) → Option (List ℕ) → Bool
list_goes_on goes None = false
list_goes_on goes (Some f) = goes f

-- The next member of a list, or none where the list ends.
abbrev pub member_at : {A : Type 0} → (List ℕ → Bool) → (List ℕ → Result A FormName) → Read (Option A)
member_at goes leaf at = if list_goes_on goes (next_field at.tokens) then (leaf_at leaf at >>= λ x. Ok (Some x.0, x.1)) else Ok (None, at)
