-- A text as one list: its fields, and the ends of its lines.
use Rattle.std.specs.Prelude.{ℕ, ◌+◌, Bool, true, false, Option, Some, None, List, [], ◌∷◌, ◌++◌, map, ◌==◌, if◌then◌else◌}
use Rattle.std.specs.List.{flat_map}

-- A field with its bytes, or the end of a line.
pub data LinePart : Type 0 where
  Field : List ℕ → LinePart
  Newline : LinePart

-- A byte before what it stands before: it begins the first field, or is one of its own.
abbrev pub onto : ℕ → List LinePart → List LinePart
onto b (Field f ∷ ts) = Field (b ∷ f) ∷ ts
onto b ts = Field (b ∷ []) ∷ ts

-- A byte before the tokens of what follows it: a blank ends a field, and a line feed also ends its line.
abbrev pub part_onto : ℕ → List LinePart → List LinePart
part_onto b ts = if b == 32 then Field [] ∷ ts else (if b == 10 then Field [] ∷ (Newline ∷ ts) else onto b ts)

-- The tokens of a text. What stands after the last line feed has no end of a line after it.
abbrev pub line_parts : List ℕ → List LinePart
line_parts [] = []
line_parts (b ∷ bs) = part_onto b (line_parts bs)

-- The tokens ahead, the line's end first where its last field was taken with the line feed.
abbrev pub ahead : Bool → List ℕ → List LinePart
ahead true bytes = Newline ∷ line_parts bytes
ahead false bytes = line_parts bytes

-- Whether a line ends somewhere ahead.
abbrev pub has_newline : List LinePart → Bool
has_newline [] = false
has_newline (Newline ∷ ts) = true
has_newline (Field f ∷ ts) = has_newline ts

-- The next field of the line, where it has one.
abbrev pub next_field : List LinePart → Option (List ℕ)
next_field (Field f ∷ ts) = Some f
next_field ts = None

-- ---- the other way: what lines are spelled by

-- A field that isn't the first one stands after a blank.
abbrev pub after_blank : List ℕ → List ℕ
after_blank field = 32 ∷ field

-- A line is its first word and its further fields, after a blank each, and ends with a line feed.
abbrev pub line_bytes : List ℕ × List (List ℕ) → List ℕ
line_bytes line = line.0 ++ (flat_map after_blank line.1 ++ 10 ∷ [])

-- The bytes of a text that is a list of lines.
abbrev pub text_bytes : List (List ℕ × List (List ℕ)) → List ℕ
text_bytes lines = flat_map line_bytes lines

-- The tokens of a line: its fields, and its end.
abbrev pub parts_of_line : List ℕ × List (List ℕ) → List LinePart
parts_of_line line = Field line.0 ∷ (map Field line.1 ++ Newline ∷ [])

-- The tokens of a text that is a list of lines.
abbrev pub parts_of_text : List (List ℕ × List (List ℕ)) → List LinePart
parts_of_text lines = flat_map parts_of_line lines
