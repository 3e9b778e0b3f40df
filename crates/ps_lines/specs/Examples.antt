-- Worked examples: texts as tokens and lines, decimals, and first faults.
use Rattle.std.specs.Prelude.{◌≡◌, ℕ, negsuc, List, [], ◌∷◌, Some, None, Err, codes}
use Rattle.ps_lines.specs.Decimal.{i128_of, u128_of, u32_of}
use Rattle.ps_lines.specs.Lines.{lines_of}
use Rattle.ps_lines.specs.Parts.{cut_at}
use Rattle.ps_lines.specs.Reading.{header_at, only_at, text_start, value_read}
use Rattle.ps_lines.specs.Tokens.{Field, Newline, text_bytes, line_parts}
use Rattle.ps_lines.specs.declared.form_name.FormName.TheVariants as name

-- `a b`, an empty line, and `c`, which no line feed ends
abbrev pub text : List ℕ
text = 97 ∷ 32 ∷ 98 ∷ 10 ∷ 10 ∷ 99 ∷ []

-- two lines are ended, the second with one empty field, and the last field is of none
abbrev pub TextsAreCut : Type 0
TextsAreCut =
    (line_parts text ≡ Field (97 ∷ []) ∷ Field (98 ∷ []) ∷ Newline ∷ Field [] ∷ Newline ∷ Field (99 ∷ []) ∷ [])
    × (lines_of (line_parts text) ≡ ((97 ∷ []) ∷ (98 ∷ []) ∷ []) ∷ ([] ∷ []) ∷ [])

-- `a b c` and `end`
abbrev pub LinesAreSpelled : Type 0
LinesAreSpelled =
    text_bytes ((codes "a", codes "b" ∷ codes "c" ∷ []) ∷ (codes "end", []) ∷ []) ≡ 97 ∷ 32 ∷ 98 ∷ 32 ∷ 99 ∷ 10 ∷ 101 ∷ 110 ∷ 100 ∷ 10 ∷ []

-- a leading zero, `-0` and 2^32 in 32 bits are none
abbrev pub DecimalsAre : Type 0
DecimalsAre =
    (u128_of (codes "17") ≡ Some 17) × (u128_of (codes "017") ≡ None) × (i128_of (codes "-1") ≡ Some (negsuc 0))
    × (i128_of (codes "-0") ≡ None) × (u32_of (codes "4294967296") ≡ None)

-- the parts of `1*g0` round its `*`
abbrev pub PartsAre : Type 0
PartsAre = cut_at 42 (codes "1*g0") ≡ Some (codes "1", codes "g0")

-- A text that ends before the line feed of its first line is cut there, whatever its words are. Of `rows 10` the count is
-- above 9, and `end` has a field too much, an empty one.
abbrev pub FaultsAre : Type 0
FaultsAre =
    (value_read (header_at (codes "rows") 9 (text_start 4 (codes "rowz 1"))) ≡ Err (record { line = 4; field = 0; what = name.Cut }))
    × (value_read (header_at (codes "rows") 9 (text_start 4 (114 ∷ 111 ∷ 119 ∷ 115 ∷ 32 ∷ 49 ∷ 48 ∷ 10 ∷ []))) ≡ Err (record { line = 4; field = 2; what = name.Limit }))
    × (value_read (only_at (codes "end") (text_start 4 (101 ∷ 110 ∷ 100 ∷ 32 ∷ 10 ∷ []))) ≡ Err (record { line = 4; field = 2; what = name.Count }))
