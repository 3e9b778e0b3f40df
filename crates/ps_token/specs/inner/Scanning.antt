-- What the pass over a program text answers at one place: how long a gap is, and which token begins.
use Rattle.std.specs.Prelude.{◌≡◌, ℕ, ◌+◌, ◌<◌, ◌≤◌, Bool, true, false, not, ◌&&◌, ◌==◌, nat_le, List, [], ◌∷◌, length, take, drop, slice_range, Option, Some, None, option_map, slice_index, if◌then◌else◌}
use Rattle.std.specs.List.{prefix_len}
use Rattle.std.specs.Str.{bytes_eq}
use Rattle.ps_token.specs.declared.number.TheConstants.{MOST_DIGITS}
use Rattle.ps_token.specs.declared.token_kind.TokenKind.{TokenKind}
use Rattle.ps_token.specs.declared.token_kind.TokenKind.TheVariants.{Name, Number, Global, Local, Init, Thread, Havoc, Assume, Assert, Skip, Atomic, If, Else, While, Becomes, LessEq, GreaterEq, EqualEqual, NotEqual, And, Or, Less, Greater, Not, Equal, Plus, Minus, Star, OpenParen, CloseParen, OpenBrace, CloseBrace, Semicolon}
use Rattle.ps_token.specs.Lexing.{is_blank, is_letter, is_digit, is_name_byte, spelling, IsToken}

-- The byte of a gap, by whether it stands in a comment and what the next one is: whether the gap goes on in a comment, or none where it has ended.
abbrev pub gap_step : Bool → ℕ → ℕ → Option Bool
gap_step true b next = Some (not (b == 10))
gap_step false b next = if is_blank b then Some false else (if b == 47 && next == 47 then Some true else None)

-- How many bytes a gap goes on for, from inside a comment or not.
abbrev pub gap_from : Bool → List ℕ → ℕ
gap_from inside [] = 0
gap_from inside (b ∷ bs) = elim (gap_step inside b (slice_index bs 0)) [ None ↦ 0 | Some next ↦ gap_from next bs + 1 ]

-- How many bytes of blanks and comments stand at the front.
abbrev pub gap_len : List ℕ → ℕ
gap_len bytes = gap_from false bytes

-- What is found at the first of these kinds that is spelled by the text, or else another value.
abbrev pub first_spelled : {A : Type 0} → (TokenKind → A) → A → List TokenKind → List ℕ → A
first_spelled found other [] text = other
first_spelled found other (kind ∷ kinds) text = if bytes_eq text (spelling kind) then found kind else first_spelled found other kinds text

-- The reserved names.
abbrev pub reserved : List TokenKind
reserved = Global ∷ (Local ∷ (Init ∷ (Thread ∷ (Havoc ∷ (Assume ∷ (Assert ∷ (Skip ∷ (Atomic ∷ (If ∷ (Else ∷ (While ∷ [])))))))))))

-- The signs of two bytes.
abbrev pub double_signs : List TokenKind
double_signs = Becomes ∷ (LessEq ∷ (GreaterEq ∷ (EqualEqual ∷ (NotEqual ∷ (And ∷ (Or ∷ []))))))

-- The signs of one byte.
abbrev pub single_signs : List TokenKind
single_signs = Less ∷ (Greater ∷ (Not ∷ (Equal ∷ (Plus ∷ (Minus ∷ (Star ∷ (OpenParen ∷ (CloseParen ∷ (OpenBrace ∷ (CloseBrace ∷ (Semicolon ∷ [])))))))))))

-- The kind of a word.
abbrev pub word_kind : List ℕ → TokenKind
word_kind word = first_spelled (λ kind. kind) Name reserved word

-- The sign that these two bytes are.
abbrev pub double_sign : ℕ → ℕ → Option TokenKind
double_sign first second = first_spelled (λ kind. Some kind) None double_signs (first ∷ (second ∷ []))

-- The sign that this byte is.
abbrev pub single_sign : ℕ → Option TokenKind
single_sign first = first_spelled (λ kind. Some kind) None single_signs (first ∷ [])

-- The sign at the front, the longer one first, and how many bytes it has.
abbrev pub sign_token : ℕ → ℕ → Option (TokenKind × ℕ)
sign_token first second = elim (double_sign first second) [ None ↦ option_map (λ kind. (kind, 1)) (single_sign first) | Some kind ↦ Some (kind, 2) ]

-- A number of so many digits.
abbrev pub number_token : ℕ → Option (TokenKind × ℕ)
number_token digits = if nat_le digits MOST_DIGITS then Some (Number, digits) else None

-- A word of so many bytes at the front.
abbrev pub word_token : ℕ → List ℕ → Option (TokenKind × ℕ)
word_token len bytes = Some (word_kind (take len bytes), len)

-- The token at the front, and how many bytes it has. (Past the end of the text a byte counts as 0, which begins nothing.)
abbrev pub token_at : List ℕ → Option (TokenKind × ℕ)
token_at bytes =
    if is_letter (slice_index bytes 0) then word_token (prefix_len is_name_byte bytes) bytes
    else (if is_digit (slice_index bytes 0) then number_token (prefix_len is_digit bytes) else sign_token (slice_index bytes 0) (slice_index bytes 1))

-- From one index on stands a token of this kind up to another index; or none does.
abbrev pub IsFrom : List ℕ → ℕ → Option (TokenKind × ℕ) → Type 0
IsFrom bytes start None = token_at (drop start bytes) ≡ None
IsFrom bytes start (Some p) = (start < p.1) × (p.1 ≤ length bytes) × IsToken p.0 (slice_range bytes start p.1) (drop p.1 bytes)
