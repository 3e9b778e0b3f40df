-- The tokens of a program text: names, numbers and signs, with blanks and comments between them.
use Rattle.std.specs.Prelude.{◌≡◌, ◌≢◌, ℕ, ◌+◌, ◌≤◌, ◌<◌, Bool, true, false, not, ◌&&◌, ◌||◌, ◌==◌, nat_lt, nat_le, List, [], ◌∷◌, ◌++◌, length, map, take, drop, slice_range, codes, if◌then◌else◌}
use Rattle.std.specs.Char.{digit_value}
use Rattle.std.specs.List.{list_all}
use Rattle.ps_lines.specs.Decimal.{are_digits}
use Rattle.ps_token.specs.declared.number.TheConstants.{MOST_DIGITS}
use Rattle.ps_token.specs.declared.place.Place.{Place}
use Rattle.ps_token.specs.declared.token.Token.{Token}
use Rattle.ps_token.specs.declared.token_kind.TokenKind.{TokenKind}
use Rattle.ps_token.specs.declared.token_kind.TokenKind.TheVariants.{Name, Number, Global, Local, Init, Thread, Havoc, Assume, Assert, Skip, Atomic, If, Else, While, Becomes, LessEq, GreaterEq, EqualEqual, NotEqual, And, Or, Less, Greater, Not, Equal, Plus, Minus, Star, OpenParen, CloseParen, OpenBrace, CloseBrace, Semicolon}
use Rattle.ps_token.specs.declared.token_end.TokenEnd.{TokenEnd}
use Rattle.ps_token.specs.declared.token_end.TokenEnd.TheVariants.{BadToken, Memory}

-- ---- bytes

-- A blank, a tab, a carriage return or a line feed.
abbrev pub is_blank : ℕ → Bool
is_blank b = b == 32 || b == 9 || b == 13 || b == 10

-- An ASCII letter or `_`.
abbrev pub is_letter : ℕ → Bool
is_letter b = (nat_le 65 b && nat_le b 90) || (nat_le 97 b && nat_le b 122) || b == 95

-- One of the ten digits.
abbrev pub is_digit : ℕ → Bool
is_digit b = nat_lt (digit_value b) 10

-- A byte with which a name goes on.
abbrev pub is_name_byte : ℕ → Bool
is_name_byte b = is_letter b || is_digit b

-- ---- one token

-- How a reserved name or a sign is written. Names and numbers have no spelling of their own: the empty text.
abbrev pub spelling : TokenKind → List ℕ
spelling Name = []
spelling Number = []
spelling Global = codes "global"
spelling Local = codes "local"
spelling Init = codes "init"
spelling Thread = codes "thread"
spelling Havoc = codes "havoc"
spelling Assume = codes "assume"
spelling Assert = codes "assert"
spelling Skip = codes "skip"
spelling Atomic = codes "atomic"
spelling If = codes "if"
spelling Else = codes "else"
spelling While = codes "while"
spelling Becomes = codes ":="
spelling LessEq = codes "<="
spelling GreaterEq = codes ">="
spelling EqualEqual = codes "=="
spelling NotEqual = codes "!="
spelling And = codes "&&"
spelling Or = codes "||"
spelling Less = codes "<"
spelling Greater = codes ">"
spelling Not = codes "!"
spelling Equal = codes "="
spelling Plus = codes "+"
spelling Minus = codes "-"
spelling Star = codes "*"
spelling OpenParen = codes "("
spelling CloseParen = codes ")"
spelling OpenBrace = codes "{"
spelling CloseBrace = codes "}"
spelling Semicolon = codes ";"

-- A letter or `_`, then letters, digits and `_`.
abbrev pub IsWord : List ℕ → Type 0
IsWord [] = ⊥
IsWord (b ∷ bs) = (is_letter b ≡ true) × (list_all is_name_byte bs ≡ true)

-- A word that isn't reserved.
pub record IsName (text : List ℕ) : Type 0 where
  pub word : IsWord text
  pub free : (kind : TokenKind) → text ≢ spelling kind

-- Digits, at least one and no more than the most.
pub record IsNumber (text : List ℕ) : Type 0 where
  pub digits : are_digits text ≡ true
  pub some : 1 ≤ length text
  pub few : length text ≤ MOST_DIGITS

-- The text is one of this kind.
abbrev pub IsSpelled : TokenKind → List ℕ → Type 0
IsSpelled Name text = IsName text
IsSpelled Number text = IsNumber text
IsSpelled kind text = text ≡ spelling kind

-- Whether a byte that follows would make a token of this kind longer.
abbrev pub carries_on : TokenKind → ℕ → Bool
carries_on Number b = is_digit b
carries_on Becomes b = false
carries_on LessEq b = false
carries_on GreaterEq b = false
carries_on EqualEqual b = false
carries_on NotEqual b = false
carries_on And b = false
carries_on Or b = false
carries_on Less b = b == 61
carries_on Greater b = b == 61
carries_on Not b = b == 61
carries_on Equal b = b == 61
carries_on Plus b = false
carries_on Minus b = false
carries_on Star b = false
carries_on OpenParen b = false
carries_on CloseParen b = false
carries_on OpenBrace b = false
carries_on CloseBrace b = false
carries_on Semicolon b = false
carries_on _ b = is_name_byte b

-- What follows doesn't make it longer.
abbrev pub IsWhole : TokenKind → List ℕ → Type 0
IsWhole kind [] = Unit {0}
IsWhole kind (b ∷ bs) = carries_on kind b ≡ false

-- The text is a token of this kind, as long as it can be before what comes after it.
pub record IsToken (kind : TokenKind) (text after : List ℕ) : Type 0 where
  pub spelled : IsSpelled kind text
  pub whole : IsWhole kind after

-- ---- what stands between tokens

-- A byte that stands in a comment: any but a line feed.
abbrev pub is_comment_byte : ℕ → Bool
is_comment_byte b = not (b == 10)

-- A comment ends before a line feed, or at the end of the text.
abbrev pub EndsComment : List ℕ → Type 0
EndsComment [] = Unit {0}
EndsComment (b ∷ bs) = b ≡ 10

-- Blanks and comments, before what comes after them. A comment is `//` and all bytes up to a line feed.
pub data IsGap (after : List ℕ) : List ℕ → Type 0 where
  Nothing : IsGap after []
  Blank : (b : ℕ) (rest : List ℕ) → is_blank b ≡ true → IsGap after rest → IsGap after (b ∷ rest)
  Comment : (body rest : List ℕ) → list_all is_comment_byte body ≡ true → EndsComment (rest ++ after) → IsGap after rest → IsGap after (47 ∷ (47 ∷ (body ++ rest)))

-- ---- places

-- The place after a byte: a line feed ends its line.
abbrev pub next_place : Place → ℕ → Place
next_place place b = if b == 10 then record { line = place.line + 1; column = 1 } else record { line = place.line; column = place.column + 1 }

-- The place after some bytes.
abbrev pub place_after : Place → List ℕ → Place
place_after place [] = place
place_after place (b ∷ bs) = place_after (next_place place b) bs

-- Where a text begins.
abbrev pub text_begin : Place
text_begin = record { line = 1; column = 1 }

-- The place of the byte at an index.
abbrev pub place_of : List ℕ → ℕ → Place
place_of bytes at = place_after text_begin (take at bytes)

-- ---- a whole text

-- The token is one of the text: its bytes are a token of its kind, and its place is that of the first of them.
pub record IsTokenOf (bytes : List ℕ) (token : Token) : Type 0 where
  pub inside : token.end ≤ length bytes
  pub text : IsToken token.kind (slice_range bytes token.start token.end) (drop token.end bytes)
  pub place : token.place ≡ place_of bytes token.start

-- The token's bytes are at least one, and stand inside a text of this length.
pub record IsInside (len : ℕ) (token : Token) : Type 0 where
  pub ordered : token.start < token.end
  pub inside : token.end ≤ len

-- From one index up to another there are only blanks and comments.
pub record IsGapBetween (bytes : List ℕ) (from to : ℕ) : Type 0 where
  pub ordered : from ≤ to
  pub gap : IsGap (drop to bytes) (slice_range bytes from to)

-- From one index on there are these tokens, with blanks and comments before each, and the last ends at another index.
abbrev pub AreUpTo : List ℕ → ℕ → List Token → ℕ → Type 0
AreUpTo bytes from [] to = from ≡ to
AreUpTo bytes from (t ∷ ts) to = IsGapBetween bytes from t.start × IsTokenOf bytes t × AreUpTo bytes t.end ts to

-- The text is these tokens, with blanks and comments before each and after the last.
pub record AreTokens (bytes : List ℕ) (tokens : List Token) : Type 0 where
  pub to : ℕ
  pub cut : AreUpTo bytes 0 tokens to
  pub rest : IsGapBetween bytes to (length bytes)

-- No token begins the text.
abbrev pub StartsNoToken : List ℕ → Type 0
StartsNoToken bytes = (kind : TokenKind) (text after : List ℕ) → IsToken kind text after → bytes ≢ text ++ after

-- No blank and no comment begins the text.
abbrev pub StartsNoGap : List ℕ → Type 0
StartsNoGap bytes = (text after : List ℕ) → IsGap after text → bytes ≡ text ++ after → text ≡ []

-- After some tokens, at this place, stands a byte that starts neither a token nor a gap.
pub record IsBadAt (bytes : List ℕ) (place : Place) : Type 0 where
  pub tokens : List Token
  pub to : ℕ
  pub at : ℕ
  pub cut : AreUpTo bytes 0 tokens to
  pub gap : IsGapBetween bytes to at
  pub inside : at < length bytes
  pub no_token : StartsNoToken (drop at bytes)
  pub no_gap : StartsNoGap (drop at bytes)
  pub is : place ≡ place_of bytes at

-- Why a text isn't cut: a bad byte at its place. Of memory nothing is said.
abbrev pub IsBadText : List ℕ → TokenEnd → Type 0
IsBadText bytes (BadToken place) = IsBadAt bytes place
IsBadText bytes (Memory e) = Unit {0}

-- ---- texts that are written word by word

-- A token to write, and whether a line feed follows it, or else a blank.
pub record Written : Type 0 where
  pub kind : TokenKind
  pub text : List ℕ
  pub ends_line : Bool

-- It is spelled as its kind is.
abbrev pub IsWritten : Written → Type 0
IsWritten word = IsSpelled word.kind word.text

-- Its bytes, and the blank or line feed.
abbrev pub word_bytes : Written → List ℕ
word_bytes word = word.text ++ (if word.ends_line then 10 else 32) ∷ []

-- What a reader looks at: the kind and the bytes.
abbrev pub word_parts : Written → TokenKind × List ℕ
word_parts word = (word.kind, word.text)

-- The same of a token of a text.
abbrev pub kind_and_text : List ℕ → Token → TokenKind × List ℕ
kind_and_text bytes token = (token.kind, slice_range bytes token.start token.end)

-- The text has tokens of these kinds and bytes.
pub record HasTokens (bytes : List ℕ) (words : List (TokenKind × List ℕ)) : Type 0 where
  pub tokens : List Token
  pub are : AreTokens bytes tokens
  pub parts : map (kind_and_text bytes) tokens ≡ words
