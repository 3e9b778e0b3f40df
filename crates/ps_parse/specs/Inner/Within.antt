-- What the reader of words knows of tokens.
use Rattle.std.specs.Prelude.{◌≡◌, ℕ, ◌≤◌, true, List, [], ◌∷◌, length, slice_range}
use Rattle.ps_token.specs.declared.token.Token.{Token}
use Rattle.ps_token.specs.declared.token_kind.TokenKind.TheVariants.{Number}
use Rattle.ps_token.specs.Lexing.{IsNumber, IsSpelled}
use Rattle.ps_parse.specs.Kinds.{is_kind}

-- The token's bytes are within the text and spelled as its kind is: those of a number are 1 to 18 digits.
pub record IsTokenWithin (bytes : List ℕ) (token : Token) : Type 0 where
  pub ordered : token.start ≤ token.end
  pub inside : token.end ≤ length bytes
  pub spelled : IsSpelled token.kind (slice_range bytes token.start token.end)
  pub number : is_kind token.kind Number ≡ true → IsNumber (slice_range bytes token.start token.end)

-- All of them are.
abbrev pub AreWithin : List ℕ → List Token → Type 0
AreWithin bytes [] = Unit {0}
AreWithin bytes (t ∷ ts) = IsTokenWithin bytes t × AreWithin bytes ts
