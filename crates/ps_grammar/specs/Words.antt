-- The words of a program text.
use Rattle.std.specs.Prelude.{ℕ, List, map, slice_range}
use Rattle.ps_token.specs.declared.place.Place.{Place}
use Rattle.ps_token.specs.declared.token.Token.{Token}
use Rattle.ps_token.specs.declared.token_kind.TokenKind.{TokenKind}

-- A word: what it is, its bytes, and the place of the first of them.
pub record Word : Type 0 where
  pub kind : TokenKind
  pub text : List ℕ
  pub place : Place

-- the word that a token of a text is
abbrev pub word_of : List ℕ → Token → Word
word_of bytes token = record { kind = token.kind; text = slice_range bytes token.start token.end; place = token.place }

-- the words that the tokens of a text are
abbrev pub words_of : List ℕ → List Token → List Word
words_of bytes tokens = map (word_of bytes) tokens
