-- Why a text of bytes is no program.
use Rattle.std.specs.Prelude.{◌⊎◌, ℕ, List, length}
use Rattle.ps_token.specs.declared.place.Place.{Place}
use Rattle.ps_token.specs.declared.token.Token.{Token}
use Rattle.ps_token.specs.Lexing.{AreTokens, IsBadAt, place_of}
use Rattle.ps_token.specs.declared.token_end.TokenEnd.{TokenEnd}
use Rattle.ps_token.specs.declared.token_end.TokenEnd.TheVariants as token
use Rattle.ps_parse.specs.declared.read_refusal.ReadRefusal.{ReadRefusal}
use Rattle.ps_parse.specs.declared.read_refusal.ReadRefusal.TheVariants as refusal
use Rattle.ps_parse.specs.Causes.{AreRefused, IsFirstCause}
use Rattle.ps_grammar.specs.Programs.{IsProgram}
use Rattle.ps_tree.specs.declared.program.Program.{Program}
use Rattle.ps_parse.specs.Reads.{IsFirstGrammarFault, StandsInText}
use Rattle.ps_grammar.specs.Words.{words_of}

-- Where a text ends: just after its last byte.
abbrev pub end_of : List ℕ → Place
end_of bytes = place_of bytes (length bytes)

-- The refusal of a text that isn't cut into tokens.
abbrev pub uncut : TokenEnd → ReadRefusal
uncut (token.BadToken place) = refusal.Token place
uncut (token.Memory e) = refusal.Memory e

-- A refusal that says a bad byte stands at the first one.
abbrev pub TokenIsBad : List ℕ → ReadRefusal → Type 0
TokenIsBad bytes (refusal.Token place) = IsBadAt bytes place
TokenIsBad bytes e = Unit {0}

-- The text has tokens, and at the place its words first go on as no text of the grammar.
pub record IsFaultAt (bytes : List ℕ) (place : Place) : Type 0 where
  pub tokens : List Token
  pub cut : AreTokens bytes tokens
  pub is : IsFirstGrammarFault (words_of bytes tokens) (end_of bytes) place

-- A refusal that says a fault of the grammar stands at it.
abbrev pub GrammarIsFault : List ℕ → ReadRefusal → Type 0
GrammarIsFault bytes (refusal.Grammar place) = IsFaultAt bytes place
GrammarIsFault bytes e = Unit {0}

-- The text has tokens, and the refusal stands at a word, or at the end, before which the words go on as some text of
-- the grammar; and they do with the refused word, where that is no fault of the grammar.
pub record IsInText (bytes : List ℕ) (refused : ReadRefusal) : Type 0 where
  pub tokens : List Token
  pub cut : AreTokens bytes tokens
  pub is : StandsInText (words_of bytes tokens) (end_of bytes) refused

-- A refusal of the words stands so.
abbrev pub RefusalIsInText : List ℕ → ReadRefusal → Type 0
RefusalIsInText bytes (refusal.Token place) = Unit {0}
RefusalIsInText bytes (refusal.Memory e) = Unit {0}
RefusalIsInText bytes refused = IsInText bytes refused

-- The text has tokens, and the refusal stands at the first word that has a cause of one.
pub record IsFirstRefusal (bytes : List ℕ) (refused : ReadRefusal) : Type 0 where
  pub tokens : List Token
  pub cut : AreTokens bytes tokens
  pub is : IsFirstCause (words_of bytes tokens) (end_of bytes) refused

-- A refusal of the words stands so.
abbrev pub RefusalIsFirst : List ℕ → ReadRefusal → Type 0
RefusalIsFirst bytes (refusal.Token place) = Unit {0}
RefusalIsFirst bytes (refusal.Memory e) = Unit {0}
RefusalIsFirst bytes refused = IsFirstRefusal bytes refused

-- The text has tokens, and its words are refused by this.
pub record IsRefused (bytes : List ℕ) (refused : ReadRefusal) : Type 0 where
  pub tokens : List Token
  pub cut : AreTokens bytes tokens
  pub are : AreRefused (words_of bytes tokens) (end_of bytes) refused

-- The text is a program, or its words are refused.
abbrev pub IsAnswered : List ℕ → Type 0
IsAnswered bytes = ((program : Program) × IsProgram bytes program) ⊎ ((refused : ReadRefusal) × IsRefused bytes refused)
