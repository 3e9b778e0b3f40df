-- Which program a text is.
use Rattle.std.specs.Prelude.{◌≡◌, ℕ, List, map}
use Rattle.ps_token.specs.declared.token.Token.{Token}
use Rattle.ps_token.specs.Lexing.{AreTokens}
use Rattle.ps_tree.specs.declared.program.Program.{Program}
use Rattle.ps_grammar.specs.Fits.{ProgramFits}
use Rattle.ps_grammar.specs.Grammar.{ProgramText}
use Rattle.ps_grammar.specs.Spelling.{pieces, program_pieces}
use Rattle.ps_grammar.specs.Trees.{program_tree}
use Rattle.ps_grammar.specs.Words.{Word, words_of}

-- The words spell a text of the grammar that fits, and the program is its tree.
pub record IsProgramText (words : List Word) (p : Program) : Type 0 where
  pub text : ProgramText
  pub spelled : pieces words ≡ program_pieces text
  pub fits : ProgramFits text
  pub tree : p ≡ program_tree text (map (λ (w : Word). w.place) words)

-- The text has tokens, and its words are the program.
pub record IsProgram (bytes : List ℕ) (program : Program) : Type 0 where
  pub tokens : List Token
  pub cut : AreTokens bytes tokens
  pub is : IsProgramText (words_of bytes tokens) program
