-- What is printed of a program is read as the same program, but for places.
use Rattle.std.specs.Prelude.{◌≡◌, ℕ, List, map, slice_range}
use Rattle.ps_token.specs.Lexing.{AreTokens}
use Rattle.ps_token.specs.declared.place.Place.{Place}
use Rattle.ps_token.specs.declared.token.Token.{Token}
use Rattle.ps_tree.specs.declared.program.Program.{Program}
use Rattle.ps_grammar.specs.Fits.{ProgramFits}
use Rattle.ps_grammar.specs.Grammar.{ProgramText}
use Rattle.ps_print.specs.Printed.{unplaced}
use Rattle.ps_grammar.specs.Spelling.{Piece, piece_of_kind, program_pieces}
use Rattle.ps_grammar.specs.Trees.{program_tree}
use Rattle.ps_grammar.specs.Programs.{IsProgram}

abbrev pub token_piece : List ℕ → Token → Piece
token_piece bytes token = piece_of_kind token.kind (slice_range bytes token.start token.end)

-- The tokens of the bytes spell a text of the grammar that fits, and its tree is the program but for places.
pub record ReadsBack (bytes : List ℕ) (p : Program) : Type 0 where
  pub tokens : List Token
  pub are : AreTokens bytes tokens
  pub text : ProgramText
  pub spelled : map (token_piece bytes) tokens ≡ program_pieces text
  pub fits : ProgramFits text
  pub tree : (places : List Place) → unplaced (program_tree text places) ≡ unplaced p

-- The text is a program that is the same as another but for places.
pub record IsSameProgram (bytes : List ℕ) (other : Program) : Type 0 where
  pub program : Program
  pub is : IsProgram bytes program
  pub same : unplaced program ≡ unplaced other
