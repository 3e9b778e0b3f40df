-- Programs that are the trees of texts, whatever stands around: a text's names and numbers are spelled as such.
use Rattle.std.specs.Prelude.{◌≡◌, List, [], ◌∷◌}
use Rattle.ps_token.specs.Lexing.{IsName, IsNumber}
use Rattle.ps_token.specs.declared.place.Place.{Place}
use Rattle.ps_token.specs.declared.token_kind.TokenKind.{TokenKind}
use Rattle.ps_token.specs.declared.token_kind.TokenKind.TheVariants as kind
use Rattle.ps_tree.specs.declared.program.Program.{Program}
use Rattle.ps_grammar.specs.Fits.{ProgramFits}
use Rattle.ps_grammar.specs.Grammar.{ProgramText}
use Rattle.ps_grammar.specs.Spelling.{Piece, NamePiece, NumberPiece, Mark, program_pieces}
use Rattle.ps_grammar.specs.Trees.{program_tree}

-- a reserved name or a sign
abbrev pub IsMark : TokenKind → Type 0
IsMark kind.Name = ⊥
IsMark kind.Number = ⊥
IsMark k = Unit {0}

-- a name is a word that isn't reserved, and a number has 1 to 18 digits
abbrev pub IsPiece : Piece → Type 0
IsPiece (NamePiece x) = IsName x
IsPiece (NumberPiece n) = IsNumber n
IsPiece (Mark k) = IsMark k

abbrev pub ArePieces : List Piece → Type 0
ArePieces [] = Unit {0}
ArePieces (p ∷ ps) = IsPiece p × ArePieces ps

-- The program is the tree of a text of the grammar that fits.
pub record IsTreeOfText (p : Program) : Type 0 where
  pub text : ProgramText
  pub places : List Place
  pub fits : ProgramFits text
  pub spelled : ArePieces (program_pieces text)
  pub tree : p ≡ program_tree text places
