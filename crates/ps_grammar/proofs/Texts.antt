-- Pieces whose names and numbers are spelled as such: parts of lists of them, and the pieces of a program that is read.
use Rattle.std.proofs.Common.{ℕ, ◌^◌, ◌<◌, ◌≤◌, List, [], ◌∷◌, ◌++◌, length, map, subst, arith}
use Rattle.std.specs.List.{AllByRecursion}
use Rattle.std.specs.Str.Parse.{digits_value}
use Rattle.std.proofs.Math.Nat.{pow-le-pow_right}
use Rattle.std.proofs.lemmas.Int.Digits.{digits_value-lt}
use Rattle.std.proofs.lemmas.List.Elements.{recursion_from_All}
use Rattle.ps_lines.proofs.Digits.{AllDigits-from}
use Rattle.ps_token.specs.Lexing.{IsNumber, IsSpelled, IsTokenOf}
use Rattle.ps_token.specs.declared.token.Token.{Token}
use Rattle.ps_token.specs.declared.token_kind.TokenKind.{TokenKind}
use Rattle.ps_token.specs.declared.token_kind.TokenKind.TheVariants as kind
use Rattle.ps_token.proofs.OneCut.{each_token}
use Rattle.ps_tree.specs.declared.program.Program.{Program}
use Rattle.ps_grammar.specs.Programs.{IsProgram}
use Rattle.ps_grammar.specs.Spelling.{Piece, piece_of_kind, pieces}
use Rattle.ps_grammar.specs.Texts.{ArePieces, IsPiece, IsTreeOfText}
use Rattle.ps_grammar.specs.Words.{Word, words_of}

pub joined : (ps qs : List Piece) → ArePieces ps → ArePieces qs → ArePieces (ps ++ qs)
joined [] qs h k = k
joined (p ∷ ps) qs h k = (h.0, joined ps qs h.1 k)

pub left : (ps qs : List Piece) → ArePieces (ps ++ qs) → ArePieces ps
left [] qs h = tt
left (p ∷ ps) qs h = (h.0, left ps qs h.1)

pub right : (ps qs : List Piece) → ArePieces (ps ++ qs) → ArePieces qs
right [] qs h = h
right (p ∷ ps) qs h = right ps qs h.1

pub value_below : (digits : List ℕ) → IsNumber digits → digits_value 10 digits < 10 ^ 18
value_below digits h =
    let positive : 0 < 10 = omega arith in
    let short : 10 ^ length digits ≤ 10 ^ 18 = pow-le-pow_right positive h.few in
    omega (arith, digits_value-lt 10 digits (AllDigits-from digits h.digits))

piece_spelled : (k : TokenKind) (text : List ℕ) → IsSpelled k text → IsPiece (piece_of_kind k text)
piece_spelled kind.Name text h = h
piece_spelled kind.Number text h = h
piece_spelled kind.Global text h = tt
piece_spelled kind.Local text h = tt
piece_spelled kind.Init text h = tt
piece_spelled kind.Thread text h = tt
piece_spelled kind.Havoc text h = tt
piece_spelled kind.Assume text h = tt
piece_spelled kind.Assert text h = tt
piece_spelled kind.Skip text h = tt
piece_spelled kind.Atomic text h = tt
piece_spelled kind.If text h = tt
piece_spelled kind.Else text h = tt
piece_spelled kind.While text h = tt
piece_spelled kind.Becomes text h = tt
piece_spelled kind.LessEq text h = tt
piece_spelled kind.GreaterEq text h = tt
piece_spelled kind.EqualEqual text h = tt
piece_spelled kind.NotEqual text h = tt
piece_spelled kind.And text h = tt
piece_spelled kind.Or text h = tt
piece_spelled kind.Less text h = tt
piece_spelled kind.Greater text h = tt
piece_spelled kind.Not text h = tt
piece_spelled kind.Equal text h = tt
piece_spelled kind.Plus text h = tt
piece_spelled kind.Minus text h = tt
piece_spelled kind.Star text h = tt
piece_spelled kind.OpenParen text h = tt
piece_spelled kind.CloseParen text h = tt
piece_spelled kind.OpenBrace text h = tt
piece_spelled kind.CloseBrace text h = tt
piece_spelled kind.Semicolon text h = tt

all_spelled : (bytes : List ℕ) (ts : List Token) → AllByRecursion (IsTokenOf bytes) ts → ArePieces (pieces (words_of bytes ts))
all_spelled bytes [] h = tt
all_spelled bytes (t ∷ ts) h = (piece_spelled t.kind _ h.0.text.spelled, all_spelled bytes ts h.1)

-- a program that is read is the tree of a text
pub tree_of_text : (bytes : List ℕ) (p : Program) → IsProgram bytes p → IsTreeOfText p
tree_of_text bytes p h = record {
  text = h.is.text;
  places = map (λ (w : Word). w.place) (words_of bytes h.tokens);
  fits = h.is.fits;
  spelled = subst ArePieces h.is.spelled (all_spelled bytes h.tokens (recursion_from_All (IsTokenOf bytes) h.tokens (each_token bytes h.tokens h.cut)));
  tree = h.is.tree;
}
