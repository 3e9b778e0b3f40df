-- The tokens of what is printed are the words that it is printed from.
use Rattle.std.proofs.Common.{◌≡◌, ℕ, false, List, [], ◌∷◌, ◌++◌, map, refl, sym, ◌∙◌, ap, ap₂, subst}
use Rattle.std.specs.Prelude.{All, ◌==◌}
use Rattle.std.specs.List.{flat_map}
use Rattle.std.proofs.lemmas.List.Elements.{All-cons, All-nil}
use Rattle.ps_token.specs.Lexing.{HasTokens, IsWritten, kind_and_text, spelling, word_bytes, word_parts, Written}
use Rattle.ps_token.specs.declared.place.Place.{Place}
use Rattle.ps_token.specs.declared.token.Token.{Token}
use Rattle.ps_token.specs.declared.token_kind.TokenKind.{TokenKind}
use Rattle.ps_token.specs.declared.token_kind.TokenKind.TheVariants as kind
use Rattle.ps_token.proofs.WrittenWords.{words_are_tokens}
use Rattle.ps_tree.specs.declared.program.Program.{Program}
use Rattle.ps_print.specs.Printed.{byte_after, piece_text, printed, printed_program, program_text}
use Rattle.ps_grammar.specs.Texts.{ArePieces, IsMark, IsPiece, IsTreeOfText}
use Rattle.ps_print.specs.ReadBack.{ReadsBack, token_piece}
use Rattle.ps_grammar.specs.Spelling.{Piece, NamePiece, NumberPiece, Mark, piece_of_kind, program_pieces}
use Rattle.ps_grammar.specs.Trees.{program_tree}
use Rattle.ps_print.proofs.ProgramBack.{PrintedBack, program_back}

abbrev written : Piece → Written
written (NamePiece x) = record { kind = kind.Name; text = x; ends_line = false }
written (NumberPiece n) = record { kind = kind.Number; text = n; ends_line = false }
written (Mark k) = record { kind = k; text = spelling k; ends_line = byte_after (Mark k) == 10 }

abbrev piece_of : TokenKind × List ℕ → Piece
piece_of w = piece_of_kind w.0 w.1

-- a piece as a word that is written
record Written_as (p : Piece) : Type 0 where
  bytes : piece_text p ++ byte_after p ∷ [] ≡ word_bytes (written p)
  word : IsWritten (written p)
  piece : piece_of (word_parts (written p)) ≡ p

mark_written : (k : TokenKind) → IsMark k → Written_as (Mark k)
mark_written kind.Name h = absurd h
mark_written kind.Number h = absurd h
mark_written kind.Global h = record { bytes = refl; word = refl; piece = refl }
mark_written kind.Local h = record { bytes = refl; word = refl; piece = refl }
mark_written kind.Init h = record { bytes = refl; word = refl; piece = refl }
mark_written kind.Thread h = record { bytes = refl; word = refl; piece = refl }
mark_written kind.Havoc h = record { bytes = refl; word = refl; piece = refl }
mark_written kind.Assume h = record { bytes = refl; word = refl; piece = refl }
mark_written kind.Assert h = record { bytes = refl; word = refl; piece = refl }
mark_written kind.Skip h = record { bytes = refl; word = refl; piece = refl }
mark_written kind.Atomic h = record { bytes = refl; word = refl; piece = refl }
mark_written kind.If h = record { bytes = refl; word = refl; piece = refl }
mark_written kind.Else h = record { bytes = refl; word = refl; piece = refl }
mark_written kind.While h = record { bytes = refl; word = refl; piece = refl }
mark_written kind.Becomes h = record { bytes = refl; word = refl; piece = refl }
mark_written kind.LessEq h = record { bytes = refl; word = refl; piece = refl }
mark_written kind.GreaterEq h = record { bytes = refl; word = refl; piece = refl }
mark_written kind.EqualEqual h = record { bytes = refl; word = refl; piece = refl }
mark_written kind.NotEqual h = record { bytes = refl; word = refl; piece = refl }
mark_written kind.And h = record { bytes = refl; word = refl; piece = refl }
mark_written kind.Or h = record { bytes = refl; word = refl; piece = refl }
mark_written kind.Less h = record { bytes = refl; word = refl; piece = refl }
mark_written kind.Greater h = record { bytes = refl; word = refl; piece = refl }
mark_written kind.Not h = record { bytes = refl; word = refl; piece = refl }
mark_written kind.Equal h = record { bytes = refl; word = refl; piece = refl }
mark_written kind.Plus h = record { bytes = refl; word = refl; piece = refl }
mark_written kind.Minus h = record { bytes = refl; word = refl; piece = refl }
mark_written kind.Star h = record { bytes = refl; word = refl; piece = refl }
mark_written kind.OpenParen h = record { bytes = refl; word = refl; piece = refl }
mark_written kind.CloseParen h = record { bytes = refl; word = refl; piece = refl }
mark_written kind.OpenBrace h = record { bytes = refl; word = refl; piece = refl }
mark_written kind.CloseBrace h = record { bytes = refl; word = refl; piece = refl }
mark_written kind.Semicolon h = record { bytes = refl; word = refl; piece = refl }

piece_written : (p : Piece) → IsPiece p → Written_as p
piece_written (NamePiece x) h = record { bytes = refl; word = h; piece = refl }
piece_written (NumberPiece n) h = record { bytes = refl; word = h; piece = refl }
piece_written (Mark k) h = mark_written k h

all_bytes : (ps : List Piece) → ArePieces ps → printed ps ≡ flat_map word_bytes (map written ps)
all_bytes [] h = refl
all_bytes (p ∷ ps) h = ap₂ (λ (a b : List ℕ). a ++ b) (piece_written p h.0).bytes (all_bytes ps h.1)

all_words : (ps : List Piece) → ArePieces ps → All IsWritten (map written ps)
all_words [] h = All-nil IsWritten
all_words (p ∷ ps) h = All-cons IsWritten (written p) (map written ps) (piece_written p h.0).word (all_words ps h.1)

all_pieces : (ps : List Piece) → ArePieces ps → map piece_of (map word_parts (map written ps)) ≡ ps
all_pieces [] h = refl
all_pieces (p ∷ ps) h = ap₂ (λ (q : Piece) (qs : List Piece). q ∷ qs) (piece_written p h.0).piece (all_pieces ps h.1)

token_pieces : (bytes : List ℕ) (tokens : List Token) → map (token_piece bytes) tokens ≡ map piece_of (map (kind_and_text bytes) tokens)
token_pieces bytes [] = refl
token_pieces bytes (t ∷ ts) = ap (λ (qs : List Piece). token_piece bytes t ∷ qs) (token_pieces bytes ts)

tree_reads_back : (p : Program) → ((others : List Place) → PrintedBack p others) → ReadsBack (printed_program p) p
tree_reads_back p back =
    let good = back [] in
    let ps = program_pieces (program_text p) in
    let cut : HasTokens (printed ps) (map word_parts (map written ps)) = words_are_tokens (printed ps) (map written ps) (all_words ps good.spelled) (all_bytes ps good.spelled) in
    record {
      tokens = cut.tokens;
      are = cut.are;
      text = program_text p;
      spelled = token_pieces (printed ps) cut.tokens ∙ ap (map piece_of) cut.parts ∙ all_pieces ps good.spelled;
      fits = good.fits;
      tree = λ places. (back places).back;
    }

pub reads_back : (p : Program) → IsTreeOfText p → ReadsBack (printed_program p) p
reads_back p h = subst (λ (q : Program). ReadsBack (printed_program q) q) (sym h.tree) (tree_reads_back (program_tree h.text h.places) (λ others. program_back h.text h.places others h.fits h.spelled))
