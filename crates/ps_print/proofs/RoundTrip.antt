-- What is printed of a program that the reader gives is read as the same program, but for places.
use Rattle.std.proofs.Common.{◌≡◌, ℕ, List, [], ◌∷◌, map, refl, ◌∙◌, ap}
use Rattle.ps_token.specs.declared.token.Token.{Token}
use Rattle.ps_tree.specs.declared.program.Program.{Program}
use Rattle.ps_print.specs.ReadBack.{ReadsBack, token_piece}
use Rattle.ps_grammar.proofs.Texts.{tree_of_text}
use Rattle.ps_grammar.specs.Spelling.{Piece, pieces}
use Rattle.ps_grammar.specs.Texts.{IsTreeOfText}
use Rattle.ps_grammar.specs.Programs.{IsProgram}
use Rattle.ps_print.specs.ReadBack.{IsSameProgram}
use Rattle.ps_grammar.specs.Trees.{program_tree}
use Rattle.ps_grammar.specs.Words.{Word, words_of}

token_pieces : (bytes : List ℕ) (ts : List Token) → pieces (words_of bytes ts) ≡ map (token_piece bytes) ts
token_pieces bytes [] = refl
token_pieces bytes (t ∷ ts) = ap (λ (ps : List Piece). token_piece bytes t ∷ ps) (token_pieces bytes ts)

same_program : (bytes : List ℕ) (p : Program) → ReadsBack bytes p → IsSameProgram bytes p
same_program bytes p h = record {
  program = program_tree h.text (map (λ (w : Word). w.place) (words_of bytes h.tokens));
  is = record { tokens = h.tokens; cut = h.are; is = record { text = h.text; spelled = token_pieces bytes h.tokens ∙ h.spelled; fits = h.fits; tree = refl } };
  same = h.tree (map (λ (w : Word). w.place) (words_of bytes h.tokens));
}

-- from a text that is the program to one that is printed of it
pub round_trip : (bytes printed : List ℕ) (p : Program) → (IsTreeOfText p → ReadsBack printed p) → IsProgram bytes p → IsSameProgram printed p
round_trip bytes printed p back h = same_program printed p (back (tree_of_text bytes p h))
