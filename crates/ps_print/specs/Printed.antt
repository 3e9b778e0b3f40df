-- The bytes that a program is printed as, and trees that are the same but for places.
use Rattle.std.specs.Prelude.{◌≡◌, ℕ, Bool, true, false, List, [], ◌∷◌, ◌++◌, map, Option, Some, None}
use Rattle.std.specs.List.{flat_map}
use Rattle.ps_token.specs.Lexing.{spelling}
use Rattle.ps_token.specs.declared.token_kind.TokenKind.{TokenKind}
use Rattle.ps_token.specs.declared.token_kind.TokenKind.TheVariants as kind
use Rattle.ps_print.specs.Canonical.{is_negative, relation_text, stmt_text}
use Rattle.ps_grammar.specs.Grammar.{BlockText, block_end, block_more, ItemText, global, local, init, ProgramText, ValueText}
use Rattle.ps_grammar.specs.Names.{Names}
use Rattle.ps_grammar.specs.Spelling.{Piece, NamePiece, NumberPiece, Mark, minus_pieces, plus_or_minus, program_pieces}
use Rattle.ps_tree.specs.declared.global_decl.GlobalDecl.{GlobalDecl}
use Rattle.ps_tree.specs.declared.program.Program.{Program}
use Rattle.ps_tree.specs.declared.relation.Relation.{Relation}
use Rattle.ps_tree.specs.declared.stmt.Stmt.{Stmt}
use Rattle.ps_tree.specs.declared.stmt.StmtKind.{StmtKind, Assign, Havoc, Assume, Assert, Skip, Atomic', If', While', Row_of-Stmt, end_of-Stmt, more_of-Stmt}
use Rattle.ps_tree.specs.declared.stmt.StmtKind.TheVariants as stmt
use Rattle.std.specs.Prelude.{ℤ, unsigned_abs, decimal}

-- ---- the whole program

abbrev pub program_names : Program → Names
program_names p = record { globals = map (λ (g : GlobalDecl). g.name) p.globals; locals = p.locals }

abbrev pub value_text : Option ℤ → Option ValueText
value_text None = None
value_text (Some v) = Some (record { negative = is_negative v; digits = decimal (unsigned_abs v) })

abbrev pub global_item : GlobalDecl → ItemText
global_item g = global g.name (value_text g.value)

abbrev pub init_item : Names → Relation → ItemText
init_item names r = init (relation_text names r) []

abbrev pub stmts_text : Names → List Stmt → BlockText
stmts_text names [] = block_end
stmts_text names (s ∷ ss) = block_more (stmt_text names s.kind) (stmts_text names ss)

-- globals, then locals, then one `init` for each relation, then the thread
abbrev pub program_text : Program → ProgramText
program_text p =
    record { items = map global_item p.globals ++ (map local p.locals ++ map (init_item (program_names p)) p.inits); body = stmts_text (program_names p) p.body }

-- ---- bytes

abbrev pub piece_text : Piece → List ℕ
piece_text (NamePiece x) = x
piece_text (NumberPiece n) = n
piece_text (Mark k) = spelling k

-- what comes after a word: a line feed after `;`, `{` and `}`, else one blank
abbrev pub byte_after : Piece → ℕ
byte_after (Mark kind.Semicolon) = 10
byte_after (Mark kind.OpenBrace) = 10
byte_after (Mark kind.CloseBrace) = 10
byte_after p = 32

abbrev pub printed : List Piece → List ℕ
printed ps = flat_map (λ (p : Piece). piece_text p ++ byte_after p ∷ []) ps

-- these pieces are put at the end of what was written before
pub record Puts (old new : List ℕ) (ps : List Piece) : Type 0 where
  pub is : new ≡ old ++ printed ps

-- the sign before a product of a sum: the first one has none where it isn't negative
abbrev pub sign_before : Bool → Bool → List Piece
sign_before true negative = minus_pieces negative
sign_before false negative = Mark (plus_or_minus negative) ∷ []

-- the word before each member of a condition but the first
abbrev pub word_between : TokenKind → Bool → List Piece
word_between k true = []
word_between k false = Mark k ∷ []

-- the bytes of a program
abbrev pub printed_program : Program → List ℕ
printed_program p = printed (program_pieces (program_text p))

-- ---- places left out

abbrev mutual
  pub unplaced_kind : StmtKind → StmtKind
  unplaced_kind (Assign x s) = stmt.Assign x s
  unplaced_kind (Havoc x) = stmt.Havoc x
  unplaced_kind (Assume c) = stmt.Assume c
  unplaced_kind (Assert c) = stmt.Assert c
  unplaced_kind Skip = stmt.Skip
  unplaced_kind (Atomic' _ b) = stmt.Atomic (unplaced_rest b)
  unplaced_kind (If' t _ b _ c) = stmt.If t (unplaced_rest b) (unplaced_rest c)
  unplaced_kind (While' t _ b) = stmt.While t (unplaced_rest b)

  pub unplaced_rest : {n : _} → Row_of-Stmt n → List Stmt
  unplaced_rest end_of-Stmt = []
  unplaced_rest (more_of-Stmt _ k rest) = record { place = record { line = 0; column = 0 }; kind = unplaced_kind k } ∷ unplaced_rest rest

-- the same program with every place left out
abbrev pub unplaced : Program → Program
unplaced p =
    record { globals = p.globals; locals = p.locals; inits = p.inits; body = map (λ (s : Stmt). record { place = record { line = 0; column = 0 }; kind = unplaced_kind s.kind }) p.body }
