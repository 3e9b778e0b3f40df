-- How the texts of the grammar are spelled.
use Rattle.std.specs.Prelude.{ℕ, Bool, true, false, List, [], ◌∷◌, ◌++◌, map, Option, Some, None}
use Rattle.std.specs.List.{flat_map}
use Rattle.ps_token.specs.declared.token_kind.TokenKind.{TokenKind}
use Rattle.ps_token.specs.declared.token_kind.TokenKind.TheVariants as kind
use Rattle.ps_tree.specs.declared.relation.Sign.{Sign}
use Rattle.ps_tree.specs.declared.relation.Sign.TheVariants as sign
use Rattle.ps_grammar.specs.Grammar.{ProductText, number, name, number_name, name_number, SumText, RelationText, CondText, last_conj, or_else, ConjText, last_unary, and_also, UnaryText, negation, in_parens, relation, TestText, either, condition, StmtText, assign, havoc, assume, assert, skip, atomic, if_then, if_else, while_do, BlockText, block_end, block_more, ValueText, ItemText, global, local, init, ProgramText}
use Rattle.ps_grammar.specs.Words.{Word}

-- What a word is without its place: a name or a number with its bytes, or one of the reserved names and signs.
pub data Piece : Type 0 where
  NamePiece : List ℕ → Piece
  NumberPiece : List ℕ → Piece
  Mark : TokenKind → Piece

abbrev pub piece_of_kind : TokenKind → List ℕ → Piece
piece_of_kind kind.Name text = NamePiece text
piece_of_kind kind.Number text = NumberPiece text
piece_of_kind k text = Mark k

abbrev pub pieces : List Word → List Piece
pieces words = map (λ (w : Word). piece_of_kind w.kind w.text) words

abbrev pub product_pieces : ProductText → List Piece
product_pieces (number n) = NumberPiece n ∷ []
product_pieces (name x) = NamePiece x ∷ []
product_pieces (number_name n x) = NumberPiece n ∷ Mark kind.Star ∷ NamePiece x ∷ []
product_pieces (name_number x n) = NamePiece x ∷ Mark kind.Star ∷ NumberPiece n ∷ []

-- `-` where it is said
abbrev pub minus_pieces : Bool → List Piece
minus_pieces true = Mark kind.Minus ∷ []
minus_pieces false = []

-- `-` or `+`
abbrev pub plus_or_minus : Bool → TokenKind
plus_or_minus true = kind.Minus
plus_or_minus false = kind.Plus

abbrev pub further_pieces : List (Bool × ProductText) → List Piece
further_pieces [] = []
further_pieces (p ∷ ps) = Mark (plus_or_minus p.0) ∷ (product_pieces p.1 ++ further_pieces ps)

abbrev pub sum_pieces : SumText → List Piece
sum_pieces s = minus_pieces s.negative ++ (product_pieces s.first ++ further_pieces s.further)

abbrev pub sign_kind : Sign → TokenKind
sign_kind sign.Less = kind.Less
sign_kind sign.LessEq = kind.LessEq
sign_kind sign.Greater = kind.Greater
sign_kind sign.GreaterEq = kind.GreaterEq
sign_kind sign.Equal = kind.EqualEqual
sign_kind sign.NotEqual = kind.NotEqual

abbrev pub relation_pieces : RelationText → List Piece
relation_pieces r = sum_pieces r.left ++ Mark (sign_kind r.sign) ∷ sum_pieces r.right

abbrev mutual
  pub cond_pieces : CondText → List Piece
  cond_pieces (last_conj c) = conj_pieces c
  cond_pieces (or_else c rest) = conj_pieces c ++ Mark kind.Or ∷ cond_pieces rest

  pub conj_pieces : ConjText → List Piece
  conj_pieces (last_unary u) = unary_pieces u
  conj_pieces (and_also u rest) = unary_pieces u ++ Mark kind.And ∷ conj_pieces rest

  pub unary_pieces : UnaryText → List Piece
  unary_pieces (negation u) = Mark kind.Not ∷ unary_pieces u
  unary_pieces (in_parens c) = Mark kind.OpenParen ∷ (cond_pieces c ++ Mark kind.CloseParen ∷ [])
  unary_pieces (relation r) = relation_pieces r

-- a test in its parentheses
abbrev pub test_pieces : TestText → List Piece
test_pieces either = Mark kind.OpenParen ∷ Mark kind.Star ∷ Mark kind.CloseParen ∷ []
test_pieces (condition c) = Mark kind.OpenParen ∷ (cond_pieces c ++ Mark kind.CloseParen ∷ [])

abbrev mutual
  pub stmt_pieces : StmtText → List Piece
  stmt_pieces (assign x s) = NamePiece x ∷ Mark kind.Becomes ∷ (sum_pieces s ++ Mark kind.Semicolon ∷ [])
  stmt_pieces (havoc x) = Mark kind.Havoc ∷ NamePiece x ∷ Mark kind.Semicolon ∷ []
  stmt_pieces (assume c) = Mark kind.Assume ∷ (cond_pieces c ++ Mark kind.Semicolon ∷ [])
  stmt_pieces (assert c) = Mark kind.Assert ∷ (cond_pieces c ++ Mark kind.Semicolon ∷ [])
  stmt_pieces skip = Mark kind.Skip ∷ Mark kind.Semicolon ∷ []
  stmt_pieces (atomic b) = Mark kind.Atomic ∷ Mark kind.OpenBrace ∷ rest_pieces b
  stmt_pieces (if_then t b) = Mark kind.If ∷ (test_pieces t ++ Mark kind.OpenBrace ∷ rest_pieces b)
  stmt_pieces (if_else t b c) = Mark kind.If ∷ (test_pieces t ++ Mark kind.OpenBrace ∷ (rest_pieces b ++ Mark kind.Else ∷ Mark kind.OpenBrace ∷ rest_pieces c))
  stmt_pieces (while_do t b) = Mark kind.While ∷ (test_pieces t ++ Mark kind.OpenBrace ∷ rest_pieces b)

  -- statements up to the closing brace
  pub rest_pieces : BlockText → List Piece
  rest_pieces block_end = Mark kind.CloseBrace ∷ []
  rest_pieces (block_more s b) = stmt_pieces s ++ rest_pieces b

-- a block with its braces
abbrev pub block_pieces : BlockText → List Piece
block_pieces b = Mark kind.OpenBrace ∷ rest_pieces b

abbrev pub value_pieces : Option ValueText → List Piece
value_pieces None = []
value_pieces (Some v) = Mark kind.Equal ∷ (minus_pieces v.negative ++ NumberPiece v.digits ∷ [])

abbrev pub more_relations : List RelationText → List Piece
more_relations [] = []
more_relations (r ∷ rs) = Mark kind.And ∷ (relation_pieces r ++ more_relations rs)

abbrev pub item_pieces : ItemText → List Piece
item_pieces (global x v) = Mark kind.Global ∷ NamePiece x ∷ (value_pieces v ++ Mark kind.Semicolon ∷ [])
item_pieces (local x) = Mark kind.Local ∷ NamePiece x ∷ Mark kind.Semicolon ∷ []
item_pieces (init r rs) = Mark kind.Init ∷ (relation_pieces r ++ (more_relations rs ++ Mark kind.Semicolon ∷ []))

abbrev pub program_pieces : ProgramText → List Piece
program_pieces p = flat_map item_pieces p.items ++ Mark kind.Thread ∷ block_pieces p.body
