-- The text that is printed of the statements of a text is read as the same statements, but for places.
use Rattle.std.proofs.Common.{◌≡◌, ℕ, ◌+◌, ◌-◌, ◌≤◌, Bool, true, false, List, [], ◌∷◌, ◌++◌, length, drop, map, refl, sym, ◌∙◌, ap, ap₂, subst}
use Rattle.ps_term.specs.declared.var.Var.{Var}
use Rattle.ps_token.specs.declared.place.Place.{Place}
use Rattle.ps_token.specs.declared.token_kind.TokenKind.TheVariants as kind
use Rattle.ps_tree.specs.declared.cond.Test.{Test}
use Rattle.ps_tree.specs.declared.stmt.Stmt.{Stmt}
use Rattle.ps_tree.specs.declared.stmt.StmtKind.{StmtKind, Row_of-Stmt, end_of-Stmt, more_of-Stmt, items-the_row-Stmt}
use Rattle.ps_tree.specs.declared.stmt.StmtKind.TheVariants as stmt
use Rattle.ps_tree.specs.declared.stmt.StmtKind.TheBlock.{hidden-the_row-Stmt-0, items_hidden-the_row-Stmt-0}
use Rattle.ps_tree.specs.declared.sum.Sum.{Sum}
use Rattle.ps_grammar.specs.Names.{Names}
use Rattle.ps_print.specs.Canonical.{cond_text, if_text, stmt_text, sum_text, test_text}
use Rattle.ps_grammar.specs.Fits.{RestFits, StmtFits}
use Rattle.ps_grammar.specs.Grammar.{StmtText, assign, havoc, assume, assert, skip, atomic, if_then, if_else, while_do, BlockText, block_end, block_more}
use Rattle.ps_print.specs.Printed.{stmts_text, unplaced_kind, unplaced_rest}
use Rattle.ps_grammar.specs.Spelling.{Mark, cond_pieces, rest_pieces, stmt_pieces, sum_pieces, test_pieces}
use Rattle.ps_grammar.specs.Trees.{block_trees, cond_tree, stmt_tree, sum_tree, test_tree}
use Rattle.ps_print.proofs.BlockPieces.{block_is}
use Rattle.ps_grammar.specs.Texts.{ArePieces}
use Rattle.ps_grammar.proofs.Texts.{joined, left, right}
use Rattle.ps_print.proofs.SumsBack.{known_again, name_again, sum_good, variable_again}
use Rattle.ps_print.proofs.CondsBack.{GoodTest, cond_good, test_good}

-- ---- places left out of lists

abbrev pub without_place : Stmt → Stmt
without_place s = record { place = record { line = 0; column = 0 }; kind = unplaced_kind s.kind }

unplaced_row : {n : _} (row : Row_of-Stmt n) → unplaced_rest row ≡ map without_place (items-the_row-Stmt n row)
unplaced_row end_of-Stmt = refl
unplaced_row (more_of-Stmt p k rest) = ap (λ (ss : List Stmt). record { place = record { line = 0; column = 0 }; kind = unplaced_kind k } ∷ ss) (unplaced_row rest)

unplaced_block : (b : List Stmt) → unplaced_rest (hidden-the_row-Stmt-0 b) ≡ map without_place b
unplaced_block b = unplaced_row (hidden-the_row-Stmt-0 b) ∙ ap (map without_place) (items_hidden-the_row-Stmt-0 b)

unplaced_atomic : (b : List Stmt) → unplaced_kind (stmt.Atomic b) ≡ stmt.Atomic (map without_place b)
unplaced_atomic b = ap stmt.Atomic (unplaced_block b)

unplaced_if : (t : Test) (a b : List Stmt) → unplaced_kind (stmt.If t a b) ≡ stmt.If t (map without_place a) (map without_place b)
unplaced_if t a b = ap₂ (λ (x y : List Stmt). stmt.If t x y) (unplaced_block a) (unplaced_block b)

unplaced_while : (t : Test) (b : List Stmt) → unplaced_kind (stmt.While t b) ≡ stmt.While t (map without_place b)
unplaced_while t b = ap (stmt.While t) (unplaced_block b)

-- ---- what is printed of statements fits, is spelled from words, and is read as them, but for places

pub record GoodStmt (names : Names) (n : ℕ) (inside : Bool) (k : StmtKind) : Type 0 where
  pub fits : StmtFits names n inside (stmt_text names k)
  pub spelled : ArePieces (stmt_pieces (stmt_text names k))
  pub back : (places : List Place) → unplaced_kind (stmt_tree names (stmt_text names k) places) ≡ unplaced_kind k

pub record GoodBlock (names : Names) (n : ℕ) (inside : Bool) (b : List Stmt) : Type 0 where
  pub fits : RestFits names n inside (stmts_text names b)
  pub spelled : ArePieces (rest_pieces (stmts_text names b))
  pub back : (places : List Place) → map without_place (block_trees names (stmts_text names b) places) ≡ map without_place b

by_text : (names : Names) (n : ℕ) (inside : Bool) (k : StmtKind) (t : StmtText) → stmt_text names k ≡ t → StmtFits names n inside t → ArePieces (stmt_pieces t)
    → ((places : List Place) → unplaced_kind (stmt_tree names t places) ≡ unplaced_kind k) → GoodStmt names n inside k
by_text names n inside k t e fits spelled back = record {
  fits = subst (StmtFits names n inside) (sym e) fits;
  spelled = subst (λ (s : StmtText). ArePieces (stmt_pieces s)) (sym e) spelled;
  back = λ places. ap (λ (s : StmtText). unplaced_kind (stmt_tree names s places)) e ∙ back places;
}

atomic_good : (names : Names) (n : ℕ) (inside : Bool) (b : List Stmt) → 1 ≤ n → GoodBlock names (n - 1) true b → GoodStmt names n inside (stmt.Atomic b)
atomic_good names n inside b some g =
    by_text names n inside (stmt.Atomic b) (atomic (stmts_text names b)) (ap atomic (block_is names b)) (some, g.fits) (tt, (tt, g.spelled))
    (λ places. unplaced_atomic (block_trees names (stmts_text names b) (drop 2 places)) ∙ ap stmt.Atomic (g.back (drop 2 places)) ∙ sym (unplaced_atomic b))

while_good : (names : Names) (n : ℕ) (inside : Bool) (t : Test) (b : List Stmt) → inside ≡ false → GoodTest names n t → 1 ≤ n → GoodBlock names (n - 1) inside b → GoodStmt names n inside (stmt.While t b)
while_good names n inside t b still g some h =
    by_text names n inside (stmt.While t b) (while_do (test_text names t) (stmts_text names b)) (ap (while_do (test_text names t)) (block_is names b)) (still, g.fits, some, h.fits)
    (tt, joined (test_pieces (test_text names t)) (Mark kind.OpenBrace ∷ rest_pieces (stmts_text names b)) g.spelled (tt, h.spelled))
    (λ places. let left_over = drop (length (test_pieces (test_text names t)) + 2) places in
    unplaced_while (test_tree names (test_text names t)) (block_trees names (stmts_text names b) left_over) ∙ ap₂ (λ (x : Test) (y : List Stmt). stmt.While x y) g.back (h.back left_over) ∙ sym (unplaced_while t b))

if_words : (names : Names) (t : Test) (a b : List Stmt) → stmt_text names (stmt.If t a b) ≡ if_text (test_text names t) (stmts_text names a) (stmts_text names b)
if_words names t a b = ap₂ (λ (y z : BlockText). if_text (test_text names t) y z) (block_is names a) (block_is names b)

-- an `if` whose second block has no statement, and one whose second block has some
if_good : (names : Names) (n : ℕ) (inside : Bool) (t : Test) (a b : List Stmt) → GoodTest names n t → 1 ≤ n → GoodBlock names (n - 1) inside a → GoodBlock names (n - 1) inside b → GoodStmt names n inside (stmt.If t a b)
if_good names n inside t a [] g some h k =
    by_text names n inside (stmt.If t a []) (if_then (test_text names t) (stmts_text names a)) (if_words names t a []) (g.fits, some, h.fits)
    (tt, joined (test_pieces (test_text names t)) (Mark kind.OpenBrace ∷ rest_pieces (stmts_text names a)) g.spelled (tt, h.spelled))
    (λ places. let left_over = drop (length (test_pieces (test_text names t)) + 2) places in
    unplaced_if (test_tree names (test_text names t)) (block_trees names (stmts_text names a) left_over) [] ∙ ap₂ (λ (x : Test) (y : List Stmt). stmt.If x y []) g.back (h.back left_over) ∙ sym (unplaced_if t a []))
if_good names n inside t a (s ∷ b) g some h k =
    by_text names n inside (stmt.If t a (s ∷ b)) (if_else (test_text names t) (stmts_text names a) (stmts_text names (s ∷ b))) (if_words names t a (s ∷ b)) (g.fits, some, h.fits, k.fits) (
      tt,
      joined (test_pieces (test_text names t)) (Mark kind.OpenBrace ∷ (rest_pieces (stmts_text names a) ++ Mark kind.Else ∷ Mark kind.OpenBrace ∷ rest_pieces (stmts_text names (s ∷ b)))) g.spelled
          (tt, joined (rest_pieces (stmts_text names a)) (Mark kind.Else ∷ Mark kind.OpenBrace ∷ rest_pieces (stmts_text names (s ∷ b))) h.spelled (tt, (tt, k.spelled))),
    )
    (λ places. let first = drop (length (test_pieces (test_text names t)) + 2) places in
    let second = drop (length (rest_pieces (stmts_text names a)) + (length (test_pieces (test_text names t)) + 4)) places in
    unplaced_if (test_tree names (test_text names t)) (block_trees names (stmts_text names a) first) (block_trees names (stmts_text names (s ∷ b)) second)
    ∙ ap₂ (λ (x : Test) (y : List Stmt). stmt.If x y (map without_place (block_trees names (stmts_text names (s ∷ b)) second))) g.back (h.back first)
    ∙ ap (λ (z : List Stmt). stmt.If t (map without_place a) z) (k.back second)
    ∙ sym (unplaced_if t a (s ∷ b)))

-- ---- the statements of texts

mutual
  pub stmt_good : (names : Names) (n : ℕ) (inside : Bool) (s : StmtText) → StmtFits names n inside s → ArePieces (stmt_pieces s) → (places : List Place) → GoodStmt names n inside (stmt_tree names s places)
  stmt_good names n inside (assign x s) fit h places =
      let g = sum_good names s fit.1 (left (sum_pieces s) (Mark kind.Semicolon ∷ []) h.1.1) in
      record {
        fits = (known_again names x fit.0, g.fits);
        spelled = (name_again names x fit.0 h.0, (tt, joined (sum_pieces (sum_text names (sum_tree names s))) (Mark kind.Semicolon ∷ []) g.spelled (tt, tt)));
        back = λ others. ap₂ (λ (v : Var) (y : Sum). stmt.Assign v y) (variable_again names x fit.0) g.back;
      }
  stmt_good names n inside (havoc x) fit h places =
      record { fits = known_again names x fit; spelled = (tt, (name_again names x fit h.1.0, (tt, tt))); back = λ others. ap stmt.Havoc (variable_again names x fit) }
  stmt_good names n inside (assume c) fit h places =
      let g = cond_good names n c fit (left (cond_pieces c) (Mark kind.Semicolon ∷ []) h.1) in
      record { fits = g.fits; spelled = (tt, joined (cond_pieces (cond_text names (cond_tree names c))) (Mark kind.Semicolon ∷ []) g.spelled (tt, tt)); back = λ others. ap stmt.Assume g.back }
  stmt_good names n inside (assert c) fit h places =
      let g = cond_good names n c fit (left (cond_pieces c) (Mark kind.Semicolon ∷ []) h.1) in
      record { fits = g.fits; spelled = (tt, joined (cond_pieces (cond_text names (cond_tree names c))) (Mark kind.Semicolon ∷ []) g.spelled (tt, tt)); back = λ others. ap stmt.Assert g.back }
  stmt_good names n inside skip fit h places = record { fits = tt; spelled = (tt, (tt, tt)); back = λ others. refl }
  stmt_good names n inside (atomic b) fit h places =
      atomic_good names n inside (block_trees names b (drop 2 places)) fit.0 (block_good names (n - 1) true b fit.1 h.1.1 (drop 2 places))
  stmt_good names n inside (if_then t b) fit h places =
      let places_b = drop (length (test_pieces t) + 2) places in
      if_good names n inside (test_tree names t) (block_trees names b places_b) [] (test_good names n t fit.0 (left (test_pieces t) (Mark kind.OpenBrace ∷ rest_pieces b) h.1)) fit.1
      (block_good names (n - 1) inside b fit.2 (right (test_pieces t) (Mark kind.OpenBrace ∷ rest_pieces b) h.1).1 places_b)
      (record { fits = tt; spelled = (tt, tt); back = λ others. refl })
  stmt_good names n inside (if_else t b c) fit h places =
      let places_b = drop (length (test_pieces t) + 2) places in
      let places_c = drop (length (rest_pieces b) + (length (test_pieces t) + 4)) places in
      let further = Mark kind.Else ∷ Mark kind.OpenBrace ∷ rest_pieces c in
      let blocks = (right (test_pieces t) (Mark kind.OpenBrace ∷ (rest_pieces b ++ further)) h.1).1 in
      if_good names n inside (test_tree names t) (block_trees names b places_b) (block_trees names c places_c) (test_good names n t fit.0 (left (test_pieces t) (Mark kind.OpenBrace ∷ (rest_pieces b ++ further)) h.1)) fit.1
      (block_good names (n - 1) inside b fit.2 (left (rest_pieces b) further blocks) places_b)
      (block_good names (n - 1) inside c fit.3 (right (rest_pieces b) further blocks).1.1 places_c)
  stmt_good names n inside (while_do t b) fit h places =
      let places_b = drop (length (test_pieces t) + 2) places in
      while_good names n inside (test_tree names t) (block_trees names b places_b) fit.0 (test_good names n t fit.1 (left (test_pieces t) (Mark kind.OpenBrace ∷ rest_pieces b) h.1)) fit.2
      (block_good names (n - 1) inside b fit.3 (right (test_pieces t) (Mark kind.OpenBrace ∷ rest_pieces b) h.1).1 places_b)

  pub block_good : (names : Names) (n : ℕ) (inside : Bool) (b : BlockText) → RestFits names n inside b → ArePieces (rest_pieces b) → (places : List Place) → GoodBlock names n inside (block_trees names b places)
  block_good names n inside block_end fit h places = record { fits = tt; spelled = (tt, tt); back = λ others. refl }
  block_good names n inside (block_more s b) fit h places =
      let further = drop (length (stmt_pieces s)) places in
      let g = stmt_good names n inside s fit.0 (left (stmt_pieces s) (rest_pieces b) h) places in
      let r = block_good names n inside b fit.1 (right (stmt_pieces s) (rest_pieces b) h) further in
      let printed = stmt_text names (stmt_tree names s places) in
      record {
        fits = (g.fits, r.fits);
        spelled = joined (stmt_pieces printed) (rest_pieces (stmts_text names (block_trees names b further))) g.spelled r.spelled;
        back = λ others. ap₂ (λ (k : StmtKind) (ss : List Stmt). record { place = record { line = 0; column = 0 }; kind = k } ∷ ss) (g.back others) (r.back (drop (length (stmt_pieces printed)) others));
      }
