-- A program that is read can be compiled: its numbers have at most 18 digits, and its names are declared.
use Rattle.std.proofs.Common.{◌≡◌, ◌≢◌, Bool, true, false, refl, sym, subst, ℕ, ◌+◌, ◌-◌, ◌^◌, ◌<◌, ◌≤◌, ℤ, List, [], ◌∷◌, ◌++◌, map, length, drop, if◌then◌else◌, arith}
use Rattle.std.specs.Prelude.{Option, Some, None, ◌==◌, nat_lt, option_map}
use Rattle.std.specs.List.{AllByRecursion, flat_map}
use Rattle.std.specs.Str.{bytes_eq}
use Rattle.std.proofs.lemmas.Bool.Decides.{nat_tests}
use Rattle.std.proofs.lemmas.List.{length-append, length-map}
use Rattle.std.proofs.lemmas.List.Elements.{All-from_recursion, recursion_from_All}
use Rattle.ps_command.specs.Named.{is_declared}
use Rattle.ps_compile.proofs.Declaring.{all_joined, both, left_of, right_of}
use Rattle.ps_compile.proofs.Facts.{each}
use Rattle.ps_compile.proofs.Members.{asked_of_and, asked_of_or, asked_of_not}
use Rattle.ps_compile.proofs.Small.{small_turned}
use Rattle.ps_compile.specs.Conditions.{IsCompilable, IsCompilableProduct, IsCompilableSum, IsCompilableRelation, IsCompilableCond, IsCompilableTest, IsCompilableStmt, IsCompilableBlock, IsSmall, IsSmallValue}
use Rattle.ps_grammar.proofs.Texts.{left, right, tree_of_text, value_below}
use Rattle.ps_grammar.specs.Declarations.{Declared, most_levels, names_of, nothing_declared}
use Rattle.ps_grammar.specs.Fits.{IsKnownName, ProductFits, SumTextFits, RelationFits, CondFits, ConjFits, UnaryFits, TestFits, StmtFits, RestFits, ItemFits, ItemsFit, ProgramFits}
use Rattle.ps_grammar.specs.Grammar.{ProductText, number, name, number_name, name_number, SumText, RelationText, CondText, last_conj, or_else, ConjText, last_unary, and_also, UnaryText, negation, in_parens, relation, TestText, either, condition, StmtText, assign, havoc, assume, assert, skip, atomic, if_then, if_else, while_do, BlockText, block_end, block_more, ValueText, ItemText, global, local, init, ProgramText}
use Rattle.ps_grammar.specs.Names.{Names, first_of, position_from}
use Rattle.ps_grammar.specs.Numbers.{number_value, signed}
use Rattle.ps_grammar.specs.Programs.{IsProgram}
use Rattle.ps_grammar.specs.Spelling.{Piece, NumberPiece, Mark, block_pieces, cond_pieces, conj_pieces, further_pieces, item_pieces, minus_pieces, more_relations, product_pieces, program_pieces, relation_pieces, rest_pieces, sign_kind, stmt_pieces, sum_pieces, test_pieces, unary_pieces, value_pieces}
use Rattle.ps_grammar.specs.Texts.{ArePieces, IsTreeOfText}
use Rattle.ps_grammar.specs.Trees.{block_trees, cond_members, cond_tree, conj_members, gathered, product_tree, program_tree, relation_tree, stmt_tree, sum_tree, test_tree, unary_tree, declared_value, variable_named, variable_or_first, with_item, with_items}
use Rattle.ps_term.specs.declared.var.Var.{Var}
use Rattle.ps_term.specs.declared.var.Var.TheVariants.{Global, Local, Havoc as HavocVar}
use Rattle.ps_token.specs.declared.place.Place.{Place}
use Rattle.ps_token.specs.declared.token_kind.TokenKind.TheVariants as kind
use Rattle.ps_tree.specs.declared.cond.Cond.{Cond}
use Rattle.ps_tree.specs.declared.cond.Cond.TheVariants as cond
use Rattle.ps_tree.specs.declared.global_decl.GlobalDecl.{GlobalDecl}
use Rattle.ps_tree.specs.declared.program.Program.{Program}
use Rattle.ps_tree.specs.declared.relation.Relation.{Relation}
use Rattle.ps_tree.specs.declared.relation.Sign.TheVariants.{NotEqual}
use Rattle.ps_tree.specs.declared.stmt.Stmt.{Stmt}
use Rattle.ps_tree.specs.declared.stmt.StmtKind.{Row_of-Stmt, end_of-Stmt, more_of-Stmt, items-the_row-Stmt}
use Rattle.ps_tree.specs.declared.stmt.StmtKind.TheBlock.{hidden-the_row-Stmt-0, items_hidden-the_row-Stmt-0}

-- ---- names

position_below : (i k : ℕ) (x : List ℕ) (ns : List (List ℕ)) → position_from i x ns ≡ Some k → k < i + length ns
position_below i k x [] e = absurd (let no : None ≡ Some k = e in cc)
position_below i k x (n ∷ ns) e = at (bytes_eq n x) e (λ h. position_below (i + 1) k x ns h)
  where
    at : (t : Bool) → (if t then Some i else position_from (i + 1) x ns) ≡ Some k → (position_from (i + 1) x ns ≡ Some k → k < (i + 1) + length ns) → k < i + length (n ∷ ns)
    at true h further = let same : i ≡ k = cc in omega (arith, same)
    at false h further = let less : k < (i + 1) + length ns = further h in omega (arith, less)

known_at : (names : Names) (x : List ℕ) (g l : Option ℕ) → position_from 0 x names.globals ≡ g → position_from 0 x names.locals ≡ l →
    first_of (option_map Global g) (option_map (Local 0) l) ≢ None →
    is_declared (length names.globals) (length names.locals) (variable_or_first (first_of (option_map Global g) (option_map (Local 0) l))) ≡ true
known_at names x (Some k) l e f some = let less : k < 0 + length names.globals = position_below 0 k x names.globals e in grind (arith, nat_tests)
known_at names x None (Some k) e f some = let less : k < 0 + length names.locals = position_below 0 k x names.locals f in grind (arith, nat_tests)
known_at names x None None e f some = absurd (some refl)

known : (names : Names) (x : List ℕ) → IsKnownName names x → is_declared (length names.globals) (length names.locals) (variable_named names x) ≡ true
known names x k = known_at names x (position_from 0 x names.globals) (position_from 0 x names.locals) refl refl k

-- ---- more may be declared

below_wider : (n g h : ℕ) → g ≤ h → nat_lt n g ≡ true → nat_lt n h ≡ true
below_wider n g h more e = grind (arith, nat_tests)

declared_wider : (g l h m : ℕ) (x : Var) → g ≤ h → l ≤ m → is_declared g l x ≡ true → is_declared h m x ≡ true
declared_wider g l h m (Global n) i j e = below_wider n g h i e
declared_wider g l h m (Local t n) i j e =
    both (t == 0) (nat_lt n m) (left_of (t == 0) (nat_lt n l) e) (below_wider n l m j (right_of (t == 0) (nat_lt n l) e))
declared_wider g l h m (HavocVar n) i j e = e

products_wider : (g l h m : ℕ) → g ≤ h → l ≤ m → (ps : List (ℤ × Option Var)) → AllByRecursion (IsCompilableProduct g l) ps → AllByRecursion (IsCompilableProduct h m) ps
products_wider g l h m i j [] k = tt
products_wider g l h m i j ((n, None) ∷ ps) k = (k.0, products_wider g l h m i j ps k.1)
products_wider g l h m i j ((n, Some x) ∷ ps) k = ((k.0.0, declared_wider g l h m x i j k.0.1), products_wider g l h m i j ps k.1)

relation_wider : (g l h m : ℕ) → g ≤ h → l ≤ m → (r : Relation) → IsCompilableRelation g l r → IsCompilableRelation h m r
relation_wider g l h m i j r k = (products_wider g l h m i j r.left.terms k.0, products_wider g l h m i j r.right.terms k.1)

-- ---- rows of statements are lists

asked_block : (g l : ℕ) (inside : Bool) {n : _} (row : Row_of-Stmt n) → AllByRecursion (λ (s : Stmt). IsCompilableStmt g l inside s.kind) (items-the_row-Stmt n row) → IsCompilableBlock g l inside row
asked_block g l inside end_of-Stmt h = tt
asked_block g l inside (more_of-Stmt place k rest) h = (h.0, asked_block g l inside rest h.1)

asked_list : (g l : ℕ) (inside : Bool) (b : List Stmt) → AllByRecursion (λ (s : Stmt). IsCompilableStmt g l inside s.kind) b → IsCompilableBlock g l inside (hidden-the_row-Stmt-0 b)
asked_list g l inside b h =
    asked_block g l inside (hidden-the_row-Stmt-0 b)
    (subst (AllByRecursion (λ (s : Stmt). IsCompilableStmt g l inside s.kind)) (sym (items_hidden-the_row-Stmt-0 b)) h)

gathered_asked : (P : Cond → Type 0) (all : List Cond → Cond) → ((cs : List Cond) → AllByRecursion P cs → P (all cs)) → (cs : List Cond) → AllByRecursion P cs → P (gathered all cs)
gathered_asked P all step [] h = step [] h
gathered_asked P all step (c ∷ []) h = h.0
gathered_asked P all step (c ∷ d ∷ ds) h = step (c ∷ d ∷ ds) h

signed_asked : (g l : ℕ) (b : Bool) (p : ℤ × Option Var) → IsCompilableProduct g l p → IsCompilableProduct g l (signed b p)
signed_asked g l false p h = h
signed_asked g l true p h = (small_turned p.0 h.0, h.1)

module _ (names : Names) where
  abbrev g : ℕ
  g = length names.globals

  abbrev l : ℕ
  l = length names.locals

  product_asked : (t : ProductText) → ProductFits names t → ArePieces (product_pieces t) → IsCompilableProduct g l (product_tree names t)
  product_asked (number n) f h = (value_below n h.0, tt)
  product_asked (name x) f h = (let small : 1 < 10 ^ 18 = omega arith in small, known names x f)
  product_asked (number_name n x) f h = (value_below n h.0, known names x f)
  product_asked (name_number x n) f h = (value_below n h.1.1.0, known names x f)

  further_asked : (ps : List (Bool × ProductText)) → AllByRecursion (λ (p : Bool × ProductText). ProductFits names p.1) ps → ArePieces (further_pieces ps) →
      AllByRecursion (IsCompilableProduct g l) (map (λ (p : Bool × ProductText). signed p.0 (product_tree names p.1)) ps)
  further_asked [] f h = tt
  further_asked (p ∷ ps) f h = (
    signed_asked g l p.0 (product_tree names p.1) (product_asked p.1 f.0 (left (product_pieces p.1) (further_pieces ps) h.1)),
    further_asked ps f.1 (right (product_pieces p.1) (further_pieces ps) h.1),
  )

  sum_asked : (s : SumText) → SumTextFits names s → ArePieces (sum_pieces s) → IsCompilableSum g l (sum_tree names s)
  sum_asked s f h =
      let rest : ArePieces (product_pieces s.first ++ further_pieces s.further) = right (minus_pieces s.negative) (product_pieces s.first ++ further_pieces s.further) h in (
        signed_asked g l s.negative (product_tree names s.first) (product_asked s.first f.0 (left (product_pieces s.first) (further_pieces s.further) rest)),
        further_asked s.further (recursion_from_All (λ (p : Bool × ProductText). ProductFits names p.1) s.further f.1) (right (product_pieces s.first) (further_pieces s.further) rest),
      )

  relation_asked : (r : RelationText) → RelationFits names r → ArePieces (relation_pieces r) → IsCompilableRelation g l (relation_tree names r)
  relation_asked r f h =
      let rest : ArePieces (Mark (sign_kind r.sign) ∷ sum_pieces r.right) = right (sum_pieces r.left) (Mark (sign_kind r.sign) ∷ sum_pieces r.right) h in
      (sum_asked r.left f.0 (left (sum_pieces r.left) (Mark (sign_kind r.sign) ∷ sum_pieces r.right) h), sum_asked r.right f.1 rest.1)

  mutual
    cond_asked : (n : ℕ) (c : CondText) → CondFits names n c → ArePieces (cond_pieces c) → AllByRecursion (IsCompilableCond g l) (cond_members names c)
    cond_asked n (last_conj c) f h = (gathered_asked (IsCompilableCond g l) cond.And (asked_of_and g l) (conj_members names c) (conj_asked n c f h), tt)
    cond_asked n (or_else c rest) f h =
        let more : ArePieces (Mark kind.Or ∷ cond_pieces rest) = right (conj_pieces c) (Mark kind.Or ∷ cond_pieces rest) h in (
          gathered_asked (IsCompilableCond g l) cond.And (asked_of_and g l) (conj_members names c) (conj_asked n c f.0 (left (conj_pieces c) (Mark kind.Or ∷ cond_pieces rest) h)),
          cond_asked n rest f.1 more.1,
        )

    conj_asked : (n : ℕ) (c : ConjText) → ConjFits names n c → ArePieces (conj_pieces c) → AllByRecursion (IsCompilableCond g l) (conj_members names c)
    conj_asked n (last_unary u) f h = (unary_asked n u f h, tt)
    conj_asked n (and_also u rest) f h =
        let more : ArePieces (Mark kind.And ∷ conj_pieces rest) = right (unary_pieces u) (Mark kind.And ∷ conj_pieces rest) h in
        (unary_asked n u f.0 (left (unary_pieces u) (Mark kind.And ∷ conj_pieces rest) h), conj_asked n rest f.1 more.1)

    unary_asked : (n : ℕ) (u : UnaryText) → UnaryFits names n u → ArePieces (unary_pieces u) → IsCompilableCond g l (unary_tree names u)
    unary_asked n (negation u) f h = asked_of_not g l (unary_tree names u) (unary_asked (n - 1) u f.1 h.1)
    unary_asked n (in_parens c) f h =
        gathered_asked (IsCompilableCond g l) cond.Or (asked_of_or g l) (cond_members names c)
        (cond_asked (n - 1) c f.1 (left (cond_pieces c) (Mark kind.CloseParen ∷ []) h.1))
    unary_asked n (relation r) f h = relation_asked r f h

  tree_asked : (n : ℕ) (c : CondText) → CondFits names n c → ArePieces (cond_pieces c) → IsCompilableCond g l (cond_tree names c)
  tree_asked n c f h = gathered_asked (IsCompilableCond g l) cond.Or (asked_of_or g l) (cond_members names c) (cond_asked n c f h)

  test_asked : (n : ℕ) (t : TestText) → TestFits names n t → ArePieces (test_pieces t) → IsCompilableTest g l (test_tree names t)
  test_asked n either f h = tt
  test_asked n (condition c) f h = tree_asked (n - 1) c f.1 (left (cond_pieces c) (Mark kind.CloseParen ∷ []) h.1)

  -- what stands after a test in its parentheses
  after_test : (t : TestText) (rest : List Piece) → ArePieces (test_pieces t ++ Mark kind.OpenBrace ∷ rest) → ArePieces rest
  after_test t rest h = let more : ArePieces (Mark kind.OpenBrace ∷ rest) = right (test_pieces t) (Mark kind.OpenBrace ∷ rest) h in more.1

  mutual
    stmt_asked : (n : ℕ) (inside : Bool) (s : StmtText) → StmtFits names n inside s → ArePieces (stmt_pieces s) → (places : List Place) → IsCompilableStmt g l inside (stmt_tree names s places)
    stmt_asked n inside (assign x s) f h places = (known names x f.0, sum_asked s f.1 (left (sum_pieces s) (Mark kind.Semicolon ∷ []) h.1.1))
    stmt_asked n inside (havoc x) f h places = known names x f
    stmt_asked n inside (assume c) f h places = tree_asked n c f (left (cond_pieces c) (Mark kind.Semicolon ∷ []) h.1)
    stmt_asked n inside (assert c) f h places = tree_asked n c f (left (cond_pieces c) (Mark kind.Semicolon ∷ []) h.1)
    stmt_asked n inside skip f h places = tt
    stmt_asked n inside (atomic b) f h places = asked_list g l true (block_trees names b (drop 2 places)) (block_asked (n - 1) true b f.1 h.1.1 (drop 2 places))
    stmt_asked n inside (if_then t b) f h places = (
      test_asked n t f.0 (left (test_pieces t) (Mark kind.OpenBrace ∷ rest_pieces b) h.1),
      asked_list g l inside (block_trees names b (drop (length (test_pieces t) + 2) places))
          (block_asked (n - 1) inside b f.2 (after_test t (rest_pieces b) h.1) (drop (length (test_pieces t) + 2) places)),
      asked_list g l inside [] tt,
    )
    stmt_asked n inside (if_else t b c) f h places =
        let blocks : ArePieces (rest_pieces b ++ Mark kind.Else ∷ Mark kind.OpenBrace ∷ rest_pieces c) =
        after_test t (rest_pieces b ++ Mark kind.Else ∷ Mark kind.OpenBrace ∷ rest_pieces c) h.1 in
        let other : ArePieces (Mark kind.Else ∷ Mark kind.OpenBrace ∷ rest_pieces c) = right (rest_pieces b) (Mark kind.Else ∷ Mark kind.OpenBrace ∷ rest_pieces c) blocks in (
          test_asked n t f.0 (left (test_pieces t) (Mark kind.OpenBrace ∷ (rest_pieces b ++ Mark kind.Else ∷ Mark kind.OpenBrace ∷ rest_pieces c)) h.1),
          asked_list g l inside (block_trees names b (drop (length (test_pieces t) + 2) places))
              (block_asked (n - 1) inside b f.2 (left (rest_pieces b) (Mark kind.Else ∷ Mark kind.OpenBrace ∷ rest_pieces c) blocks) (drop (length (test_pieces t) + 2) places)),
          asked_list g l inside (block_trees names c (drop (length (rest_pieces b) + (length (test_pieces t) + 4)) places))
              (block_asked (n - 1) inside c f.3 other.1.1 (drop (length (rest_pieces b) + (length (test_pieces t) + 4)) places)),
        )
    stmt_asked n inside (while_do t b) f h places = (
      f.0,
      test_asked n t f.1 (left (test_pieces t) (Mark kind.OpenBrace ∷ rest_pieces b) h.1),
      asked_list g l inside (block_trees names b (drop (length (test_pieces t) + 2) places))
          (block_asked (n - 1) inside b f.3 (after_test t (rest_pieces b) h.1) (drop (length (test_pieces t) + 2) places)),
    )

    block_asked : (n : ℕ) (inside : Bool) (b : BlockText) → RestFits names n inside b → ArePieces (rest_pieces b) → (places : List Place) →
        AllByRecursion (λ (s : Stmt). IsCompilableStmt g l inside s.kind) (block_trees names b places)
    block_asked n inside block_end f h places = tt
    block_asked n inside (block_more s b) f h places = (
      stmt_asked n inside s f.0 (left (stmt_pieces s) (rest_pieces b) h) places,
      block_asked n inside b f.1 (right (stmt_pieces s) (rest_pieces b) h) (drop (length (stmt_pieces s)) places),
    )

-- ---- declarations

-- what is asked of all that is declared
record Asked (d : Declared) : Type 0 where
  values : AllByRecursion (λ (v : GlobalDecl). IsSmallValue v.value) d.globals
  inits : AllByRecursion (IsCompilableRelation (length d.globals) (length d.locals)) d.inits
  signs : AllByRecursion (λ (r : Relation). r.sign ≢ NotEqual) d.inits

value_asked : (v : Option ValueText) → ArePieces (value_pieces v) → IsSmallValue (declared_value v)
value_asked None h = tt
value_asked (Some v) h = at v.negative (right (minus_pieces v.negative) (NumberPiece v.digits ∷ []) h.1)
  where
    at : (b : Bool) → ArePieces (NumberPiece v.digits ∷ []) → IsSmall (signed b (number_value v.digits, None)).0
    at false k = value_below v.digits k.0
    at true k = small_turned (number_value v.digits) (value_below v.digits k.0)

wider_inits : (d : Declared) (g l : ℕ) → length d.globals ≤ g → length d.locals ≤ l → Asked d → AllByRecursion (IsCompilableRelation g l) d.inits
wider_inits d g l i j a =
    each (IsCompilableRelation (length d.globals) (length d.locals)) (IsCompilableRelation g l) (λ r. relation_wider (length d.globals) (length d.locals) g l i j r) d.inits a.inits

longer : {X : Type 0} (xs : List X) (x : X) → length xs ≤ length (xs ++ x ∷ [])
longer xs x = omega (arith, length-append xs (x ∷ []))

declared_relation : (d : Declared) (r : RelationText) → RelationFits (names_of d) r → ArePieces (relation_pieces r) →
    IsCompilableRelation (length d.globals) (length d.locals) (relation_tree (names_of d) r)
declared_relation d r f h =
    relation_wider (length (names_of d).globals) (length d.locals) (length d.globals) (length d.locals)
    (omega (arith, length-map d.globals (λ (g : GlobalDecl). g.name))) (omega arith) (relation_tree (names_of d) r) (relation_asked (names_of d) r f h)

relations_asked : (d : Declared) (rs : List RelationText) → AllByRecursion (λ (s : RelationText). RelationFits (names_of d) s × (s.sign ≢ NotEqual)) rs → ArePieces (more_relations rs) →
    AllByRecursion (IsCompilableRelation (length d.globals) (length d.locals)) (map (relation_tree (names_of d)) rs)
relations_asked d [] f h = tt
relations_asked d (r ∷ rs) f h = (
  declared_relation d r f.0.0 (left (relation_pieces r) (more_relations rs) h.1),
  relations_asked d rs f.1 (right (relation_pieces r) (more_relations rs) h.1),
)

signs_asked : (d : Declared) (rs : List RelationText) → AllByRecursion (λ (s : RelationText). RelationFits (names_of d) s × (s.sign ≢ NotEqual)) rs →
    AllByRecursion (λ (r : Relation). r.sign ≢ NotEqual) (map (relation_tree (names_of d)) rs)
signs_asked d [] f = tt
signs_asked d (r ∷ rs) f = (f.0.1, signs_asked d rs f.1)

item_asked : (d : Declared) (i : ItemText) → ItemFits d i → ArePieces (item_pieces i) → Asked d → Asked (with_item d i)
item_asked d (global x v) f h a =
    let new : GlobalDecl = record { name = x; value = declared_value v } in record {
      values = all_joined (λ (e : GlobalDecl). IsSmallValue e.value) d.globals (new ∷ []) a.values (value_asked v (left (value_pieces v) (Mark kind.Semicolon ∷ []) h.1.1), tt);
      inits = wider_inits d (length (d.globals ++ new ∷ [])) (length d.locals) (longer d.globals new) (omega arith) a;
      signs = a.signs;
    }
item_asked d (local x) f h a = record {
  values = a.values;
  inits = wider_inits d (length d.globals) (length (d.locals ++ x ∷ [])) (omega arith) (longer d.locals x) a;
  signs = a.signs;
}
item_asked d (init r rs) f h a =
    let fit : AllByRecursion (λ (s : RelationText). RelationFits (names_of d) s × (s.sign ≢ NotEqual)) (r ∷ rs) =
    recursion_from_All (λ (s : RelationText). RelationFits (names_of d) s × (s.sign ≢ NotEqual)) (r ∷ rs) f.0 in
    let others : ArePieces (more_relations rs ++ Mark kind.Semicolon ∷ []) = right (relation_pieces r) (more_relations rs ++ Mark kind.Semicolon ∷ []) h.1 in record {
      values = a.values;
      inits = all_joined (IsCompilableRelation (length d.globals) (length d.locals)) d.inits (map (relation_tree (names_of d)) (r ∷ rs)) a.inits (
        declared_relation d r fit.0.0 (left (relation_pieces r) (more_relations rs ++ Mark kind.Semicolon ∷ []) h.1),
        relations_asked d rs fit.1 (left (more_relations rs) (Mark kind.Semicolon ∷ []) others),
      );
      signs = all_joined (λ (s : Relation). s.sign ≢ NotEqual) d.inits (map (relation_tree (names_of d)) (r ∷ rs)) a.signs (signs_asked d (r ∷ rs) fit);
    }

items_asked : (d : Declared) (is : List ItemText) → ItemsFit d is → ArePieces (flat_map item_pieces is) → Asked d → Asked (with_items d is)
items_asked d [] f h a = a
items_asked d (i ∷ is) f h a =
    items_asked (with_item d i) is f.1 (right (item_pieces i) (flat_map item_pieces is) h) (item_asked d i f.0 (left (item_pieces i) (flat_map item_pieces is) h) a)

-- ---- programs

text_asked : (t : ProgramText) (places : List Place) → ProgramFits t → ArePieces (program_pieces t) → IsCompilable (program_tree t places)
text_asked t places f h =
    let d : Declared = with_items nothing_declared t.items in
    let a : Asked d = items_asked nothing_declared t.items f.items (left (flat_map item_pieces t.items) (Mark kind.Thread ∷ block_pieces t.body) h) (record { values = tt; inits = tt; signs = tt }) in
    let body : ArePieces (Mark kind.Thread ∷ block_pieces t.body) = right (flat_map item_pieces t.items) (Mark kind.Thread ∷ block_pieces t.body) h in record {
      values = a.values;
      inits = a.inits;
      signs = All-from_recursion (λ (r : Relation). r.sign ≢ NotEqual) d.inits a.signs;
      body = subst
          (λ (k : ℕ). AllByRecursion (λ (s : Stmt). IsCompilableStmt k (length d.locals) false s.kind) (block_trees (names_of d) t.body (drop (length (flat_map item_pieces t.items) + 2) places)))
          (length-map d.globals (λ (v : GlobalDecl). v.name))
          (block_asked (names_of d) (most_levels - 1) false t.body f.body body.1.1 (drop (length (flat_map item_pieces t.items) + 2) places));
    }

-- the tree of a text can be compiled
pub tree_compilable : (p : Program) → IsTreeOfText p → IsCompilable p
tree_compilable p h = subst IsCompilable (sym h.tree) (text_asked h.text h.places h.fits h.spelled)

pub readable : (bytes : List ℕ) (p : Program) → IsProgram bytes p → IsCompilable p
readable bytes p h = tree_compilable p (tree_of_text bytes p h)
