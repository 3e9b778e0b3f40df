-- The laws of statements and blocks.
use Rattle.std.proofs.Common.{◌≡◌, ℕ, zero, suc, ◌+◌, ◌≤◌, Bool, true, false, ◌⊎◌, inl, inr, List, [], ◌∷◌, ◌++◌, length, drop, Option, Some, None, refl, sym, ap, ◌∙◌, arith, append_assoc, length-append}
use Rattle.std.specs.Prelude.{not}
use Rattle.std.specs.List.{flat_map}
use Rattle.std.proofs.lemmas.List.{append-nil, drop-drop}
use Rattle.ps_token.specs.declared.place.Place.{Place}
use Rattle.ps_token.specs.declared.token_kind.TokenKind.{TokenKind}
use Rattle.ps_token.specs.declared.token_kind.TokenKind.TheVariants as kind
use Rattle.ps_tree.specs.declared.cond.Cond.{Cond}
use Rattle.ps_tree.specs.declared.stmt.Stmt.{Stmt}
use Rattle.ps_tree.specs.declared.stmt.StmtKind.{StmtKind}
use Rattle.ps_tree.specs.declared.stmt.StmtKind.TheVariants as stmt
use Rattle.ps_grammar.specs.Grammar.{SumText, TestText, either, StmtText, assign, havoc, assume, assert, skip, atomic, if_then, if_else, while_do, BlockText, block_end, block_more}
use Rattle.ps_grammar.specs.Names.{Names}
use Rattle.ps_grammar.specs.Spelling.{Piece, Mark, pieces, cond_pieces, test_pieces, stmt_pieces, rest_pieces, block_pieces}
use Rattle.ps_grammar.specs.Trees.{cond_tree, test_tree, place_of_first, stmt_tree, block_trees}
use Rattle.ps_grammar.specs.Words.{Word}
use Rattle.ps_parse.specs.Inner.Blocks.{assign_at, ended_at, havoc_at, cond_stmt_at, skip_at, atomic_at, else_at, if_at, while_stmt_at, kind_at, stmt_at, has_more, block_at}
use Rattle.ps_parse.specs.Inner.Conds.{parens_at}
use Rattle.ps_parse.specs.Inner.Reading.{ReadWords, next_word, after_word}
use Rattle.ps_parse.specs.Kinds.{is_kind, place_of_next}
use Rattle.ps_parse.proofs.Steps.{places, begins_piece, Not, Always, IsTest, next_test, IsMark, of_pair, pair_up, three_is, bind_bind}
use Rattle.ps_parse.proofs.Guards.{keeps_bind, keeps_end, pieces_both, Any, Then, Guards, none_guards, Example, example_of}
use Rattle.ps_parse.proofs.GuardSteps.{guards_same, guards_as, guards_so, mapped_guards, nothing_guards, any_joins, both_guards, after_guards, after_guards_more, alone_guards, closed_guards, OfSort, choice_guards, last_guards}
use Rattle.ps_parse.proofs.GuardLoops.{GoesOn, Ends, list_trees, while_guards}
use Rattle.ps_parse.proofs.SumGuards.{all_always, variable_guards, sum_guards, sum_text, no_sum}
use Rattle.ps_parse.proofs.CondGuards.{cond_text, cond_guards, parens_guards, test_example}

-- ---- simple statements

pub ended_guards : {C A : Type 0} {n : ℕ} {read : ReadWords A} {spell : C → List Piece} {okay : C → Type 0} {tree : C → List Place → A} {follows : C → List Piece → Type 0} → ((c : C) (rest : List Piece) → follows c (Mark kind.Semicolon ∷ rest)) → Guards n read spell okay tree follows
    → Guards n (ended_at read) (λ c. spell c ++ Mark kind.Semicolon ∷ []) okay tree Any
unfolding ended_at
ended_guards ends g = closed_guards kind.Semicolon (λ u. refl) ends g

assign_guards : (n : ℕ) (names : Names) → Guards n (assign_at names n) (λ (c : List ℕ × SumText). stmt_pieces (assign c.0 c.1)) Always (λ c ps. stmt_tree names (assign c.0 c.1) ps) Any
unfolding assign_at
assign_guards n names =
    guards_so Always Any (λ c h. tt) (λ c h. (tt, tt)) (λ c rest h. h)
    (both_guards stmt.Assign any_joins (example_of sum_text tt refl) (variable_guards n names) (after_guards kind.Becomes (λ u. refl) (example_of sum_text tt refl) (ended_guards (λ s rest. no_sum s (Mark kind.Semicolon ∷ rest) (refl, refl)) (sum_guards n names))))

havoc_guards : (n : ℕ) (names : Names) → Guards n (havoc_at names) (λ x. stmt_pieces (havoc x)) Always (λ x ps. stmt_tree names (havoc x) ps) Any
unfolding havoc_at
havoc_guards n names = mapped_guards stmt.Havoc (after_guards kind.Havoc (λ u. refl) (example_of [] tt refl) (ended_guards (λ c rest. tt) (variable_guards n names)))

cond_stmt_guards : (n : ℕ) (names : Names) (word : TokenKind) (of : Cond → StmtKind) → IsMark word
    → Guards n (cond_stmt_at word of names n) (λ c. Mark word ∷ (cond_pieces c ++ Mark kind.Semicolon ∷ [])) Always (λ c ps. of (cond_tree names c)) Any
unfolding cond_stmt_at
cond_stmt_guards n names word of marked = mapped_guards of (after_guards word marked (example_of cond_text tt refl) (ended_guards (λ c rest. (refl, (refl, (refl, refl)))) (cond_guards n names)))

skip_guards : (n : ℕ) → Guards n skip_at (λ (u : Unit {0}). stmt_pieces skip) Always (λ u ps. stmt.Skip) Any
unfolding skip_at after_word
skip_guards n = guards_same _ (λ at. sym (bind_bind (next_word kind.Skip at) _ _)) (after_guards kind.Skip (λ u. refl) (example_of tt tt refl) (alone_guards n kind.Semicolon (λ u. refl) stmt.Skip))

-- ---- statements with blocks

abbrev BlockGuards : ℕ → Names → ReadWords (List Stmt) → Type 0
BlockGuards n names block = Guards n block block_pieces Always (λ b ps. block_trees names b (drop 1 ps)) Any

pub block_example : Example block_pieces Always
block_example = example_of block_end tt refl

atomic_guards : (n : ℕ) (names : Names) (block : ReadWords (List Stmt)) → BlockGuards n names block → Guards n (atomic_at block) (λ b. stmt_pieces (atomic b)) Always (λ b ps. stmt_tree names (atomic b) ps) Any
unfolding atomic_at
atomic_guards n names block g =
    guards_as (λ c. c) (λ c. c)
    (record { back = λ c. refl; spelled = λ c. refl; fine = λ c h. h; unfine = λ c h. h; said = λ b ps. ap (λ (qs : List Place). stmt.Atomic (block_trees names b qs)) (drop-drop 1 1 ps); stops = λ c rest h. h })
    (mapped_guards stmt.Atomic (after_guards kind.Atomic (λ u. refl) block_example g))

abbrev while_pieces : TestText × BlockText → List Piece
while_pieces c = stmt_pieces (while_do c.0 c.1)

while_example : Example while_pieces Always
while_example = example_of (either, block_end) tt refl

held_place : (k : ℕ) (ps : List Place) → drop 1 (drop (suc k) ps) ≡ drop (k + 2) ps
held_place k ps =
    let e : suc k + 1 ≡ k + 2 = omega arith in
    drop-drop 1 (suc k) ps ∙ ap (λ (m : ℕ). drop m ps) e

while_stmt_guards : (n : ℕ) (names : Names) (block : ReadWords (List Stmt)) → BlockGuards n names block → Guards n (while_stmt_at block names n) while_pieces Always (λ c ps. stmt_tree names (while_do c.0 c.1) ps) Any
unfolding while_stmt_at
while_stmt_guards n names block g =
    guards_as (λ c. c) (λ c. c)
    (record {
      back = λ c. refl;
      spelled = λ c. refl;
      fine = λ c h. tt;
      unfine = λ c h. (tt, tt);
      said = λ c ps. ap (λ (qs : List Place). stmt.While (test_tree names c.0) (block_trees names c.1 qs)) (held_place (length (test_pieces c.0)) ps);
      stops = λ c rest h. h;
    })
    (both_guards stmt.While any_joins block_example (after_guards kind.While (λ u. refl) test_example (parens_guards n names)) g)

-- `else` and a block, or nothing
abbrev else_pieces : Option BlockText → List Piece
else_pieces None = []
else_pieces (Some b) = Mark kind.Else ∷ block_pieces b

abbrev else_tree : Names → Option BlockText → List Place → List Stmt
else_tree names None ps = []
else_tree names (Some b) ps = block_trees names b (drop 1 (drop 1 ps))

else_sort : (o : Option BlockText) → Always o → OfSort (begins_piece kind.Else) true else_pieces (Then (Not kind.Else)) (λ b. Some b) Always o ⊎ OfSort (begins_piece kind.Else) false else_pieces (Then (Not kind.Else)) (λ (u : Unit {0}). None) Always o
else_sort None ok = inr (record { text = tt; same = refl; fine = tt; tells = λ rest h. h })
else_sort (Some b) ok = inl (record { text = b; same = refl; fine = tt; tells = λ rest h. refl })

else_guards : (n : ℕ) (names : Names) (block : ReadWords (List Stmt)) → BlockGuards n names block → Guards n (else_at block) else_pieces Always (else_tree names) (Then (Not kind.Else))
unfolding else_at
else_guards n names block g =
    choice_guards else_pieces Always (else_tree names) (Then (Not kind.Else)) (next_test kind.Else) (λ b. Some b) (λ b h. tt) (λ (u : Unit {0}). None) (λ u h. tt) else_sort (λ b rest h. tt) (λ u rest h. tt)
    (after_guards kind.Else (λ u. refl) block_example g) (nothing_guards n [] Any)

abbrev IfText : Type 0
IfText = TestText × (BlockText × Option BlockText)

abbrev if_text : TestText → BlockText → Option BlockText → StmtText
if_text t b None = if_then t b
if_text t b (Some c) = if_else t b c

abbrev if_of : IfText → StmtText
if_of c = if_text c.0 c.1.0 c.1.1

if_spelled : (t : TestText) (b : BlockText) (o : Option BlockText) → (Mark kind.If ∷ test_pieces t) ++ (block_pieces b ++ else_pieces o) ≡ stmt_pieces (if_text t b o)
if_spelled t b None = ap (λ (ps : List Piece). (Mark kind.If ∷ test_pieces t) ++ ps) (append-nil (block_pieces b))
if_spelled t b (Some c) = refl

failed_place : (j k : ℕ) (ps : List Place) → drop 1 (drop 1 (drop (suc j) (drop (suc k) ps))) ≡ drop (j + (k + 4)) ps
failed_place j k ps =
    let e : suc k + suc j + 1 + 1 ≡ j + (k + 4) = omega arith in
    ap (λ (qs : List Place). drop 1 (drop 1 qs)) (drop-drop (suc j) (suc k) ps) ∙ ap (λ (qs : List Place). drop 1 qs) (drop-drop 1 (suc k + suc j) ps) ∙ drop-drop 1 (suc k + suc j + 1) ps ∙ ap (λ (m : ℕ). drop m ps) e

if_said : (names : Names) (t : TestText) (b : BlockText) (o : Option BlockText) (ps : List Place)
    → stmt.If (test_tree names t) (block_trees names b (drop 1 (drop (suc (length (test_pieces t))) ps))) (else_tree names o (drop (length (block_pieces b)) (drop (suc (length (test_pieces t))) ps))) ≡ stmt_tree names (if_text t b o) ps
if_said names t b None ps = ap (λ (qs : List Place). stmt.If (test_tree names t) (block_trees names b qs) []) (held_place (length (test_pieces t)) ps)
if_said names t b (Some c) ps =
    ap (λ (qs : List Place). stmt.If (test_tree names t) (block_trees names b qs) (block_trees names c (drop 1 (drop 1 (drop (length (block_pieces b)) (drop (suc (length (test_pieces t))) ps)))))) (held_place (length (test_pieces t)) ps)
    ∙ ap (λ (qs : List Place). stmt.If (test_tree names t) (block_trees names b (drop (length (test_pieces t) + 2) ps)) (block_trees names c qs)) (failed_place (length (rest_pieces b)) (length (test_pieces t)) ps)

if_guards : (n : ℕ) (names : Names) (block : ReadWords (List Stmt)) → BlockGuards n names block → Guards n (if_at block names n) (λ c. stmt_pieces (if_of c)) Always (λ c ps. stmt_tree names (if_of c) ps) (Then (Not kind.Else))
unfolding if_at
if_guards n names block g =
    guards_as (λ c. c) (λ c. c)
    (record {
      back = λ c. refl;
      spelled = λ c. if_spelled c.0 c.1.0 c.1.1;
      fine = λ c h. tt;
      unfine = λ c h. (tt, (tt, tt));
      said = λ c ps. if_said names c.0 c.1.0 c.1.1 ps;
      stops = λ c rest h. h;
    })
    (guards_same _ (three_is stmt.If (after_word kind.If (parens_at names n)) block (else_at block))
    (both_guards (of_pair stmt.If) any_joins (example_of (block_end, None) (tt, tt) refl) (after_guards kind.If (λ u. refl) test_example (parens_guards n names))
    (both_guards pair_up any_joins (example_of None tt refl) g (else_guards n names block g))))

-- ---- which statement

stmt_begins : (k : TokenKind) → is_kind kind.Name k ≡ false → is_kind kind.Havoc k ≡ false → is_kind kind.Assume k ≡ false → is_kind kind.Assert k ≡ false → is_kind kind.Skip k ≡ false → is_kind kind.Atomic k ≡ false → is_kind kind.If k ≡ false → is_kind kind.While k ≡ false
    → (s : StmtText) (rest : List Piece) → Not k (stmt_pieces s ++ rest)
stmt_begins k a b c d e f g h (assign x s) rest = a
stmt_begins k a b c d e f g h (havoc x) rest = b
stmt_begins k a b c d e f g h (assume t) rest = c
stmt_begins k a b c d e f g h (assert t) rest = d
stmt_begins k a b c d e f g h skip rest = e
stmt_begins k a b c d e f g h (atomic t) rest = f
stmt_begins k a b c d e f g h (if_then t u) rest = g
stmt_begins k a b c d e f g h (if_else t u v) rest = g
stmt_begins k a b c d e f g h (while_do t u) rest = h

stmt_some : (s : StmtText) → 1 ≤ length (stmt_pieces s)
stmt_some skip = omega arith
stmt_some s = omega arith

-- the statements in the order of the tests
abbrev order : StmtText → ℕ
order (assign x s) = 0
order (havoc x) = 1
order (assume c) = 2
order (assert c) = 3
order skip = 4
order (atomic b) = 5
order (if_then t b) = 6
order (if_else t b c) = 6
order (while_do t b) = 7

abbrev Later : ℕ → StmtText → Type 0
Later k s = k ≤ order s

abbrev SortOf : {C : Type 0} → TokenKind → ℕ → (C → StmtText) → StmtText → Type 0
SortOf k next f s = OfSort (begins_piece k) true stmt_pieces (Then (Not kind.Else)) f Always s ⊎ OfSort (begins_piece k) false stmt_pieces (Then (Not kind.Else)) (λ (u : StmtText). u) (Later next) s

sort_assign : (s : StmtText) → Later 0 s → SortOf kind.Name 1 (λ (c : List ℕ × SumText). assign c.0 c.1) s
sort_assign (assign x u) ok = inl (record { text = (x, u); same = refl; fine = tt; tells = λ rest h. refl })
sort_assign s ok = inr (record { text = s; same = refl; fine = omega (arith, ok); tells = λ rest h. refl })

sort_havoc : (s : StmtText) → Later 1 s → SortOf kind.Havoc 2 havoc s
sort_havoc (havoc x) ok = inl (record { text = x; same = refl; fine = tt; tells = λ rest h. refl })
sort_havoc s ok = inr (record { text = s; same = refl; fine = omega (arith, ok); tells = λ rest h. refl })

sort_assume : (s : StmtText) → Later 2 s → SortOf kind.Assume 3 assume s
sort_assume (assume c) ok = inl (record { text = c; same = refl; fine = tt; tells = λ rest h. refl })
sort_assume s ok = inr (record { text = s; same = refl; fine = omega (arith, ok); tells = λ rest h. refl })

sort_assert : (s : StmtText) → Later 3 s → SortOf kind.Assert 4 assert s
sort_assert (assert c) ok = inl (record { text = c; same = refl; fine = tt; tells = λ rest h. refl })
sort_assert s ok = inr (record { text = s; same = refl; fine = omega (arith, ok); tells = λ rest h. refl })

sort_skip : (s : StmtText) → Later 4 s → SortOf kind.Skip 5 (λ (u : Unit {0}). skip) s
sort_skip skip ok = inl (record { text = tt; same = refl; fine = tt; tells = λ rest h. refl })
sort_skip s ok = inr (record { text = s; same = refl; fine = omega (arith, ok); tells = λ rest h. refl })

sort_atomic : (s : StmtText) → Later 5 s → SortOf kind.Atomic 6 atomic s
sort_atomic (atomic b) ok = inl (record { text = b; same = refl; fine = tt; tells = λ rest h. refl })
sort_atomic s ok = inr (record { text = s; same = refl; fine = omega (arith, ok); tells = λ rest h. refl })

sort_if : (s : StmtText) → Later 6 s → OfSort (begins_piece kind.If) true stmt_pieces (Then (Not kind.Else)) if_of Always s ⊎ OfSort (begins_piece kind.If) false stmt_pieces (Then (Not kind.Else)) (λ (c : TestText × BlockText). while_do c.0 c.1) Always s
sort_if (if_then t b) ok = inl (record { text = (t, (b, None)); same = refl; fine = tt; tells = λ rest h. refl })
sort_if (if_else t b c) ok = inl (record { text = (t, (b, Some c)); same = refl; fine = tt; tells = λ rest h. refl })
sort_if (while_do t b) ok = inr (record { text = (t, b); same = refl; fine = tt; tells = λ rest h. refl })
sort_if s ok = absurd (omega (arith, ok))

if_order : (t : TestText) (b : BlockText) (o : Option BlockText) → Later 6 (if_text t b o)
if_order t b None = omega arith
if_order t b (Some c) = omega arith

kind_guards : (n : ℕ) (names : Names) (block : ReadWords (List Stmt)) → BlockGuards n names block → Guards n (kind_at block names n) stmt_pieces Always (stmt_tree names) (Then (Not kind.Else))
unfolding kind_at
kind_guards n names block g =
    guards_so Always (Then (Not kind.Else)) (λ s h. tt) (λ s h. omega arith) (λ s rest h. h)
    (choice_guards stmt_pieces (Later 0) (stmt_tree names) (Then (Not kind.Else)) (next_test kind.Name) (λ c. assign c.0 c.1) (λ c h. omega arith) (λ s. s) (λ s h. omega arith) sort_assign (λ c rest h. tt) (λ s rest h. h) (assign_guards n names)
    (choice_guards stmt_pieces (Later 1) (stmt_tree names) (Then (Not kind.Else)) (next_test kind.Havoc) havoc (λ c h. omega arith) (λ s. s) (λ s h. omega (arith, h)) sort_havoc (λ c rest h. tt) (λ s rest h. h) (havoc_guards n names)
    (choice_guards stmt_pieces (Later 2) (stmt_tree names) (Then (Not kind.Else)) (next_test kind.Assume) assume (λ c h. omega arith) (λ s. s) (λ s h. omega (arith, h)) sort_assume (λ c rest h. tt) (λ s rest h. h) (cond_stmt_guards n names kind.Assume stmt.Assume (λ u. refl))
    (choice_guards stmt_pieces (Later 3) (stmt_tree names) (Then (Not kind.Else)) (next_test kind.Assert) assert (λ c h. omega arith) (λ s. s) (λ s h. omega (arith, h)) sort_assert (λ c rest h. tt) (λ s rest h. h) (cond_stmt_guards n names kind.Assert stmt.Assert (λ u. refl))
    (choice_guards stmt_pieces (Later 4) (stmt_tree names) (Then (Not kind.Else)) (next_test kind.Skip) (λ (u : Unit {0}). skip) (λ c h. omega arith) (λ s. s) (λ s h. omega (arith, h)) sort_skip (λ c rest h. tt) (λ s rest h. h) (skip_guards n)
    (choice_guards stmt_pieces (Later 5) (stmt_tree names) (Then (Not kind.Else)) (next_test kind.Atomic) atomic (λ c h. omega arith) (λ s. s) (λ s h. omega (arith, h)) sort_atomic (λ c rest h. tt) (λ s rest h. h) (atomic_guards n names block g)
    (choice_guards stmt_pieces (Later 6) (stmt_tree names) (Then (Not kind.Else)) (next_test kind.If) if_of (λ c h. if_order c.0 c.1.0 c.1.1) (λ c. while_do c.0 c.1) (λ c h. omega arith) sort_if (λ c rest h. h) (λ c rest h. tt) (if_guards n names block g)
    (last_guards kind.While (λ c rest h. refl) while_example (while_stmt_guards n names block g)))))))))

-- ---- with its place

first_is : (ws : List Word) (end : Place) (ps : List Piece) → pieces ws ≡ ps → 1 ≤ length ps → place_of_next ws end ≡ place_of_first (places ws)
first_is [] end ps e h = absurd (omega (arith, h, ap (λ (qs : List Piece). length qs) e))
first_is (w ∷ ws) end ps e h = refl

abbrev placed_tree : Names → StmtText → List Place → Stmt
placed_tree names s ps = record { place = place_of_first ps; kind = stmt_tree names s ps }

stmt_guards : (n : ℕ) (names : Names) (block : ReadWords (List Stmt)) → BlockGuards n names block → Guards n (stmt_at block names n) stmt_pieces Always (placed_tree names) (Then (Not kind.Else))
unfolding stmt_at
stmt_guards n names block g = record {
  stuck = λ at room.
      keeps_bind _ _ _ _ _ _ ((kind_guards n names block g).stuck at room)
      (λ k p.
      let begins : pieces at.words ≡ stmt_pieces p.went.text ++ pieces k.1.words = ap pieces p.went.split ∙ pieces_both p.went.front k.1.words ∙ ap (λ (qs : List Piece). qs ++ pieces k.1.words) p.went.spelled in
      let some : 1 ≤ length (stmt_pieces p.went.text ++ pieces k.1.words) = omega (arith, length-append (stmt_pieces p.went.text) (pieces k.1.words), stmt_some p.went.text) in
      keeps_end _ _ _ (record {
        went = p.went;
        is = ap (λ (q : Place). made q k.0) (first_is at.words at.end _ begins some) ∙ ap (made (place_of_first (places at.words))) p.is;
      }))
      (λ e q. q);
}
  where
    made : Place → StmtKind → Stmt
    made p j = record { place = p; kind = j }

-- ---- blocks

abbrev goes_on : List Piece → Bool
goes_on ps = not (begins_piece kind.CloseBrace ps)

more_test : IsTest has_more goes_on
more_test = record { is = λ at. ap not ((next_test kind.CloseBrace).is at); same = λ ps qs h. ap not ((next_test kind.CloseBrace).same ps qs h) }

stmts_go_on : GoesOn goes_on stmt_pieces (Then (Not kind.Else))
stmts_go_on = record {
  starts = λ s rest. ap not (stmt_begins kind.CloseBrace refl refl refl refl refl refl refl refl s rest);
  joins = λ s t rest. stmt_begins kind.Else refl refl refl refl refl refl refl refl t rest;
  some = stmt_some;
}

block_of : List StmtText → BlockText
block_of [] = block_end
block_of (s ∷ ss) = block_more s (block_of ss)

stmts_of : BlockText → List StmtText
stmts_of block_end = []
stmts_of (block_more s b) = s ∷ stmts_of b

block_back : (b : BlockText) → block_of (stmts_of b) ≡ b
unfolding block_of stmts_of
block_back block_end = refl
block_back (block_more s b) = ap (block_more s) (block_back b)

block_spelled : (ss : List StmtText) → flat_map stmt_pieces ss ++ Mark kind.CloseBrace ∷ [] ≡ rest_pieces (block_of ss)
unfolding block_of
block_spelled [] = refl
block_spelled (s ∷ ss) = append_assoc (stmt_pieces s) (flat_map stmt_pieces ss) (Mark kind.CloseBrace ∷ []) ∙ ap (λ (ps : List Piece). stmt_pieces s ++ ps) (block_spelled ss)

block_said : (names : Names) (ss : List StmtText) (ps : List Place) → list_trees stmt_pieces (placed_tree names) ss ps ≡ block_trees names (block_of ss) ps
unfolding block_of
block_said names [] ps = refl
block_said names (s ∷ ss) ps = ap (λ (zs : List Stmt). placed_tree names s ps ∷ zs) (block_said names ss (drop (length (stmt_pieces s)) ps))

brace_ends : (ss : List StmtText) (rest : List Piece) → Ends goes_on (Then (Not kind.Else)) ss (Mark kind.CloseBrace ∷ rest)
brace_ends [] rest = refl
brace_ends (s ∷ ss) rest = (refl, refl)

rest_example : Example rest_pieces Always
rest_example = example_of block_end tt refl

next_guards : (n : ℕ) (names : Names) → BlockGuards n names (block_at names n) → BlockGuards (suc n) names (block_at names (suc n))
unfolding block_at after_word
next_guards n names g =
    after_guards_more {tree = block_trees names} kind.OpenBrace (λ u. refl) rest_example
    (guards_as block_of stmts_of
    (record { back = block_back; spelled = block_spelled; fine = λ ss h. tt; unfine = λ b h. all_always (stmts_of b); said = block_said names; stops = λ b rest h. h })
    (closed_guards kind.CloseBrace (λ u. refl) brace_ends
    (while_guards more_test stmts_go_on (stmt_guards n names (block_at names n) g))))

pub block_guards : (n : ℕ) (names : Names) → BlockGuards n names (block_at names n)
block_guards zero names = none_guards _ _ _ _ _
block_guards (suc n) names = next_guards n names (block_guards n names)
