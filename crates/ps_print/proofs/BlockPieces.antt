-- What statements with blocks are printed as, with their blocks as lists.
use Rattle.std.proofs.Common.{◌≡◌, ℕ, List, [], ◌∷◌, ◌++◌, map, refl, ◌∙◌, ap, ap₂, append_assoc}
use Rattle.ps_token.specs.declared.token_kind.TokenKind.TheVariants as kind
use Rattle.ps_tree.specs.declared.cond.Test.{Test}
use Rattle.ps_tree.specs.declared.stmt.Stmt.{Stmt}
use Rattle.ps_tree.specs.declared.stmt.StmtKind.{StmtKind, Row_of-Stmt, end_of-Stmt, more_of-Stmt, items-the_row-Stmt}
use Rattle.ps_tree.specs.declared.stmt.StmtKind.TheVariants as stmt
use Rattle.ps_tree.specs.declared.stmt.StmtKind.TheBlock.{hidden-the_row-Stmt-0, items_hidden-the_row-Stmt-0}
use Rattle.ps_grammar.specs.Names.{Names}
use Rattle.ps_print.specs.Canonical.{block_text, if_text, stmt_text, test_text}
use Rattle.ps_grammar.specs.Grammar.{BlockText, atomic, block_more, if_else, local, while_do}
use Rattle.std.specs.List.{flat_map}
use Rattle.std.proofs.lemmas.Grind.{flat_map-append}
use Rattle.ps_tree.specs.declared.program.Program.{Program}
use Rattle.ps_print.specs.Printed.{global_item, init_item, printed_program, program_names, Puts, stmts_text}
use Rattle.ps_print.proofs.Putting.{respell}
use Rattle.ps_grammar.specs.Spelling.{Piece, Mark, block_pieces, item_pieces, rest_pieces, stmt_pieces, test_pieces}

block_of_row : (names : Names) {n : _} (row : Row_of-Stmt n) → block_text names row ≡ stmts_text names (items-the_row-Stmt n row)
block_of_row names end_of-Stmt = refl
block_of_row names (more_of-Stmt p k rest) = ap (block_more (stmt_text names k)) (block_of_row names rest)

pub block_is : (names : Names) (b : List Stmt) → block_text names (hidden-the_row-Stmt-0 b) ≡ stmts_text names b
block_is names b = block_of_row names (hidden-the_row-Stmt-0 b) ∙ ap (stmts_text names) (items_hidden-the_row-Stmt-0 b)

abbrev pub stmt_put : Names → StmtKind → List Piece
stmt_put names k = stmt_pieces (stmt_text names k)

pub atomic_is : (names : Names) (b : List Stmt) → stmt_put names (stmt.Atomic b) ≡ Mark kind.Atomic ∷ block_pieces (stmts_text names b)
atomic_is names b = ap (λ (z : BlockText). stmt_pieces (atomic z)) (block_is names b)

pub while_is : (names : Names) (t : Test) (b : List Stmt) → stmt_put names (stmt.While t b) ≡ Mark kind.While ∷ (test_pieces (test_text names t) ++ block_pieces (stmts_text names b))
while_is names t b = ap (λ (z : BlockText). stmt_pieces (while_do (test_text names t) z)) (block_is names b)

if_blocks : (names : Names) (t : Test) (a b : List Stmt) → stmt_put names (stmt.If t a b) ≡ stmt_pieces (if_text (test_text names t) (stmts_text names a) (stmts_text names b))
if_blocks names t a b = ap₂ (λ (y z : BlockText). stmt_pieces (if_text (test_text names t) y z)) (block_is names a) (block_is names b)

pub if_alone : (names : Names) (t : Test) (a b : List Stmt) → b ≡ [] → stmt_put names (stmt.If t a b) ≡ Mark kind.If ∷ (test_pieces (test_text names t) ++ block_pieces (stmts_text names a))
if_alone names t a b none = if_blocks names t a b ∙ ap (λ (z : List Stmt). stmt_pieces (if_text (test_text names t) (stmts_text names a) (stmts_text names z))) none

some_else : (names : Names) (t : Test) (a b : List Stmt) → ¬ (b ≡ []) → stmt_pieces (if_text (test_text names t) (stmts_text names a) (stmts_text names b)) ≡ stmt_pieces (if_else (test_text names t) (stmts_text names a) (stmts_text names b))
some_else names t a [] some = absurd (some refl)
some_else names t a (s ∷ b) some = refl

pub if_both : (names : Names) (t : Test) (a b : List Stmt) → ¬ (b ≡ []) → stmt_put names (stmt.If t a b) ≡ Mark kind.If ∷ (test_pieces (test_text names t) ++ Mark kind.OpenBrace ∷ (rest_pieces (stmts_text names a) ++ Mark kind.Else ∷ block_pieces (stmts_text names b)))
if_both names t a b some = if_blocks names t a b ∙ some_else names t a b some

-- ---- the whole program

pub whole : (p : Program) {out : List ℕ} → Puts [] out (flat_map item_pieces (map global_item p.globals) ++ (flat_map item_pieces (map local p.locals) ++ (flat_map item_pieces (map (init_item (program_names p)) p.inits) ++ Mark kind.Thread ∷ block_pieces (stmts_text (program_names p) p.body)))) → out ≡ printed_program p
whole p h =
    let gs = map global_item p.globals in
    let ls = map local p.locals in
    let is = map (init_item (program_names p)) p.inits in
    let body = Mark kind.Thread ∷ block_pieces (stmts_text (program_names p) p.body) in
    (respell (ap (λ (z : List Piece). z ++ body) (flat_map-append item_pieces gs (ls ++ is) ∙ ap (λ (z : List Piece). flat_map item_pieces gs ++ z) (flat_map-append item_pieces ls is)) ∙ append_assoc (flat_map item_pieces gs) (flat_map item_pieces ls ++ flat_map item_pieces is) body ∙ ap (λ (z : List Piece). flat_map item_pieces gs ++ z) (append_assoc (flat_map item_pieces ls) (flat_map item_pieces is) body)) h).is
