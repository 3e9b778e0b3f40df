-- What is put for the members of conditions and the products of sums, one after the other.
use Rattle.std.proofs.Common.{◌≡◌, ℤ, Bool, true, false, List, [], ◌∷◌, ◌++◌, length, map, refl, sym, ◌∙◌, ap, append_assoc, append-nil, arith}
use Rattle.std.specs.Prelude.{◌==◌, Option}
use denote.Hole.Carrier.{hidden}
use Rattle.ps_term.specs.declared.var.Var.{Var}
use Rattle.ps_token.specs.declared.token_kind.TokenKind.{TokenKind}
use Rattle.ps_token.specs.declared.token_kind.TokenKind.TheVariants as kind
use Rattle.ps_tree.specs.declared.cond.Cond.{Cond, Row_of-Cond, end_of-Cond, more_of-Cond, items-the_row-Cond}
use Rattle.ps_tree.specs.declared.cond.Cond.TheVariants as cond
use Rattle.ps_tree.specs.declared.cond.Cond.TheBlock.{hidden-the_row-Cond-0, hidden-the_row-Cond-1, items_hidden-the_row-Cond-1}
use Rattle.ps_grammar.specs.Names.{Names}
use Rattle.ps_print.specs.Canonical.{cond_of_members, cond_text, conj_of_members, conj_text, falsehood_text, is_negative, product_of, products_text, truth_text, unary_text}
use Rattle.ps_print.specs.Printed.{sign_before, word_between}
use Rattle.ps_grammar.specs.Spelling.{Piece, Mark, cond_pieces, conj_pieces, further_pieces, minus_pieces, plus_or_minus, product_pieces, relation_pieces, sum_pieces, unary_pieces}

-- no truth value is both
pub not_both : (b : Bool) → b ≡ true → b ≡ false → ⊥
not_both true e f = cc
not_both false e f = cc

-- the pieces of each, told whether it is the first
abbrev pub threaded : {A : Type 0} → (Bool → A → List Piece) → Bool → List A → List Piece
threaded f first [] = []
threaded f first (x ∷ xs) = f first x ++ threaded f false xs

-- ---- products

abbrev pub product_put : Names → Bool → ℤ × Option Var → List Piece
product_put names first p = sign_before first (is_negative p.0) ++ product_pieces (product_of names p)

further_put : (names : Names) (ps : List (ℤ × Option Var)) → threaded (product_put names) false ps ≡ further_pieces (map (λ (q : ℤ × Option Var). (is_negative q.0, product_of names q)) ps)
further_put names [] = refl
further_put names (p ∷ ps) = ap (λ (z : List Piece). Mark (plus_or_minus (is_negative p.0)) ∷ (product_pieces (product_of names p) ++ z)) (further_put names ps)

pub products_put : (names : Names) (p : ℤ × Option Var) (ps : List (ℤ × Option Var)) → threaded (product_put names) true (p ∷ ps) ≡ sum_pieces (products_text names (p ∷ ps))
products_put names p ps =
    append_assoc (minus_pieces (is_negative p.0)) (product_pieces (product_of names p)) (threaded (product_put names) false ps)
    ∙ ap (λ (z : List Piece). minus_pieces (is_negative p.0) ++ (product_pieces (product_of names p) ++ z)) (further_put names ps)

-- ---- members

abbrev pub member_put : TokenKind → (Cond → List Piece) → Bool → Cond → List Piece
member_put k f first c = word_between k first ++ f c

abbrev pub unary_put : Names → Cond → List Piece
unary_put names c = unary_pieces (unary_text names c)

abbrev pub conj_put : Names → Cond → List Piece
conj_put names c = conj_pieces (conj_text names c)

all_row : (names : Names) {n : _} (c : Cond) (row : Row_of-Cond n) → conj_pieces (conj_of_members names (more_of-Cond c row)) ≡ unary_put names c ++ threaded (member_put kind.And (unary_put names)) false (items-the_row-Cond n row)
all_row names c end_of-Cond = sym (append-nil (unary_put names c))
all_row names c (more_of-Cond d rest) = ap (λ (z : List Piece). unary_put names c ++ Mark kind.And ∷ z) (all_row names d rest)

some_row : (names : Names) {n : _} (c : Cond) (row : Row_of-Cond n) → cond_pieces (cond_of_members names (more_of-Cond c row)) ≡ conj_put names c ++ threaded (member_put kind.Or (conj_put names)) false (items-the_row-Cond n row)
some_row names c end_of-Cond = sym (append-nil (conj_put names c))
some_row names c (more_of-Cond d rest) = ap (λ (z : List Piece). conj_put names c ++ Mark kind.Or ∷ z) (some_row names d rest)

-- the pieces of an `And` and of an `Or`
abbrev pub and_pieces : Names → List Cond → List Piece
and_pieces names [] = relation_pieces truth_text
and_pieces names (c ∷ cs) = threaded (member_put kind.And (unary_put names)) true (c ∷ cs)

abbrev pub or_pieces : Names → List Cond → List Piece
or_pieces names [] = relation_pieces falsehood_text
or_pieces names (c ∷ cs) = threaded (member_put kind.Or (conj_put names)) true (c ∷ cs)

and_of_row : (names : Names) {n : _} (row : Row_of-Cond n) → conj_pieces (conj_of_members names row) ≡ and_pieces names (items-the_row-Cond n row)
and_of_row names end_of-Cond = refl
and_of_row names (more_of-Cond c row) = all_row names c row

or_of_row : (names : Names) {n : _} (row : Row_of-Cond n) → cond_pieces (cond_of_members names row) ≡ or_pieces names (items-the_row-Cond n row)
or_of_row names end_of-Cond = refl
or_of_row names (more_of-Cond c row) = some_row names c row

pub and_is : (names : Names) (cs : List Cond) → cond_pieces (cond_text names (cond.And cs)) ≡ and_pieces names cs
and_is names cs = and_of_row names (hidden-the_row-Cond-1 cs) ∙ ap (and_pieces names) (items_hidden-the_row-Cond-1 cs)

pub or_is : (names : Names) (cs : List Cond) → cond_pieces (cond_text names (cond.Or cs)) ≡ or_pieces names cs
or_is names cs = or_of_row names (hidden-the_row-Cond-1 cs) ∙ ap (or_pieces names) (items_hidden-the_row-Cond-1 cs)

-- ---- conditions that aren't lists

pub cond_not : (names : Names) (d : Cond) → cond_pieces (cond_text names (cond.Not d)) ≡ Mark kind.Not ∷ unary_put names d
unfolding hidden-the_row-Cond-0 hidden
cond_not names d = refl

pub conj_not : (names : Names) (d : Cond) → conj_put names (cond.Not d) ≡ Mark kind.Not ∷ unary_put names d
unfolding hidden-the_row-Cond-0 hidden
conj_not names d = refl

pub unary_not : (names : Names) (d : Cond) → unary_put names (cond.Not d) ≡ Mark kind.Not ∷ unary_put names d
unfolding hidden-the_row-Cond-0 hidden
unary_not names d = refl

pub conj_or : (names : Names) (cs : List Cond) → conj_put names (cond.Or cs) ≡ Mark kind.OpenParen ∷ (cond_pieces (cond_text names (cond.Or cs)) ++ Mark kind.CloseParen ∷ [])
conj_or names cs = refl

pub unary_or : (names : Names) (cs : List Cond) → unary_put names (cond.Or cs) ≡ Mark kind.OpenParen ∷ (cond_pieces (cond_text names (cond.Or cs)) ++ Mark kind.CloseParen ∷ [])
unary_or names cs = refl

pub unary_and : (names : Names) (cs : List Cond) → unary_put names (cond.And cs) ≡ Mark kind.OpenParen ∷ (cond_pieces (cond_text names (cond.And cs)) ++ Mark kind.CloseParen ∷ [])
unary_and names cs = refl

-- ---- lists without members

pub and_none : (names : Names) (cs : List Cond) → cs ≡ [] → cond_pieces (cond_text names (cond.And cs)) ≡ relation_pieces truth_text
and_none names cs e = and_is names cs ∙ ap (and_pieces names) e

pub or_none : (names : Names) (cs : List Cond) → cs ≡ [] → cond_pieces (cond_text names (cond.Or cs)) ≡ relation_pieces falsehood_text
or_none names cs e = or_is names cs ∙ ap (or_pieces names) e

-- ---- lists that are tested for members

pub no_members : {A : Type 0} (xs : List A) → true ≡ (length xs == 0) → xs ≡ []
no_members [] e = refl
no_members (x ∷ xs) e = grind (arith, e)

pub some_products : (names : Names) (ps : List (ℤ × Option Var)) → false ≡ (length ps == 0) → sum_pieces (products_text names ps) ≡ threaded (product_put names) true ps
some_products names [] e = absurd (not_both true refl (sym e))
some_products names (p ∷ ps) e = sym (products_put names p ps)
