-- What words and the texts of the grammar weigh by their kinds: how many rows, globals and locals they have.
use Rattle.std.proofs.Common.{◌≡◌, ℕ, ◌+◌, ◌*◌, Bool, true, false, List, [], ◌∷◌, ◌++◌, length, Option, Some, None, refl, sym, ap, ◌∙◌, arith, append_assoc, length-append}
use Rattle.std.specs.Prelude.{if◌then◌else◌}
use Rattle.std.proofs.lemmas.List.Sums.{sum_by-cons}
use Rattle.ps_token.specs.declared.token_kind.TokenKind.{TokenKind}
use Rattle.ps_token.specs.declared.token_kind.TokenKind.TheVariants as kind
use Rattle.ps_tree.specs.declared.relation.Sign.{Sign}
use Rattle.ps_tree.specs.declared.relation.Sign.TheVariants as sign
use Rattle.ps_parse.specs.Inner.Passed.{ones, row_weight}
use Rattle.ps_grammar.specs.Declarations.{Declared, rows_of_sign, rows_of_value}
use Rattle.ps_grammar.specs.Grammar.{ProductText, number, name, number_name, name_number, SumText, RelationText, ValueText, ItemText, global, local, init}
use Rattle.ps_grammar.specs.Spelling.{Piece, NumberPiece, NamePiece, Mark, piece_of_kind, pieces, product_pieces, minus_pieces, plus_or_minus, further_pieces, sum_pieces, sign_kind, relation_pieces, value_pieces, more_relations, item_pieces}
use Rattle.ps_grammar.specs.Trees.{declared_value, rows_of_relations, with_item}
use Rattle.ps_grammar.specs.Words.{Word}
use Rattle.ps_parse.specs.Causes.{words_at, count_of, rows_passed}
use Rattle.ps_parse.specs.Kinds.{is_kind}
use Rattle.ps_parse.proofs.Steps.{kind_of, kind_of_piece}

-- ---- words

-- the weight of all words
abbrev pub weight : (TokenKind → ℕ) → List Word → ℕ
weight f [] = 0
weight f (w ∷ ws) = f w.kind + weight f ws

abbrev pub weigh : (TokenKind → ℕ) → List Piece → ℕ
weigh f [] = 0
weigh f (p ∷ ps) = f (kind_of p) + weigh f ps

pub weigh_pieces : (f : TokenKind → ℕ) (ws : List Word) → weight f ws ≡ weigh f (pieces ws)
weigh_pieces f [] = refl
weigh_pieces f (w ∷ ws) = ap (λ (k : TokenKind). f k + weight f ws) (sym (kind_of_piece w.kind w.text)) ∙ ap (λ (n : ℕ). f (kind_of (piece_of_kind w.kind w.text)) + n) (weigh_pieces f ws)

weight-append : (f : TokenKind → ℕ) (ws vs : List Word) → weight f (ws ++ vs) ≡ weight f ws + weight f vs
weight-append f [] vs = omega arith
weight-append f (w ∷ ws) vs = let h : weight f (ws ++ vs) ≡ weight f ws + weight f vs = weight-append f ws vs in omega arith

pub weigh-append : (f : TokenKind → ℕ) (ps qs : List Piece) → weigh f (ps ++ qs) ≡ weigh f ps + weigh f qs
weigh-append f [] qs = omega arith
weigh-append f (p ∷ ps) qs = let h : weigh f (ps ++ qs) ≡ weigh f ps + weigh f qs = weigh-append f ps qs in omega arith

weight_at : (f : TokenKind → ℕ) (back ws : List Word) → weight f (words_at back ws) ≡ weight f back + weight f ws
weight_at f [] ws = omega arith
weight_at f (w ∷ back) ws = let h : weight f (words_at back (w ∷ ws)) ≡ weight f back + (f w.kind + weight f ws) = weight_at f back (w ∷ ws) in omega arith

pub count_of_weight : (k : TokenKind) (back : List Word) → count_of k back ≡ weight (ones k) back
count_of_weight k [] = refl
count_of_weight k (w ∷ back) =
    let h : count_of k back ≡ weight (ones k) back = count_of_weight k back in
    let s : count_of k (w ∷ back) ≡ ones k w.kind + count_of k back = sum_by-cons (λ (v : Word). if is_kind v.kind k then 1 else 0) w back in
    omega (arith, h, s)

rows_of_kind : (k : TokenKind) → (2 * ones kind.Equal k) + (ones kind.Init k + (ones kind.And k + ones kind.EqualEqual k)) ≡ row_weight k
rows_of_kind kind.Equal = refl
rows_of_kind kind.Init = refl
rows_of_kind kind.And = refl
rows_of_kind kind.EqualEqual = refl
rows_of_kind k = refl

-- four counts at once
weights_add : (back : List Word) → (2 * weight (ones kind.Equal) back) + (weight (ones kind.Init) back + (weight (ones kind.And) back + weight (ones kind.EqualEqual) back)) ≡ weight row_weight back
weights_add [] = refl
weights_add (w ∷ back) =
    let h : (2 * weight (ones kind.Equal) back) + (weight (ones kind.Init) back + (weight (ones kind.And) back + weight (ones kind.EqualEqual) back)) ≡ weight row_weight back = weights_add back in
    omega (arith, h, rows_of_kind w.kind)

pub rows_in_weight : (back : List Word) → rows_passed back ≡ weight row_weight back
rows_in_weight back =
    let a : count_of kind.Equal back ≡ weight (ones kind.Equal) back = count_of_weight kind.Equal back in
    let b : count_of kind.Init back ≡ weight (ones kind.Init) back = count_of_weight kind.Init back in
    let c : count_of kind.And back ≡ weight (ones kind.And) back = count_of_weight kind.And back in
    let d : count_of kind.EqualEqual back ≡ weight (ones kind.EqualEqual) back = count_of_weight kind.EqualEqual back in
    omega (arith, a, b, c, d, weights_add back)

-- ---- texts of the grammar

-- what products and sums have weighs nothing
record Sparse (f : TokenKind → ℕ) : Type 0 where
  pub name : f kind.Name ≡ 0
  pub number : f kind.Number ≡ 0
  pub star : f kind.Star ≡ 0
  pub plus : f kind.Plus ≡ 0
  pub minus : f kind.Minus ≡ 0

weigh_product : (f : TokenKind → ℕ) → Sparse f → (c : ProductText) → weigh f (product_pieces c) ≡ 0
weigh_product f s (number n) = omega (arith, s.number)
weigh_product f s (name x) = omega (arith, s.name)
weigh_product f s (number_name n x) = omega (arith, s.number, s.star, s.name)
weigh_product f s (name_number x n) = omega (arith, s.number, s.star, s.name)

weigh_sign : (f : TokenKind → ℕ) → Sparse f → (negative : Bool) → f (plus_or_minus negative) ≡ 0
weigh_sign f s true = s.minus
weigh_sign f s false = s.plus

weigh_minus : (f : TokenKind → ℕ) → Sparse f → (negative : Bool) → weigh f (minus_pieces negative) ≡ 0
weigh_minus f s true = omega (arith, s.minus)
weigh_minus f s false = refl

weigh_further : (f : TokenKind → ℕ) → Sparse f → (ps : List (Bool × ProductText)) → weigh f (further_pieces ps) ≡ 0
weigh_further f s [] = refl
weigh_further f s (p ∷ ps) =
    omega (arith, weigh_sign f s p.0, weigh-append f (product_pieces p.1) (further_pieces ps), weigh_product f s p.1, weigh_further f s ps)

weigh_sum : (f : TokenKind → ℕ) → Sparse f → (c : SumText) → weigh f (sum_pieces c) ≡ 0
weigh_sum f s c =
    omega (arith, weigh-append f (minus_pieces c.negative) (product_pieces c.first ++ further_pieces c.further), weigh-append f (product_pieces c.first) (further_pieces c.further), weigh_minus f s c.negative, weigh_product f s c.first, weigh_further f s c.further)

weigh_relation : (f : TokenKind → ℕ) → Sparse f → (r : RelationText) → weigh f (relation_pieces r) ≡ f (sign_kind r.sign)
weigh_relation f s r =
    omega (arith, weigh-append f (sum_pieces r.left) (Mark (sign_kind r.sign) ∷ sum_pieces r.right), weigh_sum f s r.left, weigh_sum f s r.right)

-- `&&` and the sign of each relation
abbrev weigh_signs : (TokenKind → ℕ) → List RelationText → ℕ
weigh_signs f [] = 0
weigh_signs f (r ∷ rs) = (f kind.And + f (sign_kind r.sign)) + weigh_signs f rs

weigh_more : (f : TokenKind → ℕ) → Sparse f → (rs : List RelationText) → weigh f (more_relations rs) ≡ weigh_signs f rs
weigh_more f s [] = refl
weigh_more f s (r ∷ rs) = omega (arith, weigh-append f (relation_pieces r) (more_relations rs), weigh_relation f s r, weigh_more f s rs)

weigh_value : (f : TokenKind → ℕ) → Sparse f → (v : ValueText) → weigh f (value_pieces (Some v)) ≡ f kind.Equal
weigh_value f s v = omega (arith, weigh-append f (minus_pieces v.negative) (NumberPiece v.digits ∷ []), weigh_minus f s v.negative, s.number)

-- an item but for the `;` at its end
abbrev pub body_pieces : ItemText → List Piece
body_pieces (global x v) = Mark kind.Global ∷ NamePiece x ∷ value_pieces v
body_pieces (local x) = Mark kind.Local ∷ NamePiece x ∷ []
body_pieces (init r rs) = Mark kind.Init ∷ (relation_pieces r ++ more_relations rs)

pub body_ended : (i : ItemText) → item_pieces i ≡ body_pieces i ++ Mark kind.Semicolon ∷ []
body_ended (global x v) = refl
body_ended (local x) = refl
body_ended (init r rs) = ap (λ (ps : List Piece). Mark kind.Init ∷ ps) (sym (append_assoc (relation_pieces r) (more_relations rs) (Mark kind.Semicolon ∷ [])))

weigh_item : (f : TokenKind → ℕ) → f kind.Semicolon ≡ 0 → (i : ItemText) → weigh f (item_pieces i) ≡ weigh f (body_pieces i)
weigh_item f none i = omega (arith, none, ap (weigh f) (body_ended i), weigh-append f (body_pieces i) (Mark kind.Semicolon ∷ []))

weigh_init : (f : TokenKind → ℕ) → Sparse f → (r : RelationText) (rs : List RelationText) → weigh f (body_pieces (init r rs)) ≡ f kind.Init + (f (sign_kind r.sign) + weigh_signs f rs)
weigh_init f s r rs = omega (arith, weigh-append f (relation_pieces r) (more_relations rs), weigh_relation f s r, weigh_more f s rs)

weigh_global : (f : TokenKind → ℕ) → Sparse f → (x : List ℕ) (v : Option ValueText) → weigh f (body_pieces (global x v)) ≡ f kind.Global + weigh f (value_pieces v)
weigh_global f s x v = omega (arith, s.name)

weigh_local : (f : TokenKind → ℕ) → Sparse f → (x : List ℕ) → weigh f (body_pieces (local x)) ≡ f kind.Local
weigh_local f s x = omega (arith, s.name)

-- ---- the rows of an item

-- how many rows an item of the grammar gives
abbrev pub rows_of_item : ItemText → ℕ
rows_of_item (global x v) = rows_of_value (declared_value v)
rows_of_item (local x) = 0
rows_of_item (init r rs) = rows_of_relations (r ∷ rs)

row_sparse : Sparse row_weight
row_sparse = record { name = refl; number = refl; star = refl; plus = refl; minus = refl }

sign_rows : (s : Sign) → 1 + row_weight (sign_kind s) ≡ rows_of_sign s
sign_rows sign.Equal = refl
sign_rows s = refl

more_rows : (rs : List RelationText) → weigh_signs row_weight rs ≡ rows_of_relations rs
more_rows [] = refl
more_rows (r ∷ rs) = omega (arith, sign_rows r.sign, more_rows rs)

value_rows : (v : Option ValueText) → weigh row_weight (value_pieces v) ≡ rows_of_value (declared_value v)
value_rows None = refl
value_rows (Some v) = weigh_value row_weight row_sparse v

pub body_rows : (i : ItemText) → weigh row_weight (body_pieces i) ≡ rows_of_item i
body_rows (global x v) = omega (arith, weigh_global row_weight row_sparse x v, value_rows v)
body_rows (local x) = weigh_local row_weight row_sparse x
body_rows (init r rs) = omega (arith, weigh_init row_weight row_sparse r rs, sign_rows r.sign, more_rows rs)

pub weigh_rows : (i : ItemText) → weigh row_weight (item_pieces i) ≡ rows_of_item i
weigh_rows i = weigh_item row_weight refl i ∙ body_rows i

-- ---- the declarations of an item

global_sparse : Sparse (ones kind.Global)
global_sparse = record { name = refl; number = refl; star = refl; plus = refl; minus = refl }

local_sparse : Sparse (ones kind.Local)
local_sparse = record { name = refl; number = refl; star = refl; plus = refl; minus = refl }

sign_global : (s : Sign) → ones kind.Global (sign_kind s) ≡ 0
sign_global sign.Equal = refl
sign_global s = refl

sign_local : (s : Sign) → ones kind.Local (sign_kind s) ≡ 0
sign_local sign.Equal = refl
sign_local s = refl

-- where neither signs nor `&&` nor `=` weigh anything, no relation and no value does
no_signs : (f : TokenKind → ℕ) → f kind.And ≡ 0 → ((s : Sign) → f (sign_kind s) ≡ 0) → (rs : List RelationText) → weigh_signs f rs ≡ 0
no_signs f a h [] = refl
no_signs f a h (r ∷ rs) = omega (arith, a, h r.sign, no_signs f a h rs)

no_value : (f : TokenKind → ℕ) → Sparse f → f kind.Equal ≡ 0 → (v : Option ValueText) → weigh f (value_pieces v) ≡ 0
no_value f s e None = refl
no_value f s e (Some v) = omega (arith, weigh_value f s v, e)

pub weigh_globals : (d : Declared) (i : ItemText) → length (with_item d i).globals ≡ length d.globals + weigh (ones kind.Global) (item_pieces i)
weigh_globals d (global x v) = omega (arith, weigh_item (ones kind.Global) refl (global x v), weigh_global (ones kind.Global) global_sparse x v, no_value (ones kind.Global) global_sparse refl v, length-append d.globals (record { name = x; value = declared_value v } ∷ []))
weigh_globals d (local x) = omega (arith, weigh_item (ones kind.Global) refl (local x), weigh_local (ones kind.Global) global_sparse x)
weigh_globals d (init r rs) = omega (arith, weigh_item (ones kind.Global) refl (init r rs), weigh_init (ones kind.Global) global_sparse r rs, sign_global r.sign, no_signs (ones kind.Global) refl sign_global rs)

pub weigh_locals : (d : Declared) (i : ItemText) → length (with_item d i).locals ≡ length d.locals + weigh (ones kind.Local) (item_pieces i)
weigh_locals d (global x v) = omega (arith, weigh_item (ones kind.Local) refl (global x v), weigh_global (ones kind.Local) local_sparse x v, no_value (ones kind.Local) local_sparse refl v)
weigh_locals d (local x) = omega (arith, weigh_item (ones kind.Local) refl (local x), weigh_local (ones kind.Local) local_sparse x, length-append d.locals (x ∷ []))
weigh_locals d (init r rs) = omega (arith, weigh_item (ones kind.Local) refl (init r rs), weigh_init (ones kind.Local) local_sparse r rs, sign_local r.sign, no_signs (ones kind.Local) refl sign_local rs)

-- ---- no `;` stands in an item but at its end

end_sparse : Sparse (ones kind.Semicolon)
end_sparse = record { name = refl; number = refl; star = refl; plus = refl; minus = refl }

sign_end : (s : Sign) → ones kind.Semicolon (sign_kind s) ≡ 0
sign_end sign.Equal = refl
sign_end s = refl

pub no_end : (i : ItemText) → weigh (ones kind.Semicolon) (body_pieces i) ≡ 0
no_end (global x v) = omega (arith, weigh_global (ones kind.Semicolon) end_sparse x v, no_value (ones kind.Semicolon) end_sparse refl v)
no_end (local x) = weigh_local (ones kind.Semicolon) end_sparse x
no_end (init r rs) = omega (arith, weigh_init (ones kind.Semicolon) end_sparse r rs, sign_end r.sign, no_signs (ones kind.Semicolon) refl sign_end rs)

-- ---- declarations, from what was passed

-- The declarations have as many rows, globals and locals as the words that were passed.
pub record Counts (d : Declared) (back : List Word) : Type 0 where
  pub rows : d.rows ≡ rows_passed back
  pub globals : length d.globals ≡ count_of kind.Global back
  pub locals : length d.locals ≡ count_of kind.Local back

pub item_rows_more : (d : Declared) (i : ItemText) → (with_item d i).rows ≡ d.rows + rows_of_item i
item_rows_more d (global x v) = refl
item_rows_more d (local x) = refl
item_rows_more d (init r rs) = refl

-- an item was passed
pub counts_after : (d : Declared) (i : ItemText) (back ahead past left : List Word) (rest : List Piece) → words_at past left ≡ words_at back ahead → pieces ahead ≡ item_pieces i ++ rest → pieces left ≡ rest → Counts d back → Counts (with_item d i) past
counts_after d i back ahead past left rest whole spelled after h = record {
  rows = omega (arith, h.rows, item_rows_more d i, passed row_weight, weigh_rows i, rows_in_weight back, rows_in_weight past);
  globals = omega (arith, h.globals, weigh_globals d i, passed (ones kind.Global), count_of_weight kind.Global back, count_of_weight kind.Global past);
  locals = omega (arith, h.locals, weigh_locals d i, passed (ones kind.Local), count_of_weight kind.Local back, count_of_weight kind.Local past);
}
  where
    passed : (f : TokenKind → ℕ) → weight f past ≡ weight f back + weigh f (item_pieces i)
    passed f =
        let a : weight f (words_at past left) ≡ weight f past + weight f left = weight_at f past left in
        let b : weight f (words_at back ahead) ≡ weight f back + weight f ahead = weight_at f back ahead in
        let same : weight f (words_at past left) ≡ weight f (words_at back ahead) = ap (weight f) whole in
        let c : weight f ahead ≡ weigh f (item_pieces i) + weigh f rest = weigh_pieces f ahead ∙ ap (weigh f) spelled ∙ weigh-append f (item_pieces i) rest in
        let e : weight f left ≡ weigh f rest = weigh_pieces f left ∙ ap (weigh f) after in
        omega (arith, a, b, same, c, e)
