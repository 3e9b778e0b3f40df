-- The rows that words give which begin an item of the grammar: those of the item, and never more.
use Rattle.std.proofs.Common.{◌≡◌, ℕ, ◌≤◌, Bool, false, ◌&&◌, ◌||◌, List, [], ◌∷◌, ◌++◌, Some, None, inl, inr, refl, sym, ap, ◌∙◌, arith, append_assoc}
use Rattle.std.proofs.Math.Bool.{and-false}
use Rattle.ps_token.specs.declared.token_kind.TokenKind.{TokenKind}
use Rattle.ps_token.specs.declared.token_kind.TokenKind.TheVariants as kind
use Rattle.ps_tree.specs.declared.relation.Sign.{Sign}
use Rattle.ps_grammar.specs.Declarations.{rows_of_sign}
use Rattle.ps_tree.specs.declared.relation.Sign.TheVariants as sign
use Rattle.ps_grammar.specs.Grammar.{RelationText, ItemText, global, local, init}
use Rattle.ps_grammar.specs.Spelling.{Piece, Mark, piece_of_kind, pieces, item_pieces}
use Rattle.ps_grammar.specs.Trees.{rows_of_relations}
use Rattle.ps_grammar.specs.Words.{Word}
use Rattle.ps_parse.specs.Causes.{last_of, last_product, is_alone, relation_goes_on, GivesRows}
use Rattle.ps_parse.specs.Kinds.{begins_with}
use Rattle.ps_parse.specs.Reads.{HasInitSigns}
use Rattle.ps_parse.proofs.Steps.{kind_of, Takes, takes_pieces, begins_piece, begins_pieces}
use Rattle.ps_parse.specs.Inner.Passed.{ones, row_weight}
use Rattle.ps_parse.proofs.Weights.{weigh, body_pieces, body_ended, rows_of_item, body_rows, no_end}

-- ---- words that are spelled as two lists

-- the words of the first list, and those that are left
record Cut (words : List Word) (ps qs : List Piece) : Type 0 where
  pub left : List Word
  pub taken : Takes words ps left
  pub after : pieces left ≡ qs

first_is : (p q : Piece) (ps qs : List Piece) → p ∷ ps ≡ q ∷ qs → p ≡ q
first_is p q ps qs e = cc

others_are : (p q : Piece) (ps qs : List Piece) → p ∷ ps ≡ q ∷ qs → ps ≡ qs
others_are p q ps qs e = cc

cut : (words : List Word) (ps qs : List Piece) → pieces words ≡ ps ++ qs → Cut words ps qs
cut words [] qs e = record { left = words; taken = record { front = []; split = refl; spelled = refl }; after = e }
cut [] (p ∷ ps) qs e = absurd cc
cut (w ∷ words) (p ∷ ps) qs e =
    let c : Cut words ps qs = cut words ps qs (others_are _ _ _ _ e) in
    let same : piece_of_kind w.kind w.text ≡ p = first_is _ _ _ _ e in
    record {
      left = c.left;
      taken = record {
        front = w ∷ c.taken.front;
        split = ap (λ (ws : List Word). w ∷ ws) c.taken.split;
        spelled = ap (λ (q : Piece). q ∷ pieces c.taken.front) same ∙ ap (λ (qs : List Piece). p ∷ qs) c.taken.spelled;
      };
      after = c.after;
    }

-- ---- never more

-- what has no `;` and begins a list is no heavier than what stands before a `;` there
lighter : (f : TokenKind → ℕ) (ps qs bs rs : List Piece) → weigh (ones kind.Semicolon) ps ≡ 0 → ps ++ qs ≡ bs ++ Mark kind.Semicolon ∷ rs → weigh f ps ≤ weigh f bs
lighter f [] qs bs rs none e = omega arith
lighter f (p ∷ ps) qs [] rs none e =
    let one : ones kind.Semicolon (kind_of p) ≡ 1 = ap (λ (q : Piece). ones kind.Semicolon (kind_of q)) (first_is _ _ _ _ e) in
    absurd (omega (arith, none, one))
lighter f (p ∷ ps) qs (b ∷ bs) rs none e =
    let same : f (kind_of p) ≡ f (kind_of b) = ap (λ (q : Piece). f (kind_of q)) (first_is _ _ _ _ e) in
    let fewer : weigh f ps ≤ weigh f bs = lighter f ps qs bs rs (omega (arith, none)) (others_are _ _ _ _ e) in
    omega (arith, same, fewer)

-- words that begin an item begin no item with more rows
no_more : (i j : ItemText) (words left : List Word) (rest : List Piece) → pieces words ≡ item_pieces i ++ rest → Takes words (body_pieces j) left → rows_of_item j ≤ rows_of_item i
no_more i j words left rest e t =
    let whole : pieces words ≡ body_pieces i ++ (Mark kind.Semicolon ∷ rest) = e ∙ ap (λ (ps : List Piece). ps ++ rest) (body_ended i) ∙ append_assoc (body_pieces i) (Mark kind.Semicolon ∷ []) rest in
    let fewer : weigh row_weight (body_pieces j) ≤ weigh row_weight (body_pieces i) = lighter row_weight (body_pieces j) (pieces left) (body_pieces i) rest (no_end j) (sym (takes_pieces t) ∙ whole) in
    omega (arith, fewer, body_rows i, body_rows j)

some_rows : (s : Sign) → 1 ≤ rows_of_sign s
some_rows sign.Equal = omega arith
some_rows s = omega arith

-- rows that words give
pub record FewRows (rows : ℕ) (i : ItemText) : Type 0 where
  pub some : 1 ≤ rows
  pub most : rows ≤ rows_of_item i

pub few_rows : (i : ItemText) (words : List Word) (rows : ℕ) (rest : List Piece) → pieces words ≡ item_pieces i ++ rest → GivesRows words rows → FewRows rows i
few_rows i words rows rest e (inl h) =
    let most : 2 ≤ rows_of_item i = no_more i (global h.0.named (Some h.0.value)) words h.0.rest rest e (record { front = h.0.front; split = h.0.split; spelled = h.0.spelled }) in
    record { some = omega (arith, h.1); most = omega (arith, h.1, most) }
few_rows i words rows rest e (inr h) =
    let most : rows_of_relations (h.0.first ∷ h.0.further) ≤ rows_of_item i = no_more i (init h.0.first h.0.further) words h.0.rest rest e (record { front = h.0.front; split = h.0.split; spelled = h.0.spelled }) in
    record { some = omega (arith, h.1, some_rows h.0.first.sign); most = omega (arith, h.1, most) }

-- ---- its own

-- nothing goes on in a relation at `;`
ended : (r : RelationText) (words : List Word) (rest : List Piece) → pieces words ≡ Mark kind.Semicolon ∷ rest → relation_goes_on r words ≡ false
ended r words rest e =
    ap (λ (b : Bool). b || begins_with kind.Minus words || (is_alone (last_product r.right) && begins_with kind.Star words)) (begins_pieces kind.Plus words ∙ ap (begins_piece kind.Plus) e)
    ∙ ap (λ (b : Bool). b || (is_alone (last_product r.right) && begins_with kind.Star words)) (begins_pieces kind.Minus words ∙ ap (begins_piece kind.Minus) e)
    ∙ ap (λ (b : Bool). is_alone (last_product r.right) && b) (begins_pieces kind.Star words ∙ ap (begins_piece kind.Star) e)
    ∙ and-false (is_alone (last_product r.right))

pub own_rows : (i : ItemText) (words : List Word) (rest : List Piece) → HasInitSigns i → 1 ≤ rows_of_item i → pieces words ≡ item_pieces i ++ rest → GivesRows words (rows_of_item i)
own_rows i words rest signs some e = by_item i signs some (cut words (body_pieces i) (Mark kind.Semicolon ∷ rest) (e ∙ ap (λ (ps : List Piece). ps ++ rest) (body_ended i) ∙ append_assoc (body_pieces i) (Mark kind.Semicolon ∷ []) rest))
  where
    by_item : (j : ItemText) → HasInitSigns j → 1 ≤ rows_of_item j → Cut words (body_pieces j) (Mark kind.Semicolon ∷ rest) → GivesRows words (rows_of_item j)
    by_item (global x None) signs some c = absurd (omega (arith, some))
    by_item (global x (Some v)) signs some c = inl (record { named = x; value = v; front = c.taken.front; rest = c.left; split = c.taken.split; spelled = c.taken.spelled }, refl)
    by_item (local x) signs some c = absurd (omega (arith, some))
    by_item (init r rs) signs some c =
        inr (
          record {
            first = r;
            further = rs;
            front = c.taken.front;
            rest = c.left;
            split = c.taken.split;
            spelled = c.taken.spelled;
            signs = signs;
            whole = ended (last_of r rs) c.left rest c.after;
          },
          refl,
        )
