-- The rows of an item, as they are counted before it is read: they are those of the texts of the grammar that the words
-- begin with.
use Rattle.std.proofs.Common.{◌≡◌, ◌≢◌, ℕ, ℤ, zero, suc, ◌+◌, ◌<◌, ◌≤◌, Bool, true, false, ◌&&◌, ◌||◌, List, [], ◌∷◌, ◌++◌, map, length, Option, Some, None, Result, Ok, Err, inl, inr, refl, sym, ap, subst, ◌∙◌, arith, append_assoc, length-append}
use Rattle.std.specs.Prelude.{if◌then◌else◌}
use Rattle.std.specs.List.{AllByRecursion}
use Rattle.std.proofs.lemmas.Bool.{cond-true, cond-false, or_parts, true≢false}
use Rattle.std.proofs.lemmas.List.{append-nil, length-map}
use Rattle.std.proofs.lemmas.List.Elements.{All-from_recursion, recursion_from_All}
use Rattle.ps_token.specs.declared.token_kind.TokenKind.{TokenKind}
use Rattle.ps_token.specs.declared.token_kind.TokenKind.TheVariants as kind
use Rattle.ps_parse.specs.declared.read_refusal.ReadRefusal.{ReadRefusal}
use Rattle.ps_tree.specs.declared.relation.Relation.{Relation}
use Rattle.ps_tree.specs.declared.relation.Sign.TheVariants as sign
use Rattle.ps_parse.specs.Causes.{last_of, last_product, is_alone, relation_goes_on, BeginsGlobal, BeginsInit, GivesRows}
use Rattle.ps_grammar.specs.Grammar.{ProductText, number, name, number_name, name_number, SumText, RelationText, ValueText}
use Rattle.ps_grammar.specs.Declarations.{names_of, nothing_declared, rows_of_sign, rows_of_value}
use Rattle.ps_parse.specs.Inner.Items.{rows_counted_on, rows_from, declared_value_ahead, item_rows}
use Rattle.ps_grammar.specs.Spelling.{Piece, NumberPiece, NamePiece, Mark, piece_of_kind, pieces, product_pieces, minus_pieces, plus_or_minus, further_pieces, sum_pieces, sign_kind, relation_pieces, value_pieces, more_relations}
use Rattle.ps_parse.specs.Inner.Sums.{init_sign_of, relation_at}
use Rattle.ps_grammar.specs.Trees.{declared_value, rows_of_relations}
use Rattle.ps_grammar.specs.Words.{Word}
use Rattle.ps_parse.specs.Inner.Reading.{WordsAhead, next_is, next_word, after_word}
use Rattle.ps_parse.specs.Kinds.{begins_with}
use Rattle.ps_parse.proofs.Steps.{one_kind, Takes, takes_then, takes_so, takes_pieces, begins_piece, begins_pieces, Finds, Gets, found_bind, found_more, gets_bind, Alike, IsMark}
use Rattle.ps_parse.proofs.Guards.{Went, again_of, found_of, keeps_finds, took, name_sort, word_law, word_again, mark_again, mark_found}
use Rattle.ps_parse.proofs.SumGuards.{SignedText, further_piece, begins_adding, carries, no_both, init_signs, every_init_sign, no_init_sign, SignIn, relation_guards, RelationEnds}
use Rattle.ps_parse.proofs.DeclarationGuards.{value_guards}

-- ---- what is counted is at least what the words give

length_pieces : (ws : List Word) → length ws ≡ length (pieces ws)
length_pieces ws = sym (length-map ws (λ (w : Word). piece_of_kind w.kind w.text))

next_pieces : (k : TokenKind) (at : WordsAhead) (ps : List Piece) → pieces at.words ≡ ps → next_is k at ≡ begins_piece k ps
next_pieces k at ps h = begins_pieces k at.words ∙ ap (begins_piece k) h

-- no relation has `!=`
abbrev Signed : List RelationText → Type 0
Signed rs = AllByRecursion (λ (r : RelationText). r.sign ≢ sign.NotEqual) rs

rows_walk : (n : ℕ) (r : RelationText) (rs : List RelationText) (m : ℕ) (at : WordsAhead) (rest : List Piece) → length (r ∷ rs) ≤ m → length at.words < n → Signed (r ∷ rs) → pieces at.words ≡ relation_pieces r ++ (more_relations rs ++ rest) → RelationEnds (last_of r rs) rest
    → rows_of_relations (r ∷ rs) ≤ rows_from n m at
unfolding rows_from
rows_walk n r rs zero at rest le room signs h stop = absurd (omega (arith, le))
rows_walk n r [] (suc m) at rest le room signs h stop =
    let g = again_of (relation_guards n (names_of nothing_declared) init_sign_of init_signs refl) at r rest room (every_init_sign r.sign signs.0) h stop in
    let all : rows_counted_on (λ (r : Relation). rows_of_sign r.sign) (λ next. rows_counted_on (λ (w : Word). 0) (rows_from n m) (next_word kind.And next)) (relation_at init_sign_of (names_of nothing_declared) n at) ≡ rows_of_sign g.value.0.sign + rows_counted_on (λ (w : Word). 0) (rows_from n m) (next_word kind.And g.value.1) =
    ap (rows_counted_on (λ (r : Relation). rows_of_sign r.sign) (λ next. rows_counted_on (λ (w : Word). 0) (rows_from n m) (next_word kind.And next))) g.ok in
    let same : rows_of_sign g.value.0.sign ≡ rows_of_sign r.sign = ap (λ (x : Relation). rows_of_sign x.sign) g.is.0 in
    omega (arith, all, same)
rows_walk n r (s ∷ rs) (suc m) at rest le room signs h stop =
    let g = again_of (relation_guards n (names_of nothing_declared) init_sign_of init_signs refl) at r (more_relations (s ∷ rs) ++ rest) room (every_init_sign r.sign signs.0) h (refl, no_both (is_alone (last_product r.right))) in
    let all : rows_counted_on (λ (r : Relation). rows_of_sign r.sign) (λ next. rows_counted_on (λ (w : Word). 0) (rows_from n m) (next_word kind.And next)) (relation_at init_sign_of (names_of nothing_declared) n at) ≡ rows_of_sign g.value.0.sign + rows_counted_on (λ (w : Word). 0) (rows_from n m) (next_word kind.And g.value.1) =
    ap (rows_counted_on (λ (r : Relation). rows_of_sign r.sign) (λ next. rows_counted_on (λ (w : Word). 0) (rows_from n m) (next_word kind.And next))) g.ok in
    let same : rows_of_sign g.value.0.sign ≡ rows_of_sign r.sign = ap (λ (x : Relation). rows_of_sign x.sign) g.is.0 in
    let next : pieces g.value.1.words ≡ Mark kind.And ∷ (relation_pieces s ++ (more_relations rs ++ rest)) = g.is.1 ∙ ap (λ (ps : List Piece). Mark kind.And ∷ ps) (append_assoc (relation_pieces s) (more_relations rs) rest) in
    let w = mark_again kind.And (λ t. refl) g.value.1 (relation_pieces s ++ (more_relations rs ++ rest)) next in
    let more : rows_counted_on (λ (w : Word). 0) (rows_from n m) (next_word kind.And g.value.1) ≡ 0 + rows_from n m w.value.1 = ap (rows_counted_on (λ (w : Word). 0) (rows_from n m)) w.ok in
    let one : length (pieces at.words) ≡ length (relation_pieces r) + length (more_relations (s ∷ rs) ++ rest) = ap (λ (ps : List Piece). length ps) h ∙ length-append (relation_pieces r) (more_relations (s ∷ rs) ++ rest) in
    let two : length (pieces g.value.1.words) ≡ length (more_relations (s ∷ rs) ++ rest) = ap (λ (ps : List Piece). length ps) g.is.1 in
    let three : length (pieces g.value.1.words) ≡ suc (length (relation_pieces s ++ (more_relations rs ++ rest))) = ap (λ (ps : List Piece). length ps) next in
    let four : length (pieces w.value.1.words) ≡ length (relation_pieces s ++ (more_relations rs ++ rest)) = ap (λ (ps : List Piece). length ps) w.is in
    let deeper : rows_of_relations (s ∷ rs) ≤ rows_from n m w.value.1 =
    rows_walk n s rs m w.value.1 rest (omega (arith, le)) (omega (arith, room, length_pieces at.words, length_pieces w.value.1.words, one, two, three, four)) signs.1 w.is stop in
    omega (arith, all, same, more, deeper)

few_relations : (rs : List RelationText) → length rs ≤ length (more_relations rs)
few_relations [] = omega arith
few_relations (r ∷ rs) =
    let h : length rs ≤ length (more_relations rs) = few_relations rs in
    omega (arith, h, length-append (relation_pieces r) (more_relations rs))

init_walk : (n : ℕ) (at : WordsAhead) (r : RelationText) (rs : List RelationText) (rest : List Piece) → length at.words ≤ n → Signed (r ∷ rs) → pieces at.words ≡ Mark kind.Init ∷ (relation_pieces r ++ (more_relations rs ++ rest)) → RelationEnds (last_of r rs) rest
    → rows_of_relations (r ∷ rs) ≤ rows_counted_on (λ (w : Word). 0) (rows_from n n) (next_word kind.Init at)
init_walk n at r rs rest room signs h stop =
    let w = mark_again kind.Init (λ t. refl) at (relation_pieces r ++ (more_relations rs ++ rest)) h in
    let all : rows_counted_on (λ (w : Word). 0) (rows_from n n) (next_word kind.Init at) ≡ 0 + rows_from n n w.value.1 = ap (rows_counted_on (λ (w : Word). 0) (rows_from n n)) w.ok in
    let one : length (pieces at.words) ≡ suc (length (relation_pieces r ++ (more_relations rs ++ rest))) = ap (λ (ps : List Piece). length ps) h in
    let two : length (pieces w.value.1.words) ≡ length (relation_pieces r ++ (more_relations rs ++ rest)) = ap (λ (ps : List Piece). length ps) w.is in
    let three : length (relation_pieces r ++ (more_relations rs ++ rest)) ≡ length (relation_pieces r) + length (more_relations rs ++ rest) = length-append (relation_pieces r) (more_relations rs ++ rest) in
    let four : length (more_relations rs ++ rest) ≡ length (more_relations rs) + length rest = length-append (more_relations rs) rest in
    let walk : rows_of_relations (r ∷ rs) ≤ rows_from n n w.value.1 =
    rows_walk n r rs n w.value.1 rest (omega (arith, room, length_pieces at.words, one, three, four, few_relations rs)) (omega (arith, room, length_pieces at.words, length_pieces w.value.1.words, one, two)) signs w.is stop in
    omega (arith, all, walk)

-- the value of a global
global_again : (at : WordsAhead) (x : List ℕ) (v : Option ValueText) (rest : List Piece) → pieces at.words ≡ Mark kind.Global ∷ NamePiece x ∷ (value_pieces v ++ rest) → (begins_piece kind.Equal (value_pieces v ++ rest) ≡ begins_piece kind.Equal (value_pieces v))
    → Gets (after_word kind.Global (after_word kind.Name declared_value_ahead) at) (λ y. y.0 ≡ declared_value v)
unfolding after_word
global_again at x v rest h stop =
    gets_bind _ _ _ _ (mark_again kind.Global (λ t. refl) at (NamePiece x ∷ (value_pieces v ++ rest)) h) (λ w p.
    gets_bind _ _ _ _ (word_again kind.Name NamePiece (λ t. t) name_sort w.1 x (value_pieces v ++ rest) p) (λ u q.
    by_value u.1 v q stop))
  where
    by_value : (at : WordsAhead) (v : Option ValueText) → pieces at.words ≡ value_pieces v ++ rest → (begins_piece kind.Equal (value_pieces v ++ rest) ≡ begins_piece kind.Equal (value_pieces v)) → Gets (declared_value_ahead at) (λ y. y.0 ≡ declared_value v)
    by_value at None q stop = let g = again_of (value_guards (suc (length at.words))) at None rest (omega arith) tt q stop in record { value = g.value; ok = g.ok; is = g.is.0 }
    by_value at (Some v) q stop = let g = again_of (value_guards (suc (length at.words))) at (Some v) rest (omega arith) tt q tt in record { value = g.value; ok = g.ok; is = g.is.0 }

global_rows : (at : WordsAhead) (x : List ℕ) (v : Option ValueText) (rest : List Piece) → pieces at.words ≡ Mark kind.Global ∷ NamePiece x ∷ (value_pieces v ++ rest) → (begins_piece kind.Equal (value_pieces v ++ rest) ≡ begins_piece kind.Equal (value_pieces v))
    → rows_counted_on rows_of_value (λ _. 0) (after_word kind.Global (after_word kind.Name declared_value_ahead) at) ≡ rows_of_value (declared_value v)
global_rows at x v rest h stop =
    let g = global_again at x v rest h stop in
    let all : rows_counted_on rows_of_value (λ _. 0) (after_word kind.Global (after_word kind.Name declared_value_ahead) at) ≡ rows_of_value g.value.0 + 0 = ap (rows_counted_on rows_of_value (λ _. 0)) g.ok in
    let same : rows_of_value g.value.0 ≡ rows_of_value (declared_value v) = ap rows_of_value g.is in
    omega (arith, all, same)

-- ---- a relation that is read is whole

-- the words that are left are no more
left_fewer : {a b : List Word} {ps : List Piece} → Takes a ps b → length b + length ps ≡ length a
left_fewer {a = a} {b = b} {ps = ps} p =
    let e : length p.front ≡ length ps = sym (length-map p.front (λ (w : Word). piece_of_kind w.kind w.text)) ∙ ap (λ (xs : List Piece). length xs) p.spelled in
    let l : length a ≡ length p.front + length b = ap (λ (ws : List Word). length ws) p.split ∙ length-append p.front b in
    omega (arith, e, l)

-- the same of pieces
abbrev carries_on : RelationText → List Piece → Bool
carries_on r rest = begins_adding rest || carries (last_product r.right) rest

of_pieces : (r : RelationText) (ws : List Word) → relation_goes_on r ws ≡ carries_on r (pieces ws)
of_pieces r ws =
    ap (λ (b : Bool). b || begins_with kind.Minus ws || (is_alone (last_product r.right) && begins_with kind.Star ws)) (begins_pieces kind.Plus ws)
    ∙ ap (λ (b : Bool). begins_piece kind.Plus (pieces ws) || b || (is_alone (last_product r.right) && begins_with kind.Star ws)) (begins_pieces kind.Minus ws)
    ∙ ap (λ (b : Bool). begins_adding (pieces ws) || (is_alone (last_product r.right) && b)) (begins_pieces kind.Star ws)

some_piece : (p : Piece) (ps : List Piece) → p ∷ ps ≡ [] → ⊥
some_piece p ps e = absurd cc

-- what follows a text that was read begins no longer one
not_longer : {C : Type 0} {spell : C → List Piece} {okay : C → Type 0} {follows : C → List Piece → Type 0} {at after : WordsAhead} (w : Went spell okay follows at after) (c : C) (p : Piece) (ps : List Piece) → okay c → follows c [] → spell c ≡ spell w.text ++ (p ∷ ps) → Alike (pieces after.words) (p ∷ ps) → ⊥
not_longer {spell = spell} w c p ps fine stop longer alike = some_piece p ps (w.only c (p ∷ ps) [] fine stop alike (ap (λ (qs : List Piece). qs ++ (p ∷ ps)) w.spelled ∙ sym longer ∙ sym (append-nil (spell c)))).1

alike_mark : (k : TokenKind) → IsMark k → (ws : List Word) (ps : List Piece) → begins_with k ws ≡ true → Alike (pieces ws) (Mark k ∷ ps)
alike_mark k marked [] ps e = absurd (true≢false (sym e))
alike_mark k marked (w ∷ ws) ps e = ap (λ (j : TokenKind). piece_of_kind j w.text) (one_kind w.kind k e) ∙ marked w.text

further_more : (ds : List SignedText) (d : SignedText) → further_pieces (ds ++ d ∷ []) ≡ further_pieces ds ++ further_piece d
further_more [] d = append-nil (further_piece d)
further_more (e ∷ ds) d = ap (λ (qs : List Piece). further_piece e ++ qs) (further_more ds d) ∙ sym (append_assoc (further_piece e) (further_pieces ds) (further_piece d))

-- a product with a factor more
abbrev star : ProductText → ProductText
star (number d) = number_name d []
star (name x) = name_number x []
star c = c

abbrev star_piece : ProductText → Piece
star_piece (number d) = NamePiece []
star_piece c = NumberPiece []

star_spelled : (c : ProductText) → is_alone c ≡ true → product_pieces (star c) ≡ product_pieces c ++ Mark kind.Star ∷ star_piece c ∷ []
star_spelled (number d) h = refl
star_spelled (name x) h = refl
star_spelled (number_name d x) h = absurd (true≢false (sym h))
star_spelled (name_number x d) h = absurd (true≢false (sym h))

abbrev last_signed : ProductText → List SignedText → ProductText
last_signed c ds = last_of c (map (λ (p : SignedText). p.1) ds)

-- the last product with a factor more
abbrev star_last : ProductText → List SignedText → ProductText × List SignedText
star_last c [] = (star c, [])
star_last c (d ∷ ds) = (c, (d.0, (star_last d.1 ds).0) ∷ (star_last d.1 ds).1)

last_spelled : (c : ProductText) (ds : List SignedText) → is_alone (last_signed c ds) ≡ true
    → product_pieces (star_last c ds).0 ++ further_pieces (star_last c ds).1 ≡ (product_pieces c ++ further_pieces ds) ++ Mark kind.Star ∷ star_piece (last_signed c ds) ∷ []
last_spelled c [] h = append-nil (product_pieces (star c)) ∙ star_spelled c h ∙ ap (λ (qs : List Piece). qs ++ Mark kind.Star ∷ star_piece c ∷ []) (sym (append-nil (product_pieces c)))
last_spelled c (d ∷ ds) h =
    ap (λ (qs : List Piece). product_pieces c ++ (Mark (plus_or_minus d.0) ∷ qs)) (last_spelled d.1 ds h)
    ∙ sym (append_assoc (product_pieces c) (further_pieces (d ∷ ds)) (Mark kind.Star ∷ star_piece (last_signed d.1 ds) ∷ []))

-- a sum with a further product, and with a factor more
abbrev added : SumText → Bool → SumText
added s b = record { negative = s.negative; first = s.first; further = s.further ++ (b, number []) ∷ [] }

abbrev starred : SumText → SumText
starred s = record { negative = s.negative; first = (star_last s.first s.further).0; further = (star_last s.first s.further).1 }

added_spelled : (s : SumText) (b : Bool) → sum_pieces (added s b) ≡ sum_pieces s ++ Mark (plus_or_minus b) ∷ NumberPiece [] ∷ []
added_spelled s b =
    let more : List Piece = Mark (plus_or_minus b) ∷ NumberPiece [] ∷ [] in
    ap (λ (qs : List Piece). minus_pieces s.negative ++ (product_pieces s.first ++ qs)) (further_more s.further (b, number []))
    ∙ ap (λ (qs : List Piece). minus_pieces s.negative ++ qs) (sym (append_assoc (product_pieces s.first) (further_pieces s.further) more))
    ∙ sym (append_assoc (minus_pieces s.negative) (product_pieces s.first ++ further_pieces s.further) more)

starred_spelled : (s : SumText) → is_alone (last_product s) ≡ true → sum_pieces (starred s) ≡ sum_pieces s ++ Mark kind.Star ∷ star_piece (last_product s) ∷ []
starred_spelled s h =
    ap (λ (qs : List Piece). minus_pieces s.negative ++ qs) (last_spelled s.first s.further h)
    ∙ sym (append_assoc (minus_pieces s.negative) (product_pieces s.first ++ further_pieces s.further) (Mark kind.Star ∷ star_piece (last_product s) ∷ []))

neither : (a b : Bool) → (a ≡ true → ⊥) → (b ≡ true → ⊥) → (a || b) ≡ false
neither true b h k = absurd (h refl)
neither false true h k = absurd (k refl)
neither false false h k = refl

not_both : (a b : Bool) → (a ≡ true → b ≡ true → ⊥) → (a && b) ≡ true → ⊥
not_both true b h e = h refl e
not_both false b h e = true≢false (sym e)

-- no word after a relation that was read goes on in it
whole : {at after : WordsAhead} (w : Went relation_pieces (λ r. SignIn init_sign_of r.sign) RelationEnds at after) → relation_goes_on w.text after.words ≡ false
whole {after = after} w =
    neither _ _ (λ h. true≢false (sym h ∙ neither _ _ (never (added w.text.right false) kind.Plus (λ t. refl) (NumberPiece []) (added_spelled w.text.right false)) (never (added w.text.right true) kind.Minus (λ t. refl) (NumberPiece []) (added_spelled w.text.right true))))
    (not_both _ _ (λ alone h. never (starred w.text.right) kind.Star (λ t. refl) (star_piece (last_product w.text.right)) (starred_spelled w.text.right alone) h))
  where
    never : (s : SumText) (k : TokenKind) → IsMark k → (p : Piece) → sum_pieces s ≡ sum_pieces w.text.right ++ Mark k ∷ p ∷ [] → begins_with k after.words ≡ true → ⊥
    never s k marked p e h =
        not_longer w (record { left = w.text.left; sign = w.text.sign; right = s }) (Mark k) (p ∷ []) w.fine (refl, no_both (is_alone (last_product s)))
        (ap (λ (qs : List Piece). sum_pieces w.text.left ++ (Mark (sign_kind w.text.sign) ∷ qs)) e ∙ sym (append_assoc (sum_pieces w.text.left) (Mark (sign_kind w.text.sign) ∷ sum_pieces w.text.right) (Mark k ∷ p ∷ [])))
        (alike_mark k marked after.words (p ∷ []) h)

-- a relation was passed that an `init` may have, and it is whole
record IsRelation (before : List Word) (y : Relation × WordsAhead) : Type 0 where
  pub text : RelationText
  pub taken : Takes before (relation_pieces text) y.1.words
  pub same : y.0.sign ≡ text.sign
  pub allowed : text.sign ≢ sign.NotEqual
  pub whole : relation_goes_on text y.1.words ≡ false

relation_found : (n : ℕ) (at : WordsAhead) → length at.words < n → Finds (relation_at init_sign_of (names_of nothing_declared) n at) (IsRelation at.words)
relation_found n at room =
    found_more _ _ _ (found_of (relation_guards n (names_of nothing_declared) init_sign_of init_signs refl) at room)
    (λ y p. record { text = p.went.text; taken = took p.went; same = ap (λ (x : Relation). x.sign) p.is; allowed = no_init_sign p.went.text.sign p.went.fine; whole = whole p.went })

-- ---- the rows of relations

-- a sum of counts, where what was read is told
counted_found : {A : Type 0} (rows : A → ℕ) (rest : WordsAhead → ℕ) (r : Result (A × WordsAhead) ReadRefusal) (Q : A × WordsAhead → Type 0) (P : ℕ → Type 0) → Finds r Q → ((y : A × WordsAhead) → Q y → P (rows y.0 + rest y.1)) → P 0 → P (rows_counted_on rows rest r)
counted_found rows rest (Ok x) Q P h k none = k x h.is
counted_found rows rest (Err e) Q P h k none = none

-- the words begin with relations that give so many rows, the last of them whole
record AreRelations (before : List Word) (rows : ℕ) : Type 0 where
  pub first : RelationText
  pub further : List RelationText
  pub after : List Word
  pub taken : Takes before (relation_pieces first ++ more_relations further) after
  pub signs : Signed (first ∷ further)
  pub whole : relation_goes_on (last_of first further) after ≡ false
  pub counted_are : rows ≡ rows_of_relations (first ∷ further)

-- where any rows were counted
record Counts (before : List Word) (rows : ℕ) : Type 0 where
  pub are : 1 ≤ rows → AreRelations before rows

counts_none : (before : List Word) → Counts before 0
counts_none before = record { are = λ h. absurd (omega (arith, h)) }

counts_one : (before : List Word) (y : Relation × WordsAhead) → IsRelation before y → Counts before (rows_of_sign y.0.sign + 0)
counts_one before y p =
    let same : rows_of_sign y.0.sign ≡ rows_of_sign p.text.sign = ap rows_of_sign p.same in
    record {
      are = λ h. record {
        first = p.text;
        further = [];
        after = y.1.words;
        taken = takes_so (sym (append-nil (relation_pieces p.text))) p.taken;
        signs = (p.allowed, tt);
        whole = p.whole;
        counted_are = omega (arith, same);
      };
    }

counts_more : (before : List Word) (y : Relation × WordsAhead) → IsRelation before y → (next : List Word) → Takes y.1.words (Mark kind.And ∷ []) next → (rows : ℕ) → Counts next rows → Counts before (rows_of_sign y.0.sign + (0 + rows))
counts_more before y p next q zero h = counts_one before y p
counts_more before y p next q (suc rows) h =
    let same : rows_of_sign y.0.sign ≡ rows_of_sign p.text.sign = ap rows_of_sign p.same in
    let r : AreRelations next (suc rows) = h.are (omega arith) in
    record {
      are = λ k. record {
        first = p.text;
        further = r.first ∷ r.further;
        after = r.after;
        taken = takes_then p.taken (takes_then q r.taken);
        signs = (p.allowed, r.signs);
        whole = r.whole;
        counted_are = omega (arith, same, r.counted_are);
      };
    }

rows_found : (n m : ℕ) (at : WordsAhead) → length at.words < n → Counts at.words (rows_from n m at)
unfolding rows_from
rows_found n zero at room = counts_none at.words
rows_found n (suc m) at room =
    counted_found _ _ _ _ (Counts at.words) (relation_found n at room) (λ y p.
    counted_found (λ (w : Word). 0) (rows_from n m) (next_word kind.And y.1) _ (λ (k : ℕ). Counts at.words (rows_of_sign y.0.sign + k)) (mark_found kind.And (λ t. refl) y.1) (λ w q.
    let fewer : length w.1.words + length (relation_pieces p.text ++ (Mark kind.And ∷ [])) ≡ length at.words = left_fewer (takes_then p.taken q) in
    counts_more at.words y p w.1.words q (rows_from n m w.1) (rows_found n m w.1 (omega (arith, room, fewer))))
    (counts_one at.words y p))
    (counts_none at.words)

-- ---- the rows of an item

-- `global`, a name and perhaps its value
record IsGlobal (before : List Word) (y : Option ℤ × WordsAhead) : Type 0 where
  pub named : List ℕ
  pub value : Option ValueText
  pub taken : Takes before (Mark kind.Global ∷ NamePiece named ∷ value_pieces value) y.1.words
  pub is : y.0 ≡ declared_value value

global_found : (at : WordsAhead) → Finds (after_word kind.Global (after_word kind.Name declared_value_ahead) at) (IsGlobal at.words)
unfolding after_word
global_found at =
    found_bind _ _ _ _ (mark_found kind.Global (λ t. refl) at) (λ w p.
    found_bind _ _ _ _ (keeps_finds _ _ _ (word_law kind.Name NamePiece (λ t. t) name_sort w.1)) (λ u q.
    found_more _ _ _ (found_of (value_guards (suc (length u.1.words))) u.1 (omega arith)) (λ y r. record { named = q.went.text; value = r.went.text; taken = takes_then p (takes_then (took q.went) (took r.went)); is = r.is })))

-- where any rows were counted, the words give them
record Given (words : List Word) (rows : ℕ) : Type 0 where
  pub is : 1 ≤ rows → GivesRows words rows

given_none : (words : List Word) → Given words 0
given_none words = record { is = λ h. absurd (omega (arith, h)) }

given_value : (words : List Word) (y : Option ℤ × WordsAhead) (x : List ℕ) (v : Option ValueText) → Takes words (Mark kind.Global ∷ NamePiece x ∷ value_pieces v) y.1.words → y.0 ≡ declared_value v → Given words (rows_of_value y.0 + 0)
given_value words y x None taken e =
    let none : rows_of_value y.0 ≡ 0 = ap rows_of_value e in
    record { is = λ h. absurd (omega (arith, h, none)) }
given_value words y x (Some v) taken e =
    let two : rows_of_value y.0 ≡ 2 = ap rows_of_value e in
    record { is = λ h. inl (record { named = x; value = v; front = taken.front; rest = y.1.words; split = taken.split; spelled = taken.spelled }, omega (arith, two)) }

given_relations : (words next : List Word) (rows : ℕ) → Takes words (Mark kind.Init ∷ []) next → Counts next rows → Given words (0 + rows)
given_relations words next rows p c = record {
  is = λ h.
      let r : AreRelations next rows = c.are (omega (arith, h)) in
      let taken : Takes words (Mark kind.Init ∷ (relation_pieces r.first ++ more_relations r.further)) r.after = takes_then p r.taken in
      inr (
        record {
          first = r.first;
          further = r.further;
          front = taken.front;
          rest = r.after;
          split = taken.split;
          spelled = taken.spelled;
          signs = All-from_recursion (λ (s : RelationText). s.sign ≢ sign.NotEqual) (r.first ∷ r.further) r.signs;
          whole = r.whole;
        },
        omega (arith, r.counted_are),
      );
}

by_test : (P : ℕ → Type 0) (t : Bool) (a b : ℕ) → P a → P b → P (if t then a else b)
by_test P true a b h k = h
by_test P false a b h k = k

item_given : (n : ℕ) (at : WordsAhead) → length at.words ≤ n → Given at.words (item_rows n at)
unfolding item_rows
item_given n at room =
    by_test (Given at.words) (next_is kind.Global at) _ _
    (counted_found rows_of_value (λ _. 0) (after_word kind.Global (after_word kind.Name declared_value_ahead) at) (IsGlobal at.words) (Given at.words) (global_found at) (λ y p. given_value at.words y p.named p.value p.taken p.is) (given_none at.words))
    (by_test (Given at.words) (next_is kind.Init at) _ _
    (counted_found (λ (w : Word). 0) (rows_from n n) (next_word kind.Init at) _ (Given at.words) (mark_found kind.Init (λ t. refl) at) (λ w p.
    let fewer : length w.1.words + length (Mark kind.Init ∷ []) ≡ length at.words = left_fewer p in
    given_relations at.words w.1.words (rows_from n n w.1) p (rows_found n n w.1 (omega (arith, room, fewer)))) (given_none at.words))
    (given_none at.words))

-- Where rows of an item are counted, the words begin with an item, or a part of one, that gives so many.
pub rows_given : (n : ℕ) (at : WordsAhead) → length at.words ≤ n → 1 ≤ item_rows n at → GivesRows at.words (item_rows n at)
rows_given n at room h = (item_given n at room).is h

least_true : (k : ℕ) (t : Bool) (a b : ℕ) → t ≡ true → k ≤ a → k ≤ (if t then a else b)
least_true k t a b e h = subst (λ (j : ℕ). k ≤ j) (sym (cond-true t a b e)) h

least_false : (k : ℕ) (t : Bool) (a b : ℕ) → t ≡ false → k ≤ b → k ≤ (if t then a else b)
least_false k t a b e h = subst (λ (j : ℕ). k ≤ j) (sym (cond-false t a b e)) h

-- Whatever rows the words give, no fewer are counted.
pub rows_counted : (n : ℕ) (at : WordsAhead) (rows : ℕ) → length at.words ≤ n → GivesRows at.words rows → rows ≤ item_rows n at
unfolding item_rows
rows_counted n at rows room (inl h) =
    let g : BeginsGlobal at.words = h.0 in
    let ahead : pieces at.words ≡ Mark kind.Global ∷ NamePiece g.named ∷ (value_pieces (Some g.value) ++ pieces g.rest) = takes_pieces (record { front = g.front; split = g.split; spelled = g.spelled }) in
    let two : rows_counted_on rows_of_value (λ _. 0) (after_word kind.Global (after_word kind.Name declared_value_ahead) at) ≡ 2 = global_rows at g.named (Some g.value) (pieces g.rest) ahead refl in
    least_true rows (next_is kind.Global at) _ _ (next_pieces kind.Global at _ ahead) (omega (arith, two, h.1))
rows_counted n at rows room (inr h) =
    let i : BeginsInit at.words = h.0 in
    let ahead : pieces at.words ≡ Mark kind.Init ∷ (relation_pieces i.first ++ (more_relations i.further ++ pieces i.rest)) =
    takes_pieces (record { front = i.front; split = i.split; spelled = i.spelled }) ∙ ap (λ (ps : List Piece). Mark kind.Init ∷ ps) (append_assoc (relation_pieces i.first) (more_relations i.further) (pieces i.rest)) in
    let whole : carries_on (last_of i.first i.further) (pieces i.rest) ≡ false = sym (of_pieces (last_of i.first i.further) i.rest) ∙ i.whole in
    let walk : rows_of_relations (i.first ∷ i.further) ≤ rows_counted_on (λ (w : Word). 0) (rows_from n n) (next_word kind.Init at) =
    init_walk n at i.first i.further (pieces i.rest) room (recursion_from_All (λ (s : RelationText). s.sign ≢ sign.NotEqual) (i.first ∷ i.further) i.signs) ahead (or_parts _ _ whole) in
    least_false rows (next_is kind.Global at) _ _ (next_pieces kind.Global at _ ahead)
    (least_true rows (next_is kind.Init at) _ _ (next_pieces kind.Init at _ ahead) (omega (arith, walk, h.1)))
