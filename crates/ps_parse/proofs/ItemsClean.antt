-- Declarations whose words have no cause of a refusal: exactly those that fit.
use Rattle.std.proofs.Common.{◌≡◌, ℕ, zero, suc, ◌+◌, ◌<◌, ◌≤◌, ℤ, Bool, true, false, ◌&&◌, ◌||◌, ◌⊎◌, inl, inr, List, [], ◌∷◌, ◌++◌, map, length, All, Option, Some, None, refl, sym, ap, subst, ◌∙◌, arith, append_assoc}
use Rattle.std.specs.Prelude.{Contains}
use Rattle.std.specs.List.{AllByRecursion, flat_map}
use Rattle.std.proofs.lemmas.Bool.{cases_lt, cond-true, cond-false}
use Rattle.std.proofs.lemmas.List.{map-append}
use Rattle.std.proofs.lemmas.List.Elements.{All-nil, All-cons, All-head, All-tail}
use Rattle.ps_token.specs.declared.token_kind.TokenKind.{TokenKind}
use Rattle.ps_token.specs.declared.token_kind.TokenKind.TheVariants as kind
use Rattle.ps_term.specs.declared.var.Var.{Var}
use Rattle.ps_tree.specs.declared.global_decl.GlobalDecl.{GlobalDecl}
use Rattle.ps_tree.specs.declared.limit_name.LimitName.{LimitName}
use Rattle.ps_tree.specs.declared.limit_name.LimitName.TheVariants as limit
use Rattle.ps_grammar.specs.Declarations.{Declared, most_globals, most_locals, most_rows, names_of}
use Rattle.ps_grammar.specs.Fits.{RelationFits, IsNew, ItemFits, ItemsFit}
use Rattle.ps_grammar.specs.Grammar.{RelationText, ValueText, ItemText, global, local, init}
use Rattle.ps_grammar.specs.Names.{Names, variable_of_name}
use Rattle.ps_grammar.specs.Spelling.{Piece, NumberPiece, NamePiece, Mark, pieces, minus_pieces, relation_pieces, value_pieces, more_relations, item_pieces}
use Rattle.ps_grammar.specs.Trees.{declared_value, with_item, with_items}
use Rattle.ps_grammar.specs.Words.{Word}
use Rattle.ps_parse.specs.declared.read_refusal.ReadRefusal.{ReadRefusal}
use Rattle.ps_parse.specs.declared.read_refusal.ReadRefusal.TheVariants as refusal
use Rattle.ps_parse.specs.declared.level.Level.{Level}
use Rattle.ps_parse.specs.Causes.{is_declaration, declared_in, is_after_factor, count_of, rows_passed, levels, levels_with, opens_level, IsCauseAt}
use Rattle.ps_parse.specs.Kinds.{is_kind, begins_with}
use Rattle.ps_parse.specs.Reads.{HasInitSigns}
use Rattle.ps_parse.proofs.NamesDeclared.{Knows, knows_global, knows_local, contains_known, is_there, not_contains}
use Rattle.ps_parse.proofs.WordsAllowed.{fresh_word, level_word, Fresh, HasRoom, new_allows, item_allows, count_more, not_begins}
use Rattle.ps_parse.proofs.Weights.{rows_of_item, Counts, item_rows_more, counts_after}
use Rattle.ps_parse.proofs.ItemsGive.{FewRows, few_rows, own_rows}
use Rattle.ps_parse.proofs.WordsClean.{Walk, walk_end, walk_as, walk_then, walk_ending, Asks, walk_word, by_word, spelled_kind, spelled_name, Here, Free, free_after, walk_piece}
use Rattle.ps_parse.proofs.SumsClean.{walk_mark, relation_walk}

-- ---- the rows of an item

-- if it gives any rows, they are no more than may be
abbrev pub RowsFit : Declared → ItemText → Type 0
RowsFit d i = 1 ≤ rows_of_item i → d.rows + rows_of_item i ≤ most_rows

-- a word that begins an item
asks_rows : (d : Declared) (i : ItemText) (back : List Word) (w : Word) (ahead : List Word) (rest : List Piece) (k : TokenKind) → (is_kind k kind.Name || is_kind k kind.While || opens_level k) ≡ false → w.kind ≡ k
    → HasInitSigns i → pieces (w ∷ ahead) ≡ item_pieces i ++ rest → Counts d back → Asks (RowsFit d i) back w ahead
asks_rows d i back w ahead rest k c e signs spelled counts = record {
  fits = λ none some. by_order none some (cases_lt most_rows (rows_passed back + rows_of_item i));
  allows = λ fit.
      item_allows back w ahead k c (record {
        is = λ rows g.
            let few : FewRows rows i = few_rows i (w ∷ ahead) rows rest spelled g in
            let within : d.rows + rows_of_item i ≤ most_rows = fit (omega (arith, few.some, few.most)) in
            omega (arith, within, few.most, counts.rows);
      }) e;
}
  where
    by_order : ((other : ReadRefusal) → ¬ IsCauseAt back w ahead other) → 1 ≤ rows_of_item i → (most_rows < rows_passed back + rows_of_item i) ⊎ (rows_passed back + rows_of_item i ≤ most_rows) → d.rows + rows_of_item i ≤ most_rows
    by_order none some (inl many) = absurd (none (refusal.Limit w.place limit.Init) (rows_of_item i, own_rows i (w ∷ ahead) rest signs some spelled, many))
    by_order none some (inr few) = omega (arith, few, counts.rows)

-- ---- declared names

-- after `global` or `local`
record Declaring (names : Names) (back : List Word) : Type 0 where
  pub declares : is_declaration back ≡ true
  pub factor : is_after_factor back ≡ false
  pub level : levels back ≡ []
  pub known : Knows names (declared_in back)

declaring : {names : Names} {back : List Word} {w : Word} (k : TokenKind) → (is_kind k kind.Global || is_kind k kind.Local) ≡ true → is_kind k kind.Star ≡ false → levels_with false k [] ≡ [] → w.kind ≡ k → Here names false [] back → Declaring names (w ∷ back)
declaring {names = names} {back = back} {w = w} k d f l e h = record {
  declares = ap (λ (j : TokenKind). is_kind j kind.Global || is_kind j kind.Local) e ∙ d;
  factor = ap (λ (j : TokenKind). is_kind j kind.Star && begins_with kind.Name back) e ∙ ap (λ (b : Bool). b && begins_with kind.Name back) f;
  level = level_word w k back false [] e h.atomic h.level ∙ l;
  known = subst (Knows names) (sym (cond-false _ _ _ h.declaration)) h.known;
}

-- what is asked of a new name, where a limit bounds how many there are
asks_new : {names : Names} (back : List Word) (w : Word) (ahead : List Word) (x : List ℕ) (count most : ℕ) (what : LimitName) → w.kind ≡ kind.Name → w.text ≡ x → Declaring names back
    → (most ≤ count → IsCauseAt back w ahead (refusal.Limit w.place what)) → (count < most → HasRoom back) → Asks ((variable_of_name names x ≡ None) × (count < most)) back w ahead
asks_new {names = names} back w ahead x count most what e same h full room = record {
  fits = λ none. (new none (variable_of_name names x) refl, few none (cases_lt count most));
  allows = λ f. new_allows back w ahead e h.declares h.factor (λ c. not_contains names (declared_in back) x h.known (ap is_there f.0) (subst (Contains (declared_in back)) same c)) (room f.1);
}
  where
    new : ((other : ReadRefusal) → ¬ IsCauseAt back w ahead other) → (o : Option Var) → variable_of_name names x ≡ o → o ≡ None
    new none None u = refl
    new none (Some v) u =
        absurd (none (refusal.Twice w.place) (e, h.declares, subst (Contains (declared_in back)) (sym same) (contains_known names (declared_in back) x h.known (ap is_there u))))

    few : ((other : ReadRefusal) → ¬ IsCauseAt back w ahead other) → (count < most) ⊎ (most ≤ count) → count < most
    few none (inl lt) = lt
    few none (inr le) = absurd (none (refusal.Limit w.place what) (full le))

-- a name was declared
declared_after : {names : Names} {back : List Word} {w : Word} (after : Names) (x : List ℕ) → w.kind ≡ kind.Name → w.text ≡ x → Declaring names back → (Knows names (declared_in back) → Knows after (x ∷ declared_in back)) → Free after false [] (w ∷ back)
declared_after {back = back} {w = w} after x e same h more =
    let f : Fresh false (w ∷ back) = fresh_word kind.Name back refl e in
    let list : declared_in (w ∷ back) ≡ x ∷ declared_in back = cond-true _ _ _ h.declares ∙ ap (λ (y : List ℕ). y ∷ declared_in back) same in
    let here : Here after false [] (w ∷ back) = record {
      declaration = f.declaration;
      atomic = f.atomic;
      level = level_word w kind.Name back (begins_with kind.Atomic back) [] e refl h.level;
      known = subst (Knows after) (sym list) (more h.known);
    } in
    record { here = here; factor = f.factor }

-- the names with one global or one local more
abbrev one_global : Declared → List ℕ → Names
one_global d x = record { globals = (names_of d).globals ++ x ∷ []; locals = d.locals }

abbrev one_local : Declared → List ℕ → Names
one_local d x = record { globals = (names_of d).globals; locals = d.locals ++ x ∷ [] }

global_names : (d : Declared) (x : List ℕ) (v : Option ℤ) → map (λ (g : GlobalDecl). g.name) (d.globals ++ record { name = x; value = v } ∷ []) ≡ (names_of d).globals ++ x ∷ []
global_names d x v = map-append (λ (g : GlobalDecl). g.name) d.globals (record { name = x; value = v } ∷ [])

-- ---- values and relations

value_walk : {names : Names} {ls : List Level} {back ahead : List Word} (v : Option ValueText) (rest : List Piece) → pieces ahead ≡ value_pieces v ++ rest → Free names false ls back → Walk (Unit {0}) (Free names false ls) back ahead rest
value_walk None rest e f = walk_end f e
value_walk {names = names} {ls = ls} (Some v) rest e f =
    walk_mark kind.Equal (record { causes = refl; joins = refl; atomic = refl; level = λ after ls. refl }) e f.here (λ past left valued g.
    by_minus v.negative (valued ∙ append_assoc (minus_pieces v.negative) (NumberPiece v.digits ∷ []) rest) g)
  where
    number : {back ahead : List Word} → pieces ahead ≡ NumberPiece v.digits ∷ rest → Free names false ls back → Walk (Unit {0}) (Free names false ls) back ahead rest
    number e f = walk_piece (NumberPiece v.digits) refl refl e f.here (λ w left spelled is g. walk_end g spelled)

    by_minus : {back ahead : List Word} (b : Bool) → pieces ahead ≡ minus_pieces b ++ (NumberPiece v.digits ∷ rest) → Free names false ls back → Walk (Unit {0}) (Free names false ls) back ahead rest
    by_minus true e f = walk_mark kind.Minus (record { causes = refl; joins = refl; atomic = refl; level = λ after ls. refl }) e f.here (λ past left spelled g. number spelled g)
    by_minus false e f = number e f

more_walk : {names : Names} {back ahead : List Word} (rs : List RelationText) (rest : List Piece) → pieces ahead ≡ more_relations rs ++ rest → Free names false [] back → Walk (All (RelationFits names) rs) (Free names false []) back ahead rest
more_walk {names = names} [] rest e f = walk_as (λ h. All-nil (RelationFits names)) (λ h. tt) (λ past g. g) (walk_end f e)
more_walk {names = names} (r ∷ rs) rest e f =
    walk_as (λ h. All-cons (RelationFits names) r rs h.0 h.1) (λ h. (All-head (RelationFits names) r rs h, All-tail (RelationFits names) r rs h)) (λ past g. g)
    (walk_piece (Mark kind.And) refl refl (e ∙ ap (λ (ps : List Piece). Mark kind.And ∷ ps) (append_assoc (relation_pieces r) (more_relations rs) rest)) f.here (λ w left joined is g.
    walk_then (relation_walk r (more_relations rs ++ rest) joined g) (λ past more spelled h. more_walk rs rest spelled h)))

-- `;`
walk_ended : {names : Names} {back ahead : List Word} {rest : List Piece} → pieces ahead ≡ Mark kind.Semicolon ∷ rest → Free names false [] back → Walk (Unit {0}) (Free names false []) back ahead rest
walk_ended e f = walk_piece (Mark kind.Semicolon) refl refl e f.here (λ w left spelled is g. walk_end g spelled)

-- ---- items

-- what an item asks but for its rows
abbrev pub NamesFit : Declared → ItemText → Type 0
NamesFit d (global x v) = IsNew d x × (length d.globals < most_globals)
NamesFit d (local x) = IsNew d x × (length d.locals < most_locals)
NamesFit d (init r rs) = All (RelationFits (names_of d)) (r ∷ rs)

item_walk : (d : Declared) (i : ItemText) (back ahead : List Word) (rest : List Piece) → HasInitSigns i → Counts d back → pieces ahead ≡ item_pieces i ++ rest → Free (names_of d) false [] back
    → Walk (RowsFit d i × NamesFit d i) (Free (names_of (with_item d i)) false []) back ahead rest
item_walk d (global x v) back ahead rest signs counts e f =
    by_word (λ ws. Walk (RowsFit d (global x v) × NamesFit d (global x v)) (Free (names_of (with_item d (global x v))) false []) back ws rest) (Mark kind.Global) (NamePiece x ∷ ((value_pieces v ++ Mark kind.Semicolon ∷ []) ++ rest)) ahead e (λ w left same spelled.
    let is : w.kind ≡ kind.Global = spelled_kind w (Mark kind.Global) same in
    let more : count_of kind.Global (w ∷ back) ≡ suc (count_of kind.Global back) = count_more kind.Global w back is refl in
    let decl : Declaring (names_of d) (w ∷ back) = declaring kind.Global refl refl refl is f.here in
    walk_word (asks_rows d (global x v) back w left rest kind.Global refl is signs (ap (λ (p : Piece). p ∷ pieces left) same ∙ ap (λ (ps : List Piece). Mark kind.Global ∷ ps) spelled) counts)
    (by_word (λ ws. Walk (NamesFit d (global x v)) (Free (names_of (with_item d (global x v))) false []) (w ∷ back) ws rest) (NamePiece x) ((value_pieces v ++ Mark kind.Semicolon ∷ []) ++ rest) left spelled (λ u words named valued.
    let name : u.kind ≡ kind.Name = spelled_kind u (NamePiece x) named in
    let free : Free (one_global d x) false [] (u ∷ (w ∷ back)) = declared_after (one_global d x) x name (spelled_name u x named) decl (λ k. knows_global (names_of d).globals d.locals (declared_in (w ∷ back)) x k) in
    walk_as (λ h. h.0) (λ h. (h, tt)) (λ past g. subst (λ (xs : List (List ℕ)). Free (record { globals = xs; locals = d.locals }) false [] past) (sym (global_names d x (declared_value v))) g)
    (walk_word
    (asks_new (w ∷ back) u words x (length d.globals) most_globals limit.Globals name (spelled_name u x named) decl
    (λ le. (name, ap (λ (j : TokenKind). is_kind j kind.Global) is, omega (arith, le, counts.globals, more)))
    (λ lt. record { globals = λ h. omega (arith, lt, counts.globals, more); locals = λ h. not_begins w back kind.Global kind.Local is refl h }))
    (walk_ending (value_walk v (Mark kind.Semicolon ∷ rest) (valued ∙ append_assoc (value_pieces v) (Mark kind.Semicolon ∷ []) rest) free) (λ past after ended g. walk_ended ended g))))))
item_walk d (local x) back ahead rest signs counts e f =
    by_word (λ ws. Walk (RowsFit d (local x) × NamesFit d (local x)) (Free (one_local d x) false []) back ws rest) (Mark kind.Local) (NamePiece x ∷ Mark kind.Semicolon ∷ rest) ahead e (λ w left same spelled.
    let is : w.kind ≡ kind.Local = spelled_kind w (Mark kind.Local) same in
    let more : count_of kind.Local (w ∷ back) ≡ suc (count_of kind.Local back) = count_more kind.Local w back is refl in
    let decl : Declaring (names_of d) (w ∷ back) = declaring kind.Local refl refl refl is f.here in
    walk_word (asks_rows d (local x) back w left rest kind.Local refl is signs (ap (λ (p : Piece). p ∷ pieces left) same ∙ ap (λ (ps : List Piece). Mark kind.Local ∷ ps) spelled) counts)
    (by_word (λ ws. Walk (NamesFit d (local x)) (Free (one_local d x) false []) (w ∷ back) ws rest) (NamePiece x) (Mark kind.Semicolon ∷ rest) left spelled (λ u words named ended.
    let name : u.kind ≡ kind.Name = spelled_kind u (NamePiece x) named in
    let free : Free (one_local d x) false [] (u ∷ (w ∷ back)) = declared_after (one_local d x) x name (spelled_name u x named) decl (λ k. knows_local (names_of d).globals d.locals (declared_in (w ∷ back)) x k) in
    walk_as (λ h. h.0) (λ h. (h, tt)) (λ past g. g)
    (walk_word
    (asks_new (w ∷ back) u words x (length d.locals) most_locals limit.Locals name (spelled_name u x named) decl
    (λ le. (name, ap (λ (j : TokenKind). is_kind j kind.Local) is, omega (arith, le, counts.locals, more)))
    (λ lt. record { globals = λ h. not_begins w back kind.Local kind.Global is refl h; locals = λ h. omega (arith, lt, counts.locals, more) }))
    (walk_ended ended free)))))
item_walk d (init r rs) back ahead rest signs counts e f =
    by_word (λ ws. Walk (RowsFit d (init r rs) × NamesFit d (init r rs)) (Free (names_of d) false []) back ws rest) (Mark kind.Init) ((relation_pieces r ++ (more_relations rs ++ Mark kind.Semicolon ∷ [])) ++ rest) ahead e (λ w left same spelled.
    let is : w.kind ≡ kind.Init = spelled_kind w (Mark kind.Init) same in
    let split : pieces left ≡ relation_pieces r ++ (more_relations rs ++ (Mark kind.Semicolon ∷ rest)) =
    spelled ∙ append_assoc (relation_pieces r) (more_relations rs ++ Mark kind.Semicolon ∷ []) rest ∙ ap (λ (ps : List Piece). relation_pieces r ++ ps) (append_assoc (more_relations rs) (Mark kind.Semicolon ∷ []) rest) in
    walk_word (asks_rows d (init r rs) back w left rest kind.Init refl is signs (ap (λ (p : Piece). p ∷ pieces left) same ∙ ap (λ (ps : List Piece). Mark kind.Init ∷ ps) spelled) counts)
    (walk_as (λ h. All-cons (RelationFits (names_of d)) r rs h.0 h.1) (λ h. (All-head (RelationFits (names_of d)) r rs h, All-tail (RelationFits (names_of d)) r rs h)) (λ past g. g)
    (walk_then (relation_walk r (more_relations rs ++ (Mark kind.Semicolon ∷ rest)) split (free_after kind.Init refl is f.here)) (λ past words first g.
    walk_ending (more_walk rs (Mark kind.Semicolon ∷ rest) first g) (λ there after ended h. walk_ended ended h)))))

-- ---- lists of items

abbrev pub AskedOf : Declared → List ItemText → Type 0
AskedOf d [] = Unit {0}
AskedOf d (i ∷ is) = (RowsFit d i × NamesFit d i) × AskedOf (with_item d i) is

-- an item was passed, and what was passed is counted
item_counted : (d : Declared) (i : ItemText) (back ahead : List Word) (rest : List Piece) → HasInitSigns i → Counts d back → pieces ahead ≡ item_pieces i ++ rest → Free (names_of d) false [] back
    → Walk (RowsFit d i × NamesFit d i) (λ past. Free (names_of (with_item d i)) false [] past × Counts (with_item d i) past) back ahead rest
item_counted d i back ahead rest signs counts e f =
    let w : Walk (RowsFit d i × NamesFit d i) (Free (names_of (with_item d i)) false []) back ahead rest = item_walk d i back ahead rest signs counts e f in
    record {
      past = w.past;
      left = w.left;
      whole = w.whole;
      spelled = w.spelled;
      so = (w.so, counts_after d i back ahead w.past w.left rest w.whole e w.spelled counts);
      fits = w.fits;
      clean = w.clean;
    }

pub items_walk : (d : Declared) (is : List ItemText) (back ahead : List Word) (rest : List Piece) → AllByRecursion HasInitSigns is → Counts d back → pieces ahead ≡ flat_map item_pieces is ++ rest → Free (names_of d) false [] back
    → Walk (AskedOf d is) (Free (names_of (with_items d is)) false []) back ahead rest
items_walk d [] back ahead rest signs counts e f = walk_end f e
items_walk d (i ∷ is) back ahead rest signs counts e f =
    walk_then (item_counted d i back ahead (flat_map item_pieces is ++ rest) signs.0 counts (e ∙ append_assoc (item_pieces i) (flat_map item_pieces is) rest) f) (λ past left spelled h.
    items_walk (with_item d i) is past left rest signs.1 h.1 spelled h.0)

-- ---- what is asked of items is that they fit

within : (d : Declared) (i : ItemText) → d.rows ≤ most_rows → RowsFit d i → (with_item d i).rows ≤ most_rows
within d i few fit = by_rows (rows_of_item i) refl
  where
    by_rows : (n : ℕ) → rows_of_item i ≡ n → (with_item d i).rows ≤ most_rows
    by_rows zero e = omega (arith, few, e, item_rows_more d i)
    by_rows (suc n) e = let most : d.rows + rows_of_item i ≤ most_rows = fit (omega (arith, e)) in omega (arith, most, item_rows_more d i)

item_fits : (d : Declared) (i : ItemText) → HasInitSigns i → d.rows ≤ most_rows → RowsFit d i × NamesFit d i → ItemFits d i
item_fits d (global x v) signs few f = (f.1.0, f.1.1, within d (global x v) few f.0)
item_fits d (local x) signs few f = (f.1.0, f.1.1, within d (local x) few f.0)
item_fits d (init r rs) signs few f = (λ k e lt. (f.1 k e lt, signs k e lt), within d (init r rs) few f.0)

item_asked : (d : Declared) (i : ItemText) → ItemFits d i → RowsFit d i × NamesFit d i
item_asked d (global x v) h = (λ some. h.2, (h.0, h.1))
item_asked d (local x) h = (λ some. h.2, (h.0, h.1))
item_asked d (init r rs) h = (λ some. h.1, λ k e lt. (h.0 k e lt).0)

pub items_fit : (d : Declared) (is : List ItemText) → AllByRecursion HasInitSigns is → d.rows ≤ most_rows → AskedOf d is → ItemsFit d is
items_fit d [] signs few f = tt
items_fit d (i ∷ is) signs few f = (item_fits d i signs.0 few f.0, items_fit (with_item d i) is signs.1 (within d i few f.0.0) f.1)

pub items_asked : (d : Declared) (is : List ItemText) → ItemsFit d is → AskedOf d is
items_asked d [] h = tt
items_asked d (i ∷ is) h = (item_asked d i h.0, items_asked (with_item d i) is h.1)
