-- The text that is printed of the program of a text fits and is read as the same program, but for places.
use Rattle.std.proofs.Common.{◌≡◌, ◌≢◌, ℕ, ◌+◌, ◌-◌, ◌^◌, ◌<◌, ◌≤◌, ℤ, false, List, [], ◌∷◌, ◌++◌, length, drop, map, Option, Some, None, refl, sym, ◌∙◌, ap, subst, append_assoc, append-nil, arith}
use Rattle.std.specs.Prelude.{All, decimal, unsigned_abs}
use Rattle.std.specs.List.{flat_map}
use Rattle.std.specs.Str.Parse.{digits_value}
use Rattle.std.proofs.lemmas.List.{length-append, map-append}
use Rattle.std.proofs.lemmas.List.Elements.{All-cons, All-head, All-nil, All-tail}
use Rattle.ps_term.specs.declared.var.Var.{Var}
use Rattle.ps_token.specs.declared.place.Place.{Place}
use Rattle.ps_token.specs.declared.token_kind.TokenKind.TheVariants as kind
use Rattle.ps_token.specs.Lexing.{IsName}
use Rattle.ps_tree.specs.declared.global_decl.GlobalDecl.{GlobalDecl}
use Rattle.ps_tree.specs.declared.program.Program.{Program}
use Rattle.ps_tree.specs.declared.relation.Relation.{Relation}
use Rattle.ps_tree.specs.declared.relation.Sign.TheVariants as sign
use Rattle.ps_tree.specs.declared.stmt.Stmt.{Stmt}
use Rattle.ps_grammar.specs.Names.{Names}
use Rattle.ps_print.specs.Canonical.{is_negative, relation_text}
use Rattle.ps_grammar.specs.Fits.{IsNew, ItemFits, ItemsFit, ProgramFits, RelationFits, RestFits}
use Rattle.ps_grammar.specs.Grammar.{RelationText, ValueText, ItemText, global, local, init, ProgramText}
use Rattle.ps_grammar.specs.Declarations.{Declared, most_globals, most_levels, most_locals, most_rows, names_of, nothing_declared, rows_of_sign, rows_of_value}
use Rattle.ps_print.specs.Printed.{global_item, init_item, program_text, unplaced, value_text}
use Rattle.ps_grammar.specs.Spelling.{NumberPiece, Mark, item_pieces, minus_pieces, more_relations, program_pieces, relation_pieces, rest_pieces, value_pieces}
use Rattle.ps_grammar.specs.Numbers.{signed}
use Rattle.ps_grammar.specs.Trees.{block_trees, program_tree, relation_tree, rows_of_relations, declared_value, with_item, with_items}
use Rattle.ps_grammar.specs.Texts.{ArePieces}
use Rattle.ps_grammar.proofs.Texts.{joined, left, right, value_below}
use Rattle.ps_print.proofs.Spelled.{abs_signed, decimal_spelled, decimal_value, signed_abs}
use Rattle.ps_print.proofs.SumsBack.{GoodRelation, minus_spelled, relation_good}
use Rattle.ps_print.proofs.BlocksBack.{block_good, without_place}
use Rattle.ps_print.proofs.NamesApart.{Apart, apart_before, apart_insert, apart_left, Extends, global_extends, local_extends, new_from, new_to, not_in_both, not_in_left, not_in_right, relation_more}

abbrev names_in : List GlobalDecl → List (List ℕ)
names_in gs = map (λ (g : GlobalDecl). g.name) gs

-- ---- what holds of all that is declared

record InitOk (names : Names) (r : Relation) : Type 0 where
  text : RelationText
  fits : RelationFits names text
  spelled : ArePieces (relation_pieces text)
  is : r ≡ relation_tree names text
  sign : text.sign ≢ sign.NotEqual

init_more : (names more : Names) → Extends names more → (r : Relation) → InitOk names r → InitOk more r
init_more names more ext r i =
    let m = relation_more names more ext i.text i.fits in
    record { text = i.text; fits = m.0; spelled = i.spelled; is = i.is ∙ sym m.1; sign = i.sign }

abbrev AllInits : Names → List Relation → Type 0
AllInits names [] = Unit {0}
AllInits names (r ∷ rs) = InitOk names r × AllInits names rs

inits_more : (names more : Names) → Extends names more → (rs : List Relation) → AllInits names rs → AllInits more rs
inits_more names more ext [] h = tt
inits_more names more ext (r ∷ rs) h = (init_more names more ext r h.0, inits_more names more ext rs h.1)

inits_join : (names : Names) (rs ss : List Relation) → AllInits names rs → AllInits names ss → AllInits names (rs ++ ss)
inits_join names [] ss h k = k
inits_join names (r ∷ rs) ss h k = (h.0, inits_join names rs ss h.1 k)

abbrev ValueOk : Option ℤ → Type 0
ValueOk None = Unit {0}
ValueOk (Some v) = unsigned_abs v < 10 ^ 18

abbrev AllGlobals : List GlobalDecl → Type 0
AllGlobals [] = Unit {0}
AllGlobals (g ∷ gs) = IsName g.name × ValueOk g.value × AllGlobals gs

globals_join : (gs hs : List GlobalDecl) → AllGlobals gs → AllGlobals hs → AllGlobals (gs ++ hs)
globals_join [] hs h k = k
globals_join (g ∷ gs) hs h k = (h.0, h.1, globals_join gs hs h.2 k)

abbrev AllNames : List (List ℕ) → Type 0
AllNames [] = Unit {0}
AllNames (x ∷ xs) = IsName x × AllNames xs

names_join : (xs ys : List (List ℕ)) → AllNames xs → AllNames ys → AllNames (xs ++ ys)
names_join [] ys h k = k
names_join (x ∷ xs) ys h k = (h.0, names_join xs ys h.1 k)

abbrev value_rows : List GlobalDecl → ℕ
value_rows [] = 0
value_rows (g ∷ gs) = rows_of_value g.value + value_rows gs

value_rows-append : (gs hs : List GlobalDecl) → value_rows (gs ++ hs) ≡ value_rows gs + value_rows hs
value_rows-append [] hs = omega arith
value_rows-append (g ∷ gs) hs = omega (arith, value_rows-append gs hs)

abbrev sign_rows : List Relation → ℕ
sign_rows [] = 0
sign_rows (r ∷ rs) = rows_of_sign r.sign + sign_rows rs

sign_rows-append : (rs ss : List Relation) → sign_rows (rs ++ ss) ≡ sign_rows rs + sign_rows ss
sign_rows-append [] ss = omega arith
sign_rows-append (r ∷ rs) ss = omega (arith, sign_rows-append rs ss)

sign_rows-read : (names : Names) (ts : List RelationText) → sign_rows (map (relation_tree names) ts) ≡ rows_of_relations ts
sign_rows-read names [] = refl
sign_rows-read names (t ∷ ts) = ap (λ (n : ℕ). rows_of_sign t.sign + n) (sign_rows-read names ts)

record Fine (d : Declared) : Type 0 where
  apart : Apart (names_in d.globals ++ d.locals)
  globals : AllGlobals d.globals
  locals : AllNames d.locals
  inits : AllInits (names_of d) d.inits
  many_globals : length d.globals ≤ most_globals
  many_locals : length d.locals ≤ most_locals
  rows : d.rows ≡ value_rows d.globals + sign_rows d.inits
  few : d.rows ≤ most_rows

value_ok : (v : Option ValueText) → ArePieces (value_pieces v) → ValueOk (declared_value v)
value_ok None h = tt
value_ok (Some v) h =
    let small = value_below v.digits (right (minus_pieces v.negative) (NumberPiece v.digits ∷ []) h.1).0 in
    let is = abs_signed v.negative (digits_value 10 v.digits) None in
    omega (arith, is, small)

fine_global : (d : Declared) (x : List ℕ) (v : Option ValueText) → ItemFits d (global x v) → ArePieces (item_pieces (global x v)) → Fine d → Fine (with_item d (global x v))
fine_global d x v fit h f =
    let g : GlobalDecl = record { name = x; value = declared_value v } in
    let new = new_from (names_of d) x fit.0 in
    let named : names_in (d.globals ++ g ∷ []) ≡ names_in d.globals ++ x ∷ [] = map-append (λ (k : GlobalDecl). k.name) d.globals (g ∷ []) in
    let ext : Extends (names_of d) (names_of (with_item d (global x v))) = subst (λ (ns : List (List ℕ)). Extends (names_of d) (record { globals = ns; locals = d.locals })) (sym named) (global_extends (names_in d.globals) d.locals x new.1) in
    record {
      apart = subst Apart (sym (ap (λ (ns : List (List ℕ)). ns ++ d.locals) named ∙ append_assoc (names_in d.globals) (x ∷ []) d.locals)) (apart_insert x (names_in d.globals) d.locals new.0 new.1 f.apart);
      globals = globals_join d.globals (g ∷ []) f.globals (h.1.0, value_ok v (left (value_pieces v) (Mark kind.Semicolon ∷ []) h.1.1), tt);
      locals = f.locals;
      inits = inits_more (names_of d) (names_of (with_item d (global x v))) ext d.inits f.inits;
      many_globals = omega (arith, length-append d.globals (g ∷ []), fit.1);
      many_locals = f.many_locals;
      rows = omega (arith, f.rows, value_rows-append d.globals (g ∷ []));
      few = fit.2;
    }

fine_local : (d : Declared) (x : List ℕ) → ItemFits d (local x) → ArePieces (item_pieces (local x)) → Fine d → Fine (with_item d (local x))
fine_local d x fit h f =
    let new = new_from (names_of d) x fit.0 in
    let apart = subst Apart (append_assoc (names_in d.globals) d.locals (x ∷ [])) (apart_insert x (names_in d.globals ++ d.locals) [] (not_in_both x (names_in d.globals) d.locals new.0 new.1) tt (subst Apart (sym (append-nil (names_in d.globals ++ d.locals))) f.apart)) in
    record {
      apart = apart;
      globals = f.globals;
      locals = names_join d.locals (x ∷ []) f.locals (h.1.0, tt);
      inits = inits_more (names_of d) (names_of (with_item d (local x))) (local_extends (names_in d.globals) d.locals x) d.inits f.inits;
      many_globals = f.many_globals;
      many_locals = omega (arith, length-append d.locals (x ∷ []), fit.1);
      rows = omega (arith, f.rows);
      few = fit.2;
    }

abbrev RelationOk : Names → RelationText → Type 0
RelationOk names s = RelationFits names s × (s.sign ≢ sign.NotEqual)

inits_read : (names : Names) (ts : List RelationText) → All (RelationOk names) ts → ArePieces (more_relations ts) → AllInits names (map (relation_tree names) ts)
inits_read names [] fit h = tt
inits_read names (t ∷ ts) fit h =
    let one = All-head (RelationOk names) t ts fit in (
      record { text = t; fits = one.0; spelled = left (relation_pieces t) (more_relations ts) h.1; is = refl; sign = one.1 },
      inits_read names ts (All-tail (RelationOk names) t ts fit) (right (relation_pieces t) (more_relations ts) h.1),
    )

fine_init : (d : Declared) (r : RelationText) (rs : List RelationText) → ItemFits d (init r rs) → ArePieces (item_pieces (init r rs)) → Fine d → Fine (with_item d (init r rs))
fine_init d r rs fit h f =
    let words = left (relation_pieces r) (more_relations rs ++ Mark kind.Semicolon ∷ []) h.1 in
    let further = left (more_relations rs) (Mark kind.Semicolon ∷ []) (right (relation_pieces r) (more_relations rs ++ Mark kind.Semicolon ∷ []) h.1) in
    record {
      apart = f.apart;
      globals = f.globals;
      locals = f.locals;
      inits = inits_join (names_of d) d.inits (map (relation_tree (names_of d)) (r ∷ rs)) f.inits (inits_read (names_of d) (r ∷ rs) fit.0 (tt, joined (relation_pieces r) (more_relations rs) words further));
      many_globals = f.many_globals;
      many_locals = f.many_locals;
      rows = omega (arith, f.rows, sign_rows-append d.inits (map (relation_tree (names_of d)) (r ∷ rs)), sign_rows-read (names_of d) (r ∷ rs));
      few = fit.1;
    }

fine_item : (d : Declared) (i : ItemText) → ItemFits d i → ArePieces (item_pieces i) → Fine d → Fine (with_item d i)
fine_item d (global x v) fit h f = fine_global d x v fit h f
fine_item d (local x) fit h f = fine_local d x fit h f
fine_item d (init r rs) fit h f = fine_init d r rs fit h f

fine_items : (d : Declared) (is : List ItemText) → ItemsFit d is → ArePieces (flat_map item_pieces is) → Fine d → Fine (with_items d is)
fine_items d [] fit h f = f
fine_items d (i ∷ is) fit h f =
    fine_items (with_item d i) is fit.1 (right (item_pieces i) (flat_map item_pieces is) h) (fine_item d i fit.0 (left (item_pieces i) (flat_map item_pieces is) h) f)

-- ---- the same declarations, in the order in which they are printed

abbrev state : List GlobalDecl → List (List ℕ) → List Relation → Declared
state gs ls rs = record { globals = gs; locals = ls; inits = rs; rows = value_rows gs + sign_rows rs }

-- the items fit from one state and lead to another
record LeadsTo (from to : Declared) (is : List ItemText) : Type 0 where
  fits : ItemsFit from is
  with_all : with_items from is ≡ to
  spelled : ArePieces (flat_map item_pieces is)

leads_none : (from to : Declared) → from ≡ to → LeadsTo from to []
leads_none from to e = record { fits = tt; with_all = e; spelled = tt }

leads_more : (from next to : Declared) (i : ItemText) (is : List ItemText) → ItemFits from i → with_item from i ≡ next → ArePieces (item_pieces i) → LeadsTo next to is → LeadsTo from to (i ∷ is)
leads_more from next to i is fit e h l = record {
  fits = (fit, subst (λ (d : Declared). ItemsFit d is) (sym e) l.fits);
  with_all = ap (λ (d : Declared). with_items d is) e ∙ l.with_all;
  spelled = joined (item_pieces i) (flat_map item_pieces is) h l.spelled;
}

leads_join : (from next to : Declared) (is js : List ItemText) → LeadsTo from next is → LeadsTo next to js → LeadsTo from to (is ++ js)
leads_join from next to [] js l m = subst (λ (d : Declared). LeadsTo d to js) (sym l.with_all) m
leads_join from next to (i ∷ is) js l m =
    let r = leads_join (with_item from i) next to is js (record { fits = l.fits.1; with_all = l.with_all; spelled = right (item_pieces i) (flat_map item_pieces is) l.spelled }) m in
    leads_more from (with_item from i) to i (is ++ js) l.fits.0 refl (left (item_pieces i) (flat_map item_pieces is) l.spelled) r

-- ---- globals

value_good : (v : Option ℤ) → ValueOk v → (declared_value (value_text v) ≡ v) × ArePieces (value_pieces (value_text v))
value_good None h = (refl, tt)
value_good (Some z) h = (
  ap (λ (m : ℤ). Some (signed (is_negative z) (m, None)).0) (decimal_value (unsigned_abs z) h) ∙ ap (λ (p : ℤ × Option Var). Some p.0) (signed_abs z None),
  (tt, joined (minus_pieces (is_negative z)) (NumberPiece (decimal (unsigned_abs z)) ∷ []) (minus_spelled (is_negative z)) (decimal_spelled (unsigned_abs z) h, tt)),
)

abbrev with_rows : List GlobalDecl → List (List ℕ) → List Relation → ℕ → Declared
with_rows gs ls rs n = record { globals = gs; locals = ls; inits = rs; rows = n }

abbrev with_value : List GlobalDecl → GlobalDecl → Option ℤ → Declared
with_value before g v = record { globals = before ++ record { name = g.name; value = v } ∷ []; locals = []; inits = []; rows = (value_rows before + 0) + rows_of_value v }

global_next : (before : List GlobalDecl) (g : GlobalDecl) → ValueOk g.value → with_item (state before [] []) (global_item g) ≡ state (before ++ g ∷ []) [] []
global_next before g ok =
    let sums : (value_rows before + 0) + rows_of_value g.value ≡ value_rows (before ++ g ∷ []) + 0 = omega (arith, value_rows-append before (g ∷ [])) in
    ap (λ (v : Option ℤ). with_value before g v) (value_good g.value ok).0 ∙ ap (λ (n : ℕ). with_rows (before ++ g ∷ []) [] [] n) sums

globals_again : (all before gs : List GlobalDecl) → all ≡ before ++ gs → Apart (names_in all) → AllGlobals gs → length all ≤ most_globals → value_rows all ≤ most_rows → LeadsTo (state before [] []) (state all [] []) (map global_item gs)
globals_again all before [] e apart ok few rows = leads_none (state before [] []) (state all [] []) (ap (λ (gs : List GlobalDecl). state gs [] []) (sym (e ∙ append-nil before)))
globals_again all before (g ∷ gs) e apart ok few rows =
    let next = global_next before g ok.1 in
    let parted : Apart (names_in before ++ g.name ∷ names_in gs) = subst Apart (ap names_in e ∙ map-append (λ (k : GlobalDecl). k.name) before (g ∷ gs)) apart in
    let new : IsNew (state before [] []) g.name = new_to (names_of (state before [] [])) g.name (apart_before g.name (names_in before) (names_in gs) parted) tt in
    let room : length before < most_globals = omega (arith, few, ap length e, length-append before (g ∷ gs)) in
    let fit : (with_item (state before [] []) (global_item g)).rows ≤ most_rows = omega (arith, rows, ap value_rows e, value_rows-append before (g ∷ gs), value_rows-append before (g ∷ []), ap (λ (d : Declared). d.rows) next) in
    leads_more (state before [] []) (state (before ++ g ∷ []) [] []) (state all [] []) (global_item g) (map global_item gs) (new, room, fit) next
    (tt, (ok.0, joined (value_pieces (value_text g.value)) (Mark kind.Semicolon ∷ []) (value_good g.value ok.1).1 (tt, tt)))
    (globals_again all (before ++ g ∷ []) gs (e ∙ sym (append_assoc before (g ∷ []) gs)) apart ok.2 few rows)

-- ---- locals

locals_again : (gs : List GlobalDecl) (all before ls : List (List ℕ)) → all ≡ before ++ ls → Apart (names_in gs ++ all) → AllNames ls → length all ≤ most_locals → value_rows gs ≤ most_rows → LeadsTo (state gs before []) (state gs all []) (map local ls)
locals_again gs all before [] e apart ok few rows = leads_none (state gs before []) (state gs all []) (ap (λ (ls : List (List ℕ)). state gs ls []) (sym (e ∙ append-nil before)))
locals_again gs all before (x ∷ ls) e apart ok few rows =
    let sums : (value_rows gs + 0) + 0 ≡ value_rows gs + 0 = omega arith in
    let next : with_item (state gs before []) (local x) ≡ state gs (before ++ x ∷ []) [] = ap (λ (n : ℕ). with_rows gs (before ++ x ∷ []) [] n) sums in
    let parted : Apart ((names_in gs ++ before) ++ x ∷ ls) = subst Apart (ap (λ (xs : List (List ℕ)). names_in gs ++ xs) e ∙ sym (append_assoc (names_in gs) before (x ∷ ls))) apart in
    let absent = apart_before x (names_in gs ++ before) ls parted in
    let new : IsNew (state gs before []) x = new_to (names_of (state gs before [])) x (not_in_left x (names_in gs) before absent) (not_in_right x (names_in gs) before absent) in
    let room : length before < most_locals = omega (arith, few, ap length e, length-append before (x ∷ ls)) in
    let fit : (with_item (state gs before []) (local x)).rows ≤ most_rows = omega (arith, rows) in
    leads_more (state gs before []) (state gs (before ++ x ∷ []) []) (state gs all []) (local x) (map local ls) (new, room, fit) next
    (tt, (ok.0, (tt, tt)))
    (locals_again gs all (before ++ x ∷ []) ls (e ∙ sym (append_assoc before (x ∷ []) ls)) apart ok.1 few rows)

-- ---- relations of the start

init_good : (names : Names) (r : Relation) → InitOk names r → GoodRelation names r × (r.sign ≢ sign.NotEqual)
init_good names r i = (
  subst (λ (q : Relation). GoodRelation names q) (sym i.is) (relation_good names i.text i.fits i.spelled),
  λ (e : r.sign ≡ sign.NotEqual). i.sign (sym (ap (λ (q : Relation). q.sign) i.is) ∙ e),
)

inits_again : (gs : List GlobalDecl) (ls : List (List ℕ)) (all before rs : List Relation) → all ≡ before ++ rs → AllInits (names_of (state gs ls [])) rs → value_rows gs + sign_rows all ≤ most_rows → LeadsTo (state gs ls before) (state gs ls all) (map (init_item (names_of (state gs ls []))) rs)
inits_again gs ls all before [] e ok rows = leads_none (state gs ls before) (state gs ls all) (ap (λ (rs : List Relation). state gs ls rs) (sym (e ∙ append-nil before)))
inits_again gs ls all before (r ∷ rs) e ok rows =
    let names = names_of (state gs ls []) in
    let good = init_good names r ok.0 in
    let sums : (value_rows gs + sign_rows before) + (rows_of_sign r.sign + 0) ≡ value_rows gs + sign_rows (before ++ r ∷ []) = omega (arith, sign_rows-append before (r ∷ [])) in
    let next : with_item (state gs ls before) (init_item names r) ≡ state gs ls (before ++ r ∷ []) =
    ap (λ (q : Relation). with_rows gs ls (before ++ q ∷ []) ((value_rows gs + sign_rows before) + (rows_of_sign r.sign + 0))) good.0.back ∙ ap (λ (n : ℕ). with_rows gs ls (before ++ r ∷ []) n) sums in
    let fit : (with_item (state gs ls before) (init_item names r)).rows ≤ most_rows = omega (arith, rows, ap sign_rows e, sign_rows-append before (r ∷ rs), sign_rows-append before (r ∷ []), ap (λ (d : Declared). d.rows) next) in
    leads_more (state gs ls before) (state gs ls (before ++ r ∷ [])) (state gs ls all) (init_item names r) (map (init_item names) rs)
    (All-cons (RelationOk names) (relation_text names r) [] (good.0.fits, good.1) (All-nil (RelationOk names)), fit) next
    (tt, joined (relation_pieces (relation_text names r)) (Mark kind.Semicolon ∷ []) good.0.spelled (tt, tt))
    (inits_again gs ls all (before ++ r ∷ []) rs (e ∙ sym (append_assoc before (r ∷ []) rs)) ok.1 rows)

-- ---- the whole program

-- what is printed of a program fits, is spelled from words, and is read as the program, but for places
pub record PrintedBack (p : Program) (others : List Place) : Type 0 where
  pub fits : ProgramFits (program_text p)
  pub spelled : ArePieces (program_pieces (program_text p))
  pub back : unplaced (program_tree (program_text p) others) ≡ unplaced p

fine_nothing : Fine nothing_declared
fine_nothing = record { apart = tt; globals = tt; locals = tt; inits = tt; many_globals = omega arith; many_locals = omega arith; rows = refl; few = omega arith }

abbrev placeless : Declared → List Stmt → Program
placeless d body = record { globals = d.globals; locals = d.locals; inits = d.inits; body = map without_place body }

pub program_back : (t : ProgramText) (places others : List Place) → ProgramFits t → ArePieces (program_pieces t) → PrintedBack (program_tree t places) others
program_back t places others fit h =
    let d = with_items nothing_declared t.items in
    let p = program_tree t places in
    let names = names_of d in
    let front = left (flat_map item_pieces t.items) (Mark kind.Thread ∷ Mark kind.OpenBrace ∷ rest_pieces t.body) h in
    let last = (right (flat_map item_pieces t.items) (Mark kind.Thread ∷ Mark kind.OpenBrace ∷ rest_pieces t.body) h).1.1 in
    let f = fine_items nothing_declared t.items fit.items front fine_nothing in
    let values : value_rows d.globals ≤ most_rows = omega (arith, f.rows, f.few) in
    let rows : value_rows d.globals + sign_rows d.inits ≤ most_rows = omega (arith, f.rows, f.few) in
    let gs = globals_again d.globals [] d.globals refl (apart_left (names_in d.globals) d.locals f.apart) f.globals f.many_globals values in
    let ls = locals_again d.globals d.locals [] d.locals refl f.apart f.locals f.many_locals values in
    let is = inits_again d.globals d.locals d.inits [] d.inits refl f.inits rows in
    let all = leads_join (state [] [] []) (state d.globals [] []) (state d.globals d.locals d.inits) (map global_item d.globals) (map local d.locals ++ map (init_item names) d.inits) gs
    (leads_join (state d.globals [] []) (state d.globals d.locals []) (state d.globals d.locals d.inits) (map local d.locals) (map (init_item names) d.inits) ls is) in
    let block = block_good names (most_levels - 1) false t.body fit.body last (drop (length (flat_map item_pieces t.items) + 2) places) in
    let later = drop (length (flat_map item_pieces (program_text p).items) + 2) others in
    record {
      fits = record { items = all.fits; body = subst (λ (e : Declared). RestFits (names_of e) (most_levels - 1) false (program_text p).body) (sym all.with_all) block.fits };
      spelled = joined (flat_map item_pieces (program_text p).items) (Mark kind.Thread ∷ Mark kind.OpenBrace ∷ rest_pieces (program_text p).body) all.spelled (tt, (tt, block.spelled));
      back = ap (λ (e : Declared). placeless e (block_trees (names_of e) (program_text p).body later)) all.with_all ∙ ap (λ (b : List Stmt). record { globals = d.globals; locals = d.locals; inits = d.inits; body = b }) (block.back later);
    }
