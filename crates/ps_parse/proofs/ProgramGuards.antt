-- The laws of items and of whole programs: what is read as a program is the tree of the text of the grammar that its words
-- are, and a fault of the grammar stands at the first word that no text of it goes on with.
use Rattle.std.proofs.Common.{◌≡◌, ◌≢◌, ℕ, zero, suc, ◌+◌, ◌-◌, ◌<◌, ◌≤◌, Bool, true, false, ◌||◌, List, [], ◌∷◌, ◌++◌, length, drop, Result, Ok, Err, refl, sym, ap, subst, ◌∙◌, arith}
use Rattle.std.specs.Prelude.{All, if◌then◌else◌}
use Rattle.std.specs.List.{flat_map, AllByRecursion}
use Rattle.std.proofs.lemmas.List.{append-nil, drop-drop}
use Rattle.std.proofs.lemmas.List.Elements.{All-from_recursion, All-weaker, recursion_from_All}
use Rattle.ps_token.specs.declared.place.Place.{Place}
use Rattle.ps_token.specs.declared.token_kind.TokenKind.TheVariants as kind
use Rattle.ps_tree.specs.declared.program.Program.{Program}
use Rattle.ps_tree.specs.declared.relation.Sign.TheVariants as sign
use Rattle.ps_tree.specs.declared.stmt.Stmt.{Stmt}
use Rattle.ps_parse.specs.declared.read_refusal.ReadRefusal.{ReadRefusal}
use Rattle.ps_parse.specs.declared.read_refusal.ReadRefusal.TheVariants.{Grammar}
use Rattle.ps_grammar.specs.Grammar.{RelationText, ItemText, global, local, init, BlockText, block_end, ProgramText}
use Rattle.ps_grammar.specs.Words.{Word}
use Rattle.ps_parse.specs.Inner.Reading.{WordsAhead, after_word, words_end_from}
use Rattle.ps_lines.specs.Steps.{◌>>=◌}
use Rattle.ps_parse.specs.Inner.Blocks.{block_at}
use Rattle.ps_grammar.specs.Declarations.{Declared, nothing_declared, names_of}
use Rattle.ps_grammar.specs.Fits.{RelationFits, ItemFits, ItemsFit}
use Rattle.ps_grammar.specs.Programs.{IsProgramText}
use Rattle.ps_grammar.specs.Spelling.{Piece, Mark, pieces, item_pieces, block_pieces, program_pieces}
use Rattle.ps_grammar.specs.Trees.{block_trees, with_item, with_items, program_tree}
use Rattle.ps_parse.specs.Inner.Items.{item_at, has_item, items_at, program_at, program_in}
use Rattle.ps_parse.specs.Kinds.{place_of_next}
use Rattle.ps_parse.specs.Reads.{HasInitSigns, IsText, IsFirstGrammarFault}
use Rattle.ps_parse.proofs.Steps.{places, takes_pieces, begins_piece, Always, Alike, IsTest, either_test, next_test}
use Rattle.ps_parse.proofs.Guards.{Keeps, keeps_bind, keeps_end, keeps_more, alike_pieces, pieces_both, Any, Then, Went, Stood, Made, Guards, went_places, went_again, stood_never, took, stood_as, Example, example_of}
use Rattle.ps_parse.proofs.GuardSteps.{room_left, pair_pieces, Both, Joins, went_then, stood_then, stood_first, after_guards_more}
use Rattle.ps_parse.proofs.GuardLoops.{GoesOn, Ends, turn_goes, turn_ends, turn_fails, turn_stops}
use Rattle.ps_parse.proofs.StmtGuards.{block_guards, block_example}
use Rattle.ps_parse.proofs.DeclarationGuards.{with_rows, item_guards}

-- ---- items

-- what is declared after items doesn't rest on rows, but for the rows
rows_apart : (n : ℕ) (is : List ItemText) (d : Declared) (m : ℕ) → with_rows n (with_items (with_rows m d) is) ≡ with_rows n (with_items d is)
rows_apart n [] d m = refl
rows_apart n (global x v ∷ is) d m = rows_apart n is (with_item d (global x v)) _
rows_apart n (local x ∷ is) d m = rows_apart n is (with_item d (local x)) _
rows_apart n (init r rs ∷ is) d m = rows_apart n is (with_item d (init r rs)) _

abbrev items_pieces : List ItemText → List Piece
items_pieces is = flat_map item_pieces is

abbrev begins_item : List Piece → Bool
begins_item ps = begins_piece kind.Global ps || begins_piece kind.Local ps || begins_piece kind.Init ps

item_test : IsTest has_item begins_item
item_test = either_test (either_test (next_test kind.Global) (next_test kind.Local)) (next_test kind.Init)

item_begins : (i : ItemText) (rest : List Piece) → begins_item (item_pieces i ++ rest) ≡ true
item_begins (global x v) rest = refl
item_begins (local x) rest = refl
item_begins (init r rs) rest = refl

item_some : (i : ItemText) → 1 ≤ length (item_pieces i)
item_some (global x v) = omega arith
item_some (local x) = omega arith
item_some (init r rs) = omega arith

items_go_on : GoesOn begins_item item_pieces Any
items_go_on = record { starts = item_begins; joins = λ c d rest. tt; some = item_some }

no_item : (ws : List Word) (end : Place) → length ws < 1 → has_item (record { words = ws; end = end }) ≡ false
no_item [] end h = refl
no_item (w ∷ ws) end h = absurd (omega (arith, h))

abbrev ItemsEnd : List ItemText → List Piece → Type 0
ItemsEnd = Ends begins_item Any

abbrev ItemsOkay : List ItemText → Type 0
ItemsOkay = AllByRecursion HasInitSigns

abbrev items_tree : Declared → List ItemText → List Place → Declared
items_tree d is ps = with_rows d.rows (with_items d is)

abbrev ItemsMade : Declared → WordsAhead → Declared × WordsAhead → Type 0
ItemsMade d at = Made items_pieces ItemsOkay (items_tree d) ItemsEnd at

abbrev ItemsStood : WordsAhead → ReadRefusal → Type 0
ItemsStood at = Stood items_pieces ItemsOkay ItemsEnd at

items_stuck : (n m l : ℕ) (d : Declared) → l ≤ suc m → l ≤ suc n → (at : WordsAhead) → length at.words < l → Keeps (items_at n d m at) (ItemsMade d at) (ItemsStood at)
unfolding items_at
items_stuck n zero l d a b at room = keeps_end _ _ _ (record { went = turn_stops at item_test items_go_on (no_item at.words at.end (omega (arith, room, a))); is = refl })
items_stuck n (suc m) l d a b at room =
    by_test (has_item at) refl (λ e mid short. items_stuck n m (l - 1) e (omega (arith, a)) (omega (arith, b)) mid short)
  where
    by_test : (t : Bool) → has_item at ≡ t → ((e : Declared) (mid : WordsAhead) → length mid.words < l - 1 → Keeps (items_at n e m mid) (ItemsMade e mid) (ItemsStood mid))
        → Keeps {A = Declared × WordsAhead} (if t then (item_at d n at >>= λ x. items_at n x.0 m x.1) else Ok (d, at)) (ItemsMade d at) (ItemsStood at)
    by_test true e more =
        keeps_bind _ _ _ _ _ _ ((item_guards n d).stuck at (omega (arith, room, b)))
        (λ x p. keeps_more _ _ _ _ _ (more x.0 x.1 (room_left l (l - 1) at.words p.went.front x.1.words (item_pieces p.went.text) room p.went.split p.went.spelled (omega (arith, item_some p.went.text, room))))
        (λ y q. record {
          went = turn_goes item_test items_go_on e p.went q.went;
          is = q.is ∙ ap (λ (c : Declared). with_rows c.rows (with_items c q.went.text)) p.is ∙ rows_apart d.rows q.went.text (with_item d p.went.text) d.rows;
        })
        (λ f q. turn_ends item_test items_go_on e p.went q))
        (λ f q. turn_fails item_test items_go_on e q)
    by_test false e more = keeps_end _ _ _ (record { went = turn_stops at item_test items_go_on e; is = refl })

-- ---- programs

abbrev body_pieces : BlockText → List Piece
body_pieces b = Mark kind.Thread ∷ block_pieces b

thread_guards : (n : ℕ) (d : Declared) → Guards (suc n) (after_word kind.Thread (block_at (names_of d) n)) body_pieces Always (λ b ps. block_trees (names_of d) b (drop 1 (drop 1 ps))) Any
thread_guards n d = after_guards_more {tree = λ b ps. block_trees (names_of d) b (drop 1 ps)} kind.Thread (λ u. refl) block_example (block_guards n (names_of d))

thread_example : Example body_pieces Always
thread_example = example_of block_end tt refl

-- the items and the body of a program
abbrev Parts : Type 0
Parts = List ItemText × BlockText

abbrev text_of : Parts → ProgramText
text_of c = record { items = c.0; body = c.1 }

abbrev parts_pieces : Parts → List Piece
parts_pieces = pair_pieces items_pieces body_pieces

abbrev PartsOkay : Parts → Type 0
PartsOkay = Both ItemsOkay Always

body_follows : (is : List ItemText) (b : BlockText) (rest : List Piece) → ItemsEnd is (body_pieces b ++ rest)
body_follows [] b rest = refl
body_follows (i ∷ is) b rest = (refl, tt)

thread_joins : Joins {C = List ItemText} body_pieces ItemsEnd Any Any
thread_joins = record { first = λ c rest h. body_follows c.0 c.1 rest; second = λ c rest h. tt }

abbrev IsEnd : Parts → List Piece → Type 0
IsEnd = Then (λ ps. ps ≡ [])

abbrev Fault : WordsAhead → ReadRefusal → Type 0
Fault = Stood parts_pieces PartsOkay IsEnd

at_end : {at : WordsAhead} {e : ReadRefusal} → Stood parts_pieces PartsOkay Any at e → Fault at e
at_end q = stood_as parts_pieces PartsOkay IsEnd (λ c. c) (λ c. refl) (λ c h. h) q (λ c ps tail ok stop alike h. q.none c ps tail ok tt alike h)

-- What was read as a program is the tree of the only text that the words are.
record IsRead (at : WordsAhead) (p : Program) : Type 0 where
  pub text : Parts
  pub spelled : pieces at.words ≡ parts_pieces text
  pub okay : PartsOkay text
  pub is : p ≡ program_tree (text_of text) (places at.words)
  pub only : (c : Parts) → PartsOkay c → pieces at.words ≡ parts_pieces c → c ≡ text

abbrev made : Declared → List Stmt → Program
made d body = record { globals = d.globals; locals = d.locals; inits = d.inits; body = body }

-- the parts of a program are what its text says
program_said : (is : List ItemText) (b : BlockText) (ps qs : List Place) (d : Declared) (body : List Stmt) → d ≡ with_rows 0 (with_items nothing_declared is) → qs ≡ drop (length (items_pieces is)) ps → body ≡ block_trees (names_of d) b (drop 1 (drop 1 qs)) → made d body ≡ program_tree (record { items = is; body = b }) ps
program_said is b ps qs d body e f g =
    let far : length (items_pieces is) + 1 + 1 ≡ length (items_pieces is) + 2 = omega arith in
    let place : drop 1 (drop 1 qs) ≡ drop (length (items_pieces is) + 2) ps =
    ap (λ (rs : List Place). drop 1 (drop 1 rs)) f ∙ ap (λ (rs : List Place). drop 1 rs) (drop-drop 1 (length (items_pieces is)) ps) ∙ drop-drop 1 (length (items_pieces is) + 1) ps ∙ ap (λ (k : ℕ). drop k ps) far in
    ap (made d) (g ∙ ap (block_trees (names_of d) b) place) ∙ ap (λ (c : Declared). made c (block_trees (names_of c) b (drop (length (items_pieces is) + 2) ps))) e

program_read : (at : WordsAhead) (d : Declared × WordsAhead) (b : List Stmt × WordsAhead) → ItemsMade nothing_declared at d → Made body_pieces Always (λ b ps. block_trees (names_of d.0) b (drop 1 (drop 1 ps))) Any d.1 b → b.1.words ≡ [] → IsRead at (made d.0 b.0)
program_read at d b p q none =
    let w : Went parts_pieces PartsOkay Any at b.1 = went_then thread_joins p.went q.went in
    record {
      text = (p.went.text, q.went.text);
      spelled = takes_pieces (took w) ∙ ap (λ (ws : List Word). parts_pieces (p.went.text, q.went.text) ++ pieces ws) none ∙ append-nil (parts_pieces (p.went.text, q.went.text));
      okay = (p.went.fine, q.went.fine);
      is = program_said p.went.text q.went.text (places at.words) (places d.1.words) d.0 b.0 p.is (went_places p.went) q.is;
      only = λ c ok e. (went_again w c [] ok tt (e ∙ sym (append-nil (parts_pieces c)))).0;
    }

program_stuck : (n : ℕ) (at : WordsAhead) → length at.words < suc n → Keeps (program_at n at) (IsRead at) (Fault at)
unfolding program_at
program_stuck n at room =
    keeps_bind _ _ _ _ _ _ (items_stuck n n (suc n) nothing_declared (omega arith) (omega arith) at room)
    (λ d p. keeps_bind _ _ _ _ _ _ ((thread_guards n d.0).stuck d.1 (room_left (suc n) (suc n) at.words p.went.front d.1.words (items_pieces p.went.text) room p.went.split p.went.spelled (omega arith)))
    (λ b q. keeps_bind _ _ _ _ _ _ (by_end b.1 (went_then thread_joins p.went q.went) b.1.words refl) (λ e none. keeps_end _ _ _ (program_read at d b p q none)) (λ f g. g))
    (λ f q. at_end (stood_then thread_joins p.went q)))
    (λ f q. at_end (stood_first thread_joins thread_example q))
  where
    by_end : (after : WordsAhead) → Went parts_pieces PartsOkay Any at after → (ws : List Word) → after.words ≡ ws → Keeps (words_end_from ws) (λ u. after.words ≡ []) (Fault at)
    by_end after r [] e = record { is = e }
    by_end after r (w ∷ ws) e = record {
      is = record {
        text = r.text;
        fine = r.fine;
        front = r.front;
        rest = w ∷ ws;
        more = [];
        split = r.split ∙ ap (λ (vs : List Word). r.front ++ vs) e;
        fault = refl;
        spelled = ap pieces (append-nil r.front) ∙ r.spelled;
        none = λ c ps tail ok stop alike h.
            subst (λ (qs : List Piece). Alike (pieces (w ∷ ws)) qs) ((r.only c ps tail ok tt (subst (λ (vs : List Word). Alike (pieces vs) ps) (sym e) alike) h).1 ∙ stop) alike;
      };
    }

pub read_is : (r : Result Program ReadRefusal) (Q : Program → Type 0) (R : ReadRefusal → Type 0) (p : Program) → Keeps r Q R → r ≡ Ok p → Q p
read_is r Q R p h same = kept (subst (λ s. Keeps s Q R) same h)
  where
    kept : Keeps {A = Program} (Ok p) Q R → Q p
    kept k = k.is

pub refused_is : (r : Result Program ReadRefusal) (Q : Program → Type 0) (R : ReadRefusal → Type 0) (e : ReadRefusal) → Keeps r Q R → r ≡ Err e → R e
refused_is r Q R e h same = kept (subst (λ s. Keeps s Q R) same h)
  where
    kept : Keeps {A = Program} (Err e) Q R → R e
    kept k = k.is

abbrev all_of : List Word → Place → WordsAhead
all_of words end = record { words = words; end = end }

words_stuck : (words : List Word) (end : Place) → Keeps (program_in words end) (IsRead (all_of words end)) (Fault (all_of words end))
words_stuck words end = program_stuck (length words) (all_of words end) (omega arith)

-- ---- the texts of programs

is_text : (c : Parts) (words : List Word) → PartsOkay c → pieces words ≡ parts_pieces c → IsText words
is_text c words fine e = record { text = text_of c; spelled = e; signs = All-from_recursion HasInitSigns c.0 fine.0 }

okay_signs : (t : ProgramText) → All HasInitSigns t.items → PartsOkay (t.items, t.body)
okay_signs t signs = (recursion_from_All HasInitSigns t.items signs, tt)

-- What is read as a program is the tree of a text of the grammar.
pub record IsReadText (words : List Word) (p : Program) : Type 0 where
  pub text : ProgramText
  pub spelled : pieces words ≡ program_pieces text
  pub signs : All HasInitSigns text.items
  pub tree : p ≡ program_tree text (places words)

pub program_of_read : (words : List Word) (end : Place) (p : Program) → program_in words end ≡ Ok p → IsReadText words p
program_of_read words end p e =
    let m : IsRead (all_of words end) p = read_is (program_in words end) _ _ p (words_stuck words end) e in
    record { text = text_of m.text; spelled = m.spelled; signs = All-from_recursion HasInitSigns m.text.0 m.okay.0; tree = m.is }

-- A text of the grammar is read as its tree.
pub program_of_spelled : (words : List Word) (end : Place) (t : ProgramText) → All HasInitSigns t.items → pieces words ≡ program_pieces t → program_in words end ≡ Ok (program_tree t (places words))
program_of_spelled words end t signs e = by_answer (program_in words end) (words_stuck words end)
  where
    by_answer : (r : Result Program ReadRefusal) → Keeps r (IsRead (all_of words end)) (Fault (all_of words end)) → r ≡ Ok (program_tree t (places words))
    by_answer (Ok q) k =
        let m : IsRead (all_of words end) q = k.is in
        let one : (t.items, t.body) ≡ m.text = m.only (t.items, t.body) (okay_signs t signs) e in
        ap (λ (o : Program). Ok o) (m.is ∙ ap (λ (c : Parts). program_tree (text_of c) (places words)) (sym one))
    by_answer (Err f) k = absurd (stood_never k.is (t.items, t.body) [] (okay_signs t signs) refl (e ∙ sym (append-nil (program_pieces t))))

item_signs : (d : Declared) (i : ItemText) → ItemFits d i → HasInitSigns i
item_signs d (global x v) h = tt
item_signs d (local x) h = tt
item_signs d (init r rs) h = All-weaker (λ (s : RelationText). RelationFits (names_of d) s × (s.sign ≢ sign.NotEqual)) (λ (s : RelationText). s.sign ≢ sign.NotEqual) (λ s f. f.1) (r ∷ rs) h.0

pub items_signs : (d : Declared) (is : List ItemText) → ItemsFit d is → AllByRecursion HasInitSigns is
items_signs d [] h = tt
items_signs d (i ∷ is) h = (item_signs d i h.0, items_signs (with_item d i) is h.1)

-- What is a program is read as that one.
pub program_of_again : (words : List Word) (end : Place) (p : Program) → IsProgramText words p → program_in words end ≡ Ok p
program_of_again words end p is =
    program_of_spelled words end is.text (All-from_recursion HasInitSigns is.text.items (items_signs nothing_declared is.text.items is.fits.items)) is.spelled ∙ ap (λ (o : Program). Ok o) (sym is.tree)

-- ---- refusals

-- a refusal is the first fault of the grammar
pub record IsReadFault (words : List Word) (end : Place) (e : ReadRefusal) : Type 0 where
  pub place : Place
  pub is : e ≡ Grammar place
  pub fault : IsFirstGrammarFault words end place

-- A refusal is a fault of the grammar, and stands where the words first go on as no text of it.
pub program_of_fault : (words : List Word) (end : Place) (e : ReadRefusal) → program_in words end ≡ Err e → IsReadFault words end e
program_of_fault words end e h =
    let f : Fault (all_of words end) e = refused_is (program_in words end) _ _ e (words_stuck words end) h in
    record {
      place = place_of_next f.rest end;
      is = f.fault;
      fault = record {
        before = f.front;
        rest = f.rest;
        split = f.split;
        place_is = refl;
        others = f.more;
        goes_on = is_text f.text (f.front ++ f.more) f.fine f.spelled;
        stops = λ others alike t.
            f.none (t.text.items, t.text.body) (pieces others) [] (okay_signs t.text t.signs) refl (alike_pieces f.rest others alike)
            (sym (pieces_both f.front others) ∙ t.spelled ∙ sym (append-nil (program_pieces t.text)));
      };
    }

grammar_place : (p q : Place) → Grammar p ≡ Grammar q → p ≡ q
grammar_place p q e = cc

pub program_of_grammar : (words : List Word) (end place : Place) → program_in words end ≡ Err (Grammar place) → IsFirstGrammarFault words end place
program_of_grammar words end place h =
    let f : IsReadFault words end (Grammar place) = program_of_fault words end (Grammar place) h in
    subst (IsFirstGrammarFault words end) (sym (grammar_place place f.place f.is)) f.fault
