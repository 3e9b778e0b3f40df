-- What refuses a word, by what is kept of the words before it.
use Rattle.std.proofs.Common.{◌≡◌, ◌⊎◌, inl, inr, ℕ, ◌+◌, ◌<◌, ◌≤◌, Bool, true, false, ◌&&◌, ◌||◌, List, [], ◌∷◌, length, Option, Some, None, refl, sym, ap, subst, ◌∙◌, arith}
use Rattle.std.specs.Prelude.{Contains, nat_le, nat_lt}
use Rattle.std.proofs.lemmas.Bool.{and_cases, and_parts, leb-false, leb-true, ltb-false, ltb-true, or_parts, true≢false}
use Rattle.ps_token.specs.Lexing.{IsSpelled}
use Rattle.ps_token.specs.declared.token_kind.TokenKind.{TokenKind}
use Rattle.ps_token.specs.declared.token_kind.TokenKind.TheVariants as kind
use Rattle.ps_tree.specs.declared.relation.Sign.{Sign}
use Rattle.ps_tree.specs.declared.relation.Sign.TheVariants as sign
use Rattle.ps_tree.specs.declared.limit_name.LimitName.TheVariants as limit
use Rattle.ps_grammar.specs.Declarations.{most_globals, most_levels, most_locals, most_rows, rows_of_sign}
use Rattle.ps_grammar.specs.Trees.{rows_of_relations}
use Rattle.ps_grammar.specs.Words.{Word}
use Rattle.ps_parse.specs.Causes.{GivesRows, count_of, declared_in, is_after_factor, is_declaration, levels, opens_level, rows_passed}
use Rattle.ps_parse.specs.Kinds.{begins_with, is_kind}
use Rattle.ps_parse.specs.Inner.Passed.{Blames, IsLeastCause, IsSpelledWord, MostRows, Tally, Tells, declares, has_atomic, has_many_globals, has_many_locals, has_name, is_kind_of, multiplies, nearest_kind, second_kind}
use Rattle.ps_parse.specs.declared.level.Level.{Level}
use Rattle.ps_parse.specs.declared.level.Level.TheVariants as level
use Rattle.ps_parse.specs.declared.read_refusal.ReadRefusal.{ReadRefusal}
use Rattle.ps_parse.specs.declared.read_refusal.ReadRefusal.TheVariants as refusal
use Rattle.ps_parse.proofs.NamesDeclared.{contains_named, named_contains}
use Rattle.ps_parse.proofs.WordsAllowed.{least_full, least_limit, least_loop, least_twice, least_unknown, looping, marked, naming, new_allows, no_cause, opening, opens_item, test_clash}
use Rattle.ps_parse.proofs.Steps.{one_kind}
use Rattle.ps_parse.proofs.Passing.{atomic_contained, begins_is, contained_atomic, declares_is, multiplies_is}

-- ---- names

-- the name is declared, by the names that are kept and by the words
known_is : {t : Tally} {back : List Word} (w : Word) → Tells t back → IsSpelledWord w → w.kind ≡ kind.Name → has_name w.text t.names ≡ has_name w.text (declared_in back)
known_is w h s e = h.names w.text (subst (λ (k : TokenKind). IsSpelled k w.text) e s)

pub known : {t : Tally} {back : List Word} (w : Word) → Tells t back → IsSpelledWord w → w.kind ≡ kind.Name → has_name w.text t.names ≡ true → Contains (declared_in back) w.text
known {back = back} w h s e f = contains_named w.text (declared_in back) (sym (known_is w h s e) ∙ f)

pub unknown : {t : Tally} {back : List Word} (w : Word) → Tells t back → IsSpelledWord w → w.kind ≡ kind.Name → has_name w.text t.names ≡ false → ¬ Contains (declared_in back) w.text
unknown {back = back} w h s e f c = true≢false (sym (named_contains w.text (declared_in back) c) ∙ sym (known_is w h s e) ∙ f)

no_star : (k : TokenKind) → (is_kind k kind.Global || is_kind k kind.Local) ≡ true → is_kind k kind.Star ≡ false
no_star kind.Global h = refl
no_star kind.Local h = refl
no_star k h = absurd (true≢false (sym h))

no_factor : (back : List Word) → is_declaration back ≡ true → is_after_factor back ≡ false
no_factor [] h = refl
no_factor (w ∷ back) h = ap (λ (b : Bool). b && begins_with kind.Name back) (no_star w.kind h)

nearest_begins : {t : Tally} {back : List Word} (k : TokenKind) → Tells t back → is_kind_of t.nearest k ≡ begins_with k back
nearest_begins {back = back} k h = ap (λ (o : Option TokenKind). is_kind_of o k) h.nearest ∙ begins_is k back

pub twice_least : {t : Tally} {back : List Word} (w : Word) (ahead : List Word) → Tells t back → IsSpelledWord w → w.kind ≡ kind.Name → declares t ≡ true → has_name w.text t.names ≡ true
    → IsLeastCause back w ahead (refusal.Twice w.place)
twice_least {back = back} w ahead h s e d f =
    let declared : is_declaration back ≡ true = sym (declares_is h) ∙ d in
    record {
      place_is = refl;
      cause = (e, declared, known w h s e f);
      least = least_twice back w ahead declared (no_factor back declared);
    }

-- more of them than the most
many_is : (k : TokenKind) (t : Tally) (back : List Word) (most count passed : ℕ) → Tells t back → count ≡ passed → (is_kind_of t.nearest k && nat_lt most count) ≡ true → (begins_with k back ≡ true) × (most < passed)
many_is k t back most count passed h same f =
    let p : (is_kind_of t.nearest k ≡ true) × (nat_lt most count ≡ true) = and_parts _ _ f in
    let lt : most < count = ltb-true most count p.1 in
    (sym (nearest_begins k h) ∙ p.0, omega (arith, lt, same))

few_is : (k : TokenKind) (t : Tally) (back : List Word) (most count passed : ℕ) → Tells t back → count ≡ passed → (is_kind_of t.nearest k && nat_lt most count) ≡ false → begins_with k back ≡ true → passed ≤ most
few_is k t back most count passed h same f b = by_cases (and_cases _ _ f)
  where
    by_cases : (is_kind_of t.nearest k ≡ false) ⊎ (nat_lt most count ≡ false) → passed ≤ most
    by_cases (inl e) = absurd (true≢false (sym b ∙ sym (nearest_begins k h) ∙ e))
    by_cases (inr e) = let le : count ≤ most = ltb-false most count e in omega (arith, le, same)

pub globals_least : {t : Tally} {back : List Word} (w : Word) (ahead : List Word) → Tells t back → IsSpelledWord w → w.kind ≡ kind.Name → declares t ≡ true → has_name w.text t.names ≡ false → has_many_globals t ≡ true
    → IsLeastCause back w ahead (refusal.Limit w.place limit.Globals)
globals_least {t = t} {back = back} w ahead h s e d f m =
    let declared : is_declaration back ≡ true = sym (declares_is h) ∙ d in
    let many : (begins_with kind.Global back ≡ true) × (most_globals < count_of kind.Global back) = many_is kind.Global t back most_globals t.globals _ h h.globals m in
    record {
      place_is = refl;
      cause = (e, many.0, many.1);
      least = least_full back w ahead e declared (no_factor back declared) (unknown w h s e f);
    }

pub locals_least : {t : Tally} {back : List Word} (w : Word) (ahead : List Word) → Tells t back → IsSpelledWord w → w.kind ≡ kind.Name → declares t ≡ true → has_name w.text t.names ≡ false → has_many_locals t ≡ true
    → IsLeastCause back w ahead (refusal.Limit w.place limit.Locals)
locals_least {t = t} {back = back} w ahead h s e d f m =
    let declared : is_declaration back ≡ true = sym (declares_is h) ∙ d in
    let many : (begins_with kind.Local back ≡ true) × (most_locals < count_of kind.Local back) = many_is kind.Local t back most_locals t.locals _ h h.locals m in
    record {
      place_is = refl;
      cause = (e, many.0, many.1);
      least = least_full back w ahead e declared (no_factor back declared) (unknown w h s e f);
    }

pub new_none : {t : Tally} {back : List Word} (w : Word) (ahead : List Word) → Tells t back → IsSpelledWord w → w.kind ≡ kind.Name → declares t ≡ true → has_name w.text t.names ≡ false → has_many_globals t ≡ false → has_many_locals t ≡ false
    → Blames back w ahead None
new_none {t = t} {back = back} w ahead h s e d f m n =
    let declared : is_declaration back ≡ true = sym (declares_is h) ∙ d in
    no_cause (new_allows back w ahead e declared (no_factor back declared) (unknown w h s e f) (record {
      globals = few_is kind.Global t back most_globals t.globals _ h h.globals m;
      locals = few_is kind.Local t back most_locals t.locals _ h h.locals n;
    }))

pub known_none : {t : Tally} {back : List Word} (w : Word) (ahead : List Word) → Tells t back → IsSpelledWord w → w.kind ≡ kind.Name → multiplies t ≡ false → declares t ≡ false → has_name w.text t.names ≡ true → Blames back w ahead None
known_none {back = back} w ahead h s e m d f = no_cause (naming back w ahead (sym (declares_is h) ∙ d) (sym (multiplies_is h) ∙ m) (known w h s e f) e)

pub unknown_least : {t : Tally} {back : List Word} (w : Word) (ahead : List Word) → Tells t back → IsSpelledWord w → w.kind ≡ kind.Name → multiplies t ≡ false → declares t ≡ false → has_name w.text t.names ≡ false
    → IsLeastCause back w ahead (refusal.UnknownName w.place)
unknown_least {back = back} w ahead h s e m d f = record {
  place_is = refl;
  cause = (e, sym (declares_is h) ∙ d, unknown w h s e f);
  least = least_unknown back w ahead (sym (multiplies_is h) ∙ m);
}

-- ---- `while`

pub loop_least : {t : Tally} {back : List Word} (w : Word) (ahead : List Word) → Tells t back → w.kind ≡ kind.While → has_atomic t.levels ≡ true → IsLeastCause back w ahead (refusal.LoopInAtomic w.place)
loop_least {back = back} w ahead h e f = record {
  place_is = refl;
  cause = (e, subst (λ (ls : List Level). Contains ls level.AtomicBlock) h.levels (atomic_contained _ f));
  least = least_loop back w ahead e;
}

pub loop_none : {t : Tally} {back : List Word} (w : Word) (ahead : List Word) → Tells t back → w.kind ≡ kind.While → has_atomic t.levels ≡ false → Blames back w ahead None
loop_none {back = back} w ahead h e f =
    no_cause (looping back w ahead (λ c. true≢false (sym (contained_atomic (levels back) c) ∙ ap has_atomic (sym h.levels) ∙ f)) e)

-- ---- levels

level_kind : (k : TokenKind) → opens_level k ≡ true → (is_kind k kind.Name || is_kind k kind.While || opens_item k) ≡ false
level_kind kind.OpenBrace h = refl
level_kind kind.OpenParen h = refl
level_kind kind.Not h = refl
level_kind k h = absurd (true≢false (sym h))

pub level_none : {t : Tally} {back : List Word} (w : Word) (ahead : List Word) → Tells t back → opens_level w.kind ≡ true → nat_le most_levels (length t.levels) ≡ false → Blames back w ahead None
level_none {t = t} {back = back} w ahead h e few =
    no_cause (opening back w ahead w.kind (level_kind w.kind e) (subst (λ (ls : List Level). length ls < most_levels) h.levels (leb-false most_levels (length t.levels) few)) refl)

pub level_least : {t : Tally} {back : List Word} (w : Word) (ahead : List Word) → Tells t back → opens_level w.kind ≡ true → nat_le most_levels (length t.levels) ≡ true → IsLeastCause back w ahead (refusal.Limit w.place limit.Depth)
level_least {t = t} {back = back} w ahead h e many = record {
  place_is = refl;
  cause = (e, subst (λ (ls : List Level). most_levels ≤ length ls) h.levels (leb-true most_levels (length t.levels) many));
  least = least_limit back w ahead w.kind refl (or_parts _ _ (level_kind w.kind e)).0;
}

-- ---- items

-- no item gives fewer rows than one
pub rows_some : (ahead : List Word) (rows : ℕ) → GivesRows ahead rows → 1 ≤ rows
rows_some ahead rows (inl h) = omega (arith, h.1)
rows_some ahead rows (inr h) = let k : 1 ≤ rows_of_relations (h.0.first ∷ h.0.further) = sign_rows h.0.first.sign (rows_of_relations h.0.further) in omega (arith, h.1, k)
  where
    sign_rows : (s : Sign) (n : ℕ) → 1 ≤ rows_of_sign s + n
    sign_rows sign.Equal n = omega arith
    sign_rows s n = omega arith

rows_fit : (t : Tally) (rows : ℕ) → 1 ≤ rows → (nat_lt 0 rows && nat_lt most_rows (t.rows + rows)) ≡ false → t.rows + rows ≤ most_rows
rows_fit t rows some f = by_cases (and_cases _ _ f)
  where
    by_cases : (nat_lt 0 rows ≡ false) ⊎ (nat_lt most_rows (t.rows + rows) ≡ false) → t.rows + rows ≤ most_rows
    by_cases (inl e) = let none : rows ≤ 0 = ltb-false 0 rows e in absurd (omega (arith, none, some))
    by_cases (inr e) = ltb-false most_rows (t.rows + rows) e

pub item_none : {t : Tally} {back : List Word} (w : Word) (ahead : List Word) (rows : ℕ) → Tells t back → MostRows (w ∷ ahead) rows → (is_kind w.kind kind.Name || is_kind w.kind kind.While || opens_level w.kind) ≡ false → (nat_lt 0 rows && nat_lt most_rows (t.rows + rows)) ≡ false
    → Blames back w ahead None
item_none {t = t} {back = back} w ahead rows h m e few =
    let a : ((is_kind w.kind kind.Name || is_kind w.kind kind.While) ≡ false) × (opens_level w.kind ≡ false) = or_parts _ _ e in
    no_cause (marked back w ahead w.kind a.0 refl
    (λ i other g.
    let some : 1 ≤ other = rows_some (w ∷ ahead) other g in
    let most : other ≤ rows = m.most other g in
    let within : t.rows + rows ≤ most_rows = rows_fit t rows (omega (arith, some, most)) few in
    let same : t.rows ≡ rows_passed back = h.rows in
    omega (arith, most, within, same))
    (λ i. test_clash w opens_level refl a.1 i))

pub item_least : {t : Tally} {back : List Word} (w : Word) (ahead : List Word) (rows : ℕ) → Tells t back → MostRows (w ∷ ahead) rows → (is_kind w.kind kind.Name || is_kind w.kind kind.While || opens_level w.kind) ≡ false → (nat_lt 0 rows && nat_lt most_rows (t.rows + rows)) ≡ true
    → IsLeastCause back w ahead (refusal.Limit w.place limit.Init)
item_least {t = t} {back = back} w ahead rows h m e many =
    let a : ((is_kind w.kind kind.Name || is_kind w.kind kind.While) ≡ false) × (opens_level w.kind ≡ false) = or_parts _ _ e in
    let p : (nat_lt 0 rows ≡ true) × (nat_lt most_rows (t.rows + rows) ≡ true) = and_parts _ _ many in
    let some : 0 < rows = ltb-true 0 rows p.0 in
    let more : most_rows < t.rows + rows = ltb-true most_rows (t.rows + rows) p.1 in
    let same : t.rows ≡ rows_passed back = h.rows in
    record {
      place_is = refl;
      cause = (rows, m.given (omega (arith, some)), omega (arith, more, same));
      least = least_limit back w ahead w.kind refl a.0;
    }

-- ---- each word has a first cause, or none

-- what is kept of words, as they tell it
abbrev told_of : List Word → Tally
told_of back = record { words = length back; nearest = nearest_kind back; second = second_kind back; globals = count_of kind.Global back; locals = count_of kind.Local back; rows = rows_passed back; names = declared_in back; levels = levels back }

told : (back : List Word) → Tells (told_of back) back
told back = record { words = refl; nearest = refl; second = refl; globals = refl; locals = refl; rows = refl; names = λ x h. refl; levels = refl }

Found : List Word → Word → List Word → Type 0
Found back w ahead = (found : Option ReadRefusal) × Blames back w ahead found

second_least : (back : List Word) (w : Word) (ahead : List Word) → w.kind ≡ kind.Name → is_after_factor back ≡ true → IsLeastCause back w ahead (refusal.NotLinear w.place)
second_least back w ahead e f = record { place_is = refl; cause = (e, f); least = λ other c. omega arith }

new_found : (back : List Word) (w : Word) (ahead : List Word) → IsSpelledWord w → w.kind ≡ kind.Name → declares (told_of back) ≡ true → Found back w ahead
unfolding Found
new_found back w ahead s e d = by_tests (has_name w.text (declared_in back)) (has_many_globals (told_of back)) (has_many_locals (told_of back)) refl refl refl
  where
    by_tests : (a b c : Bool) → has_name w.text (declared_in back) ≡ a → has_many_globals (told_of back) ≡ b → has_many_locals (told_of back) ≡ c → (found : Option ReadRefusal) × Blames back w ahead found
    by_tests true b c f g h = (Some (refusal.Twice w.place), twice_least w ahead (told back) s e d f)
    by_tests false true c f g h = (Some (refusal.Limit w.place limit.Globals), globals_least w ahead (told back) s e d f g)
    by_tests false false true f g h = (Some (refusal.Limit w.place limit.Locals), locals_least w ahead (told back) s e d f h)
    by_tests false false false f g h = (None, new_none w ahead (told back) s e d f g h)

name_found : (back : List Word) (w : Word) (ahead : List Word) → IsSpelledWord w → w.kind ≡ kind.Name → Found back w ahead
unfolding Found
name_found back w ahead s e = by_tests (multiplies (told_of back)) (declares (told_of back)) (has_name w.text (declared_in back)) refl refl refl
  where
    by_tests : (a b c : Bool) → multiplies (told_of back) ≡ a → declares (told_of back) ≡ b → has_name w.text (declared_in back) ≡ c → (found : Option ReadRefusal) × Blames back w ahead found
    by_tests true b c f g h = (Some (refusal.NotLinear w.place), second_least back w ahead e (sym (multiplies_is (told back)) ∙ f))
    by_tests false true c f g h = new_found back w ahead s e g
    by_tests false false true f g h = (None, known_none w ahead (told back) s e f g h)
    by_tests false false false f g h = (Some (refusal.UnknownName w.place), unknown_least w ahead (told back) s e f g h)

loop_found : (back : List Word) (w : Word) (ahead : List Word) → w.kind ≡ kind.While → Found back w ahead
unfolding Found
loop_found back w ahead e = by_test (has_atomic (levels back)) refl
  where
    by_test : (t : Bool) → has_atomic (levels back) ≡ t → (found : Option ReadRefusal) × Blames back w ahead found
    by_test true f = (Some (refusal.LoopInAtomic w.place), loop_least w ahead (told back) e f)
    by_test false f = (None, loop_none w ahead (told back) e f)

level_found : (back : List Word) (w : Word) (ahead : List Word) → opens_level w.kind ≡ true → Found back w ahead
unfolding Found
level_found back w ahead e = by_test (nat_le most_levels (length (levels back))) refl
  where
    by_test : (t : Bool) → nat_le most_levels (length (levels back)) ≡ t → (found : Option ReadRefusal) × Blames back w ahead found
    by_test true f = (Some (refusal.Limit w.place limit.Depth), level_least w ahead (told back) e f)
    by_test false f = (None, level_none w ahead (told back) e f)

item_found : (back : List Word) (w : Word) (ahead : List Word) (rows : ℕ) → MostRows (w ∷ ahead) rows → (is_kind w.kind kind.Name || is_kind w.kind kind.While || opens_level w.kind) ≡ false → Found back w ahead
unfolding Found
item_found back w ahead rows m e = by_test (nat_lt 0 rows && nat_lt most_rows (rows_passed back + rows)) refl
  where
    by_test : (t : Bool) → (nat_lt 0 rows && nat_lt most_rows (rows_passed back + rows)) ≡ t → (found : Option ReadRefusal) × Blames back w ahead found
    by_test true f = (Some (refusal.Limit w.place limit.Init), item_least w ahead rows (told back) m e f)
    by_test false f = (None, item_none w ahead rows (told back) m e f)

-- What refuses a word, if anything does.
pub word_found : (back : List Word) (w : Word) (ahead : List Word) (rows : ℕ) → IsSpelledWord w → MostRows (w ∷ ahead) rows → (found : Option ReadRefusal) × Blames back w ahead found
unfolding Found
word_found back w ahead rows s m = by_tests (is_kind w.kind kind.Name) (is_kind w.kind kind.While) (opens_level w.kind) refl refl refl
  where
    by_tests : (a b c : Bool) → is_kind w.kind kind.Name ≡ a → is_kind w.kind kind.While ≡ b → opens_level w.kind ≡ c → (found : Option ReadRefusal) × Blames back w ahead found
    by_tests true b c f g h = name_found back w ahead s (one_kind w.kind kind.Name f)
    by_tests false true c f g h = loop_found back w ahead (one_kind w.kind kind.While g)
    by_tests false false true f g h = level_found back w ahead h
    by_tests false false false f g h = item_found back w ahead rows m (rw (f, g, h) refl)
