-- The answer that is decided is the one that words have.
use Rattle.std.proofs.Common.{◌≡◌, ◌⊎◌, inl, inr, ℕ, ◌+◌, ◌<◌, ◌≤◌, Bool, true, false, not, ◌&&◌, ◌||◌, List, [], ◌∷◌, ◌++◌, length, take, Option, Some, None, Result, Ok, Err, refl, sym, ap, subst, ◌∙◌, arith, append_assoc, length-append, eq-eqb}
use Rattle.std.specs.Prelude.{◌==◌, IfSome, nat_lt, if◌then◌else◌}
use Rattle.std.specs.List.{AllByRecursion}
use Rattle.std.proofs.lemmas.Bool.{and_cases, and_parts, eqb-true, ltb-false, ltb-true, or_parts, true≢false}
use Rattle.std.proofs.lemmas.List.{append-nil, length-map, length-take-le, take_all, take_at}
use Rattle.ps_token.specs.declared.place.Place.{Place}
use Rattle.ps_token.specs.Lexing.{AreTokens, AreUpTo}
use Rattle.ps_token.specs.declared.token.Token.{Token}
use Rattle.ps_tree.specs.declared.program.Program.{Program}
use Rattle.ps_grammar.specs.Programs.{IsProgramText}
use Rattle.ps_grammar.specs.Words.{Word, word_of, words_of}
use Rattle.ps_parse.specs.Causes.{AreRefused, HasNoCause, IsCause, IsClean, rank, words_at}
use Rattle.ps_parse.specs.Examples.{turned}
use Rattle.ps_parse.specs.Inner.Decided.{AreAnswered, decided, first_refusal, goes_first, is_before, is_second, parsed}
use Rattle.ps_parse.specs.Inner.Items.{program_at, program_in}
use Rattle.ps_parse.specs.Inner.Passed.{Finds, IsSpelledWord, IsSpot}
use Rattle.ps_parse.specs.Kinds.{place_of_next}
use Rattle.ps_parse.specs.Parts.{HasOwnCause, is_second_name}
use Rattle.ps_parse.specs.Promises.{ReadsWhole}
use Rattle.ps_parse.specs.Texts.{IsAnswered, end_of}
use Rattle.ps_parse.specs.Reads.{BeginAlike, IsFirstGrammarFault, IsText, PassesGrammar}
use Rattle.ps_parse.specs.declared.read_refusal.ReadRefusal.{ReadRefusal}
use Rattle.ps_parse.specs.declared.read_refusal.ReadRefusal.TheVariants as refusal
use Rattle.ps_parse.specs.declared.spot.Spot.{Spot}
use Rattle.ps_parse.proofs.InParts.{cause_refuses, fault_of_front, fault_refuses}
use Rattle.ps_parse.proofs.OneRefusal.{second_caused}
use Rattle.ps_parse.proofs.Checking.{finds}
use Rattle.ps_parse.proofs.ProgramGuards.{IsReadFault, IsReadText, program_of_fault, program_of_read}
use Rattle.ps_parse.proofs.ProgramsClean.{text_fits}
use Rattle.ps_parse.proofs.Spots.{Ascend, Equal, IsBefore, Longer, before_then, clean_before, clean_front, clean_in, compare, length_at, length_passed, longer_before, not_before_itself, passed, passed_front, passed_turned, place_before_end, same_front, words_ascend}

-- ---- places

before_told : (p q : Place) → is_before p q ≡ true → IsBefore p q
before_told p q h = by_line (nat_lt p.line q.line) refl h
  where
    by_line : (t : Bool) → nat_lt p.line q.line ≡ t → (t || (p.line == q.line && nat_lt p.column q.column)) ≡ true → IsBefore p q
    by_line true e g = inl (ltb-true p.line q.line e)
    by_line false e g = let k : ((p.line == q.line) ≡ true) × (nat_lt p.column q.column ≡ true) = and_parts _ _ g in inr (eqb-true p.line q.line k.0, ltb-true p.column q.column k.1)

not_before : (p q : Place) → is_before p q ≡ false → IsBefore p q → ⊥
not_before p q h (inl b) = let k : (nat_lt p.line q.line ≡ false) × ((p.line == q.line && nat_lt p.column q.column) ≡ false) = or_parts _ _ h in let le : q.line ≤ p.line = ltb-false p.line q.line k.0 in omega (arith, le, b)
not_before p q h (inr b) = by_cases (and_cases _ _ (or_parts _ _ h).1)
  where
    by_cases : ((p.line == q.line) ≡ false) ⊎ (nat_lt p.column q.column ≡ false) → ⊥
    by_cases (inl e) = true≢false (sym (eq-eqb p.line q.line b.0) ∙ e)
    by_cases (inr e) = let le : q.column ≤ p.column = ltb-false p.column q.column e in omega (arith, le, b.1)

before_said : (p q : Place) → IsBefore p q → is_before p q ≡ true
before_said p q h = by_test (is_before p q) refl
  where
    by_test : (t : Bool) → is_before p q ≡ t → t ≡ true
    by_test true e = refl
    by_test false e = absurd (not_before p q e h)

after_said : (p q : Place) → IsBefore q p → is_before p q ≡ false
after_said p q h = by_test (is_before p q) refl
  where
    by_test : (t : Bool) → is_before p q ≡ t → t ≡ false
    by_test true e = absurd (not_before_itself p (before_then p q p (before_told p q e) h))
    by_test false e = refl

at_place : (p q : Place) → p ≡ q → is_before p q ≡ false
at_place p q same = by_test (is_before p q) refl
  where
    by_test : (t : Bool) → is_before p q ≡ t → t ≡ false
    by_test true e = absurd (not_before_itself q (subst (λ (r : Place). IsBefore r q) same (before_told p q e)))
    by_test false e = refl

-- ---- second names of products

no_second : (back rest : List Word) (p : Place) → ¬ IsCause back rest (refusal.NotLinear p) → is_second_name back rest ≡ false
no_second back rest p none = by_test (is_second_name back rest) refl
  where
    by_test : (t : Bool) → is_second_name back rest ≡ t → t ≡ false
    by_test true e = absurd (none (second_caused back rest p e))
    by_test false e = refl

least_is_second : (e : ReadRefusal) → rank e ≤ 0 → is_second e ≡ true
least_is_second (refusal.NotLinear p) h = refl
least_is_second e h = absurd (omega (arith, h))

second_stays : (e : ReadRefusal) → is_second e ≡ true → PassesGrammar e → ⊥
second_stays (refusal.NotLinear p) h g = g
second_stays e h g = true≢false (sym h)

-- ---- a fault of the grammar and the first cause

-- the fault stands before the cause
fault_before : (words : List Word) (end p : Place) (e : ReadRefusal) (f : IsFirstGrammarFault words end p) (c : HasOwnCause words end e) → Longer f.before (passed c.first.back) f.rest c.first.ahead → AreRefused words end (refusal.Grammar p)
fault_before words end p e f c h =
    let back : List Word = turned [] f.before in
    let here : f.before ≡ words_at back [] = sym (passed_turned f.before) in
    let same : words_at back f.rest ≡ words_at c.first.back c.first.ahead = passed_front back f.rest ∙ ap (λ (ws : List Word). ws ++ f.rest) (sym here) ∙ sym f.split ∙ c.first.split in
    let one : length f.before ≡ length back = ap (λ (ws : List Word). length ws) here ∙ length_passed back in
    let two : length (passed c.first.back) ≡ length f.before + length (h.word ∷ h.tail) = ap (λ (ws : List Word). length ws) h.is ∙ length-append f.before (h.word ∷ h.tail) in
    let less : length back < length c.first.back = omega (arith, one, two, length_passed c.first.back) in
    fault_refuses words end p f back here (clean_front back f.rest c.first.back c.first.ahead same (omega (arith, less)) c.first.first)
    (no_second back f.rest p (clean_before back c.first.back f.rest c.first.ahead same less c.first.first (refusal.NotLinear p)))

-- it stands at the word of the cause, which is no second name of a product
fault_at : (words : List Word) (end p : Place) (e : ReadRefusal) (f : IsFirstGrammarFault words end p) (c : HasOwnCause words end e) → f.before ≡ passed c.first.back → f.rest ≡ c.first.ahead → is_second e ≡ false → AreRefused words end (refusal.Grammar p)
fault_at words end p e f c here left other =
    fault_refuses words end p f c.first.back here (subst (λ (ws : List Word). IsClean c.first.back ws) (sym left) c.first.first)
    (no_second c.first.back f.rest p (λ k.
    let least : rank e ≤ 0 = c.first.first_here (refusal.NotLinear p) (subst (λ (ws : List Word). IsCause c.first.back ws (refusal.NotLinear p)) left k) in
    true≢false (sym (least_is_second e least) ∙ other)))

-- the same, and it is one
cause_at : (words : List Word) (end p : Place) (e : ReadRefusal) (f : IsFirstGrammarFault words end p) (c : HasOwnCause words end e) → f.before ≡ passed c.first.back → is_second e ≡ true → AreRefused words end e
cause_at words end p e f c here is =
    cause_refuses words end e c f.others (subst IsText (ap (λ (ws : List Word). ws ++ f.others) here ∙ sym (passed_front c.first.back f.others)) f.goes_on) (λ g. absurd (second_stays e is g))

-- the cause stands before the fault
cause_before : (words : List Word) (end p : Place) (e : ReadRefusal) (f : IsFirstGrammarFault words end p) (c : HasOwnCause words end e) → Longer (passed c.first.back) f.before c.first.ahead f.rest → AreRefused words end e
cause_before words end p e f c h =
    let others : List Word = h.word ∷ (h.tail ++ f.others) in
    let same : f.before ++ f.others ≡ words_at c.first.back others = ap (λ (ws : List Word). ws ++ f.others) h.is ∙ append_assoc (passed c.first.back) (h.word ∷ h.tail) f.others ∙ sym (passed_front c.first.back others) in
    cause_refuses words end e c others (subst IsText same f.goes_on) (λ g. subst (λ (ws : List Word). BeginAlike ws others) (sym h.left) refl)

some_place : (p q : Place) → Some p ≡ Some q → p ≡ q
some_place p q e = cc

goes_is : (p : Place) (spot : Spot) (a b t : Bool) → is_before p spot.place ≡ a → is_before spot.place p ≡ b → is_second spot.refusal ≡ t → goes_first p spot ≡ (a || (not b && not t))
goes_is p spot a b t e g h =
    ap (λ (x : Bool). x || (not (is_before spot.place p) && not (is_second spot.refusal))) e
    ∙ ap (λ (x : Bool). a || (not x && not (is_second spot.refusal))) g
    ∙ ap (λ (x : Bool). a || (not b && not x)) h

chosen : (words : List Word) (end p : Place) (spot : Spot) (t : Bool) → goes_first p spot ≡ t → AreRefused words end (if t then refusal.Grammar p else spot.refusal) → AreRefused words end (first_refusal p spot)
chosen words end p spot t e h = subst (λ (b : Bool). AreRefused words end (if b then refusal.Grammar p else spot.refusal)) (sym e) h

-- the fault stands after the cause
cause_first : (words : List Word) (end p : Place) (spot : Spot) → IsBefore spot.place p → AreRefused words end spot.refusal → AreRefused words end (first_refusal p spot)
cause_first words end p spot h a = chosen words end p spot false (goes_is p spot false true _ (after_said p spot.place h) (before_said spot.place p h) refl) a

-- Of the fault and the cause, the one that goes first refuses the words.
first_refuses : (words : List Word) (end p : Place) (spot : Spot) → Ascend words end → IsFirstGrammarFault words end p → IsSpot words end spot → AreRefused words end (first_refusal p spot)
first_refuses words end p spot up f s = by_order (compare f.before (passed c.first.back) f.rest c.first.ahead front)
  where
    c : HasOwnCause words end spot.refusal
    c = s.cause

    front : f.before ++ f.rest ≡ passed c.first.back ++ c.first.ahead
    front = sym f.split ∙ c.first.split ∙ passed_front c.first.back c.first.ahead

    there : spot.place ≡ place_of_next c.first.ahead end
    there = some_place _ _ (sym s.place_is ∙ c.first.place_is)

    before : Longer f.before (passed c.first.back) f.rest c.first.ahead → IsBefore p spot.place
    before h = subst (λ (q : Place). IsBefore p q) (sym there) (subst (λ (q : Place). IsBefore q (place_of_next c.first.ahead end)) (sym f.place_is) (longer_before words end f.before (passed c.first.back) f.rest c.first.ahead up f.split h))

    after : Longer (passed c.first.back) f.before c.first.ahead f.rest → IsBefore spot.place p
    after h =
        subst (λ (q : Place). IsBefore spot.place q) (sym f.place_is)
        (subst (λ (q : Place). IsBefore q (place_of_next f.rest end)) (sym there) (longer_before words end (passed c.first.back) f.before c.first.ahead f.rest up (c.first.split ∙ passed_front c.first.back c.first.ahead) h))

    at_one : f.rest ≡ c.first.ahead → (t : Bool) → is_second spot.refusal ≡ t → AreRefused words end (first_refusal p spot)
    at_one left t h = by_second t h (goes_is p spot false false t (at_place p spot.place same) (at_place spot.place p (sym same)) h)
      where
        here : f.before ≡ passed c.first.back
        here = same_front f.before (passed c.first.back) f.rest c.first.ahead front left

        same : p ≡ spot.place
        same = f.place_is ∙ ap (λ (ws : List Word). place_of_next ws end) left ∙ sym there

        by_second : (b : Bool) → is_second spot.refusal ≡ b → goes_first p spot ≡ (false || (not false && not b)) → AreRefused words end (first_refusal p spot)
        by_second true k e = chosen words end p spot false e (cause_at words end p spot.refusal f c here k)
        by_second false k e = chosen words end p spot true e (fault_at words end p spot.refusal f c here left k)

    by_order : Equal f.before (passed c.first.back) f.rest c.first.ahead ⊎ (Longer f.before (passed c.first.back) f.rest c.first.ahead ⊎ Longer (passed c.first.back) f.before c.first.ahead f.rest) → AreRefused words end (first_refusal p spot)
    by_order (inl h) = at_one h.left (is_second spot.refusal) refl
    by_order (inr (inl h)) = chosen words end p spot true (goes_is p spot true _ _ (before_said p spot.place (before h)) refl refl) (fault_before words end p spot.refusal f c h)
    by_order (inr (inr h)) = cause_first words end p spot (after h) (cause_before words end p spot.refusal f c h)

-- ---- answers

answered_refusal : (words : List Word) (end : Place) (e : ReadRefusal) → AreRefused words end e → AreAnswered words end (Err e)
answered_refusal words end (refusal.Memory e) a = tt
answered_refusal words end e a = a

-- where no word has a cause, the fault refuses the words
fault_alone : (words : List Word) (end p : Place) → HasNoCause words → IsFirstGrammarFault words end p → AreRefused words end (refusal.Grammar p)
fault_alone words end p none f =
    let back : List Word = turned [] f.before in
    let here : f.before ≡ words_at back [] = sym (passed_turned f.before) in
    let split : words ≡ words_at back f.rest = f.split ∙ ap (λ (ws : List Word). ws ++ f.rest) here ∙ sym (passed_front back f.rest) in
    fault_refuses words end p f back here (clean_in words none back f.rest split) (no_second back f.rest p (none back f.rest split (refusal.NotLinear p)))

-- ---- what was parsed

-- where no word has a cause, all words are parsed: what is read is a program
all_read : (words : List Word) (end : Place) (p : Program) → HasNoCause words → program_in words end ≡ Ok p → IsProgramText words p
all_read words end p none h =
    let m : IsReadText words p = program_of_read words end p h in
    record { text = m.text; spelled = m.spelled; fits = text_fits words (record { text = m.text; spelled = m.spelled; signs = m.signs }) none; tree = m.tree }

all_answered : (words : List Word) (end : Place) (read : Result Program ReadRefusal) → HasNoCause words → ReadsWhole (λ (p : Program). p) read (program_in words end) → AreAnswered words end read
all_answered words end (Ok p) none h = all_read words end p none h
all_answered words end (Err (refusal.Memory e)) none h = tt
all_answered words end (Err e) none h =
    let f : IsReadFault words end e = program_of_fault words end e h in
    subst (λ r. AreAnswered words end (Err r)) (sym f.is) (fault_alone words end f.place none f.fault)

-- else those up to the one with the first cause, and that one
record Front (words : List Word) (end : Place) (spot : Spot) (s : IsSpot words end spot) : Type 0 where
  pub word : Word
  pub after : List Word
  pub ahead : s.cause.first.ahead ≡ word ∷ after

front_of : (words : List Word) (end : Place) (spot : Spot) (s : IsSpot words end spot) → Front words end spot s
front_of words end spot s = by_ahead s.cause.first.ahead refl
  where
    by_ahead : (ahead : List Word) → s.cause.first.ahead ≡ ahead → Front words end spot s
    by_ahead [] e = absurd (subst (λ (ws : List Word). IsCause s.cause.first.back ws spot.refusal) e s.cause.own)
    by_ahead (w ∷ rest) e = record { word = w; after = rest; ahead = e }

-- no more are parsed than there are
pub parsed_within : (words : List Word) (end : Place) (spot : Spot) → IsSpot words end spot → spot.before + 1 ≤ length words
parsed_within words end spot s =
    let f : Front words end spot s = front_of words end spot s in
    let whole : length words ≡ length s.cause.first.back + length s.cause.first.ahead = ap (λ (ws : List Word). length ws) s.cause.first.split ∙ length_at s.cause.first.back s.cause.first.ahead in
    let some : length s.cause.first.ahead ≡ length (f.word ∷ f.after) = ap (λ (ws : List Word). length ws) f.ahead in
    omega (arith, s.before_is, whole, some)

-- what was decided refuses the words
record Refused (words : List Word) (end : Place) (answer : Result Program ReadRefusal) : Type 0 where
  pub refusal_is : ReadRefusal
  pub is : answer ≡ Err refusal_is
  pub are : AreRefused words end refusal_is

front_refused : (words : List Word) (end : Place) (spot : Spot) (s : IsSpot words end spot) → Front words end spot s → (read : Result Program ReadRefusal) → Ascend words end → program_in (take (spot.before + 1) words) end ≡ read → Refused words end (decided (Some spot) read)
front_refused words end spot s f read up h = by_answer read (ap (λ (ws : List Word). program_in ws end) (sym taken) ∙ h)
  where
    back : List Word
    back = s.cause.first.back

    front : List Word
    front = passed back ++ f.word ∷ []

    split : words ≡ passed back ++ f.word ∷ f.after
    split = s.cause.first.split ∙ passed_front back s.cause.first.ahead ∙ ap (λ (ws : List Word). passed back ++ ws) f.ahead

    whole : words ≡ front ++ f.after
    whole = split ∙ sym (append_assoc (passed back) (f.word ∷ []) f.after)

    taken : take (spot.before + 1) words ≡ front
    taken = ap (λ (ws : List Word). take (spot.before + 1) ws) whole ∙ take_at front f.after (spot.before + 1) (length-append (passed back) (f.word ∷ []) ∙ ap (λ (n : ℕ). n + 1) (length_passed back ∙ sym s.before_is))

    -- the front goes on as a text
    caused : (others : List Word) → IsText (front ++ others) → AreRefused words end spot.refusal
    caused others text =
        cause_refuses words end spot.refusal s.cause (f.word ∷ others) (subst IsText (append_assoc (passed back) (f.word ∷ []) others ∙ sym (passed_front back (f.word ∷ others))) text)
        (λ g. subst (λ (ws : List Word). BeginAlike ws (f.word ∷ others)) (sym f.ahead) refl)

    before_end : IsBefore spot.place end
    before_end =
        let there : spot.place ≡ f.word.place = some_place _ _ (sym s.place_is ∙ s.cause.first.place_is) ∙ ap (λ (ws : List Word). place_of_next ws end) f.ahead in
        subst (λ (p : Place). IsBefore p end) (sym there) (place_before_end words end (passed back) f.word f.after up split)

    by_rest : (p : Place) (g : IsFirstGrammarFault front end p) (rest : List Word) → g.rest ≡ rest → AreRefused words end (first_refusal p spot)
    by_rest p g [] e =
        let here : g.before ≡ front = sym (g.split ∙ ap (λ (ws : List Word). g.before ++ ws) e ∙ append-nil g.before) in
        let last : p ≡ end = g.place_is ∙ ap (λ (ws : List Word). place_of_next ws end) e in
        cause_first words end p spot (subst (λ (q : Place). IsBefore spot.place q) (sym last) before_end) (caused g.others (subst (λ (ws : List Word). IsText (ws ++ g.others)) here g.goes_on))
    by_rest p g (v ∷ vs) e =
        first_refuses words end p spot up (subst (λ (ws : List Word). IsFirstGrammarFault ws end p) (sym whole) (fault_of_front front f.after end end p v vs g e)) s

    by_answer : (read : Result Program ReadRefusal) → program_in front end ≡ read → Refused words end (decided (Some spot) read)
    by_answer (Ok p) h =
        let m : IsReadText front p = program_of_read front end p h in
        record { refusal_is = spot.refusal; is = refl; are = caused [] (subst IsText (sym (append-nil front)) (record { text = m.text; spelled = m.spelled; signs = m.signs })) }
    by_answer (Err e) h =
        let g : IsReadFault front end e = program_of_fault front end e h in
        record { refusal_is = first_refusal g.place spot; is = ap (λ (r : ReadRefusal). decided (Some spot) (Err r)) g.is; are = by_rest g.place g.fault g.fault.rest refl }

spot_refused : (words : List Word) (end : Place) (spot : Spot) (read : Result Program ReadRefusal) → Ascend words end → IsSpot words end spot → program_in (take (spot.before + 1) words) end ≡ read → Refused words end (decided (Some spot) read)
spot_refused words end spot read up s h = front_refused words end spot s (front_of words end spot s) read up h

answered_by : (words : List Word) (end : Place) (answer : Result Program ReadRefusal) → Refused words end answer → AreAnswered words end answer
answered_by words end answer r = subst (AreAnswered words end) (sym r.is) (answered_refusal words end r.refusal_is r.are)

spot_answered : (words : List Word) (end : Place) (spot : Spot) (read : Result Program ReadRefusal) → Ascend words end → IsSpot words end spot → ReadsWhole (λ (p : Program). p) read (program_in (take (spot.before + 1) words) end) → AreAnswered words end (decided (Some spot) read)
spot_answered words end spot (Ok p) up s h = answered_by words end _ (spot_refused words end spot (Ok p) up s h)
spot_answered words end spot (Err (refusal.Memory e)) up s h = tt
spot_answered words end spot (Err e) up s h = answered_by words end _ (spot_refused words end spot (Err e) up s h)

-- What is decided is the answer of the words.
pub decides : (words : List Word) (end : Place) (spot : Option Spot) (read : Result Program ReadRefusal) → Ascend words end → Finds words end spot → ReadsWhole (λ (p : Program). p) read (program_in (take (parsed spot (length words)) words) end) → AreAnswered words end (decided spot read)
decides words end None read up none h = all_answered words end read none (subst (λ (ws : List Word). ReadsWhole (λ (p : Program). p) read (program_in ws end)) (take_all (length words) words (omega arith)) h)
decides words end (Some spot) read up s h = spot_answered words end spot read up s h

-- ---- the words of a text

-- a word for each token
pub words_count : (bytes : List ℕ) (ts : List Token) → length (words_of bytes ts) ≡ length ts
words_count bytes ts = length-map ts (word_of bytes)

spot_within : (words : List Word) (end : Place) (spot : Option Spot) → Finds words end spot → IfSome spot (λ s. s.before + 1 ≤ length words)
spot_within words end None h = tt
spot_within words end (Some spot) h = parsed_within words end spot h

few_of : (spot : Option Spot) (all : ℕ) → IfSome spot (λ s. s.before + 1 ≤ all) → parsed spot all ≤ all
few_of None all h = omega arith
few_of (Some spot) all h = h

pub parsed_if : (bytes : List ℕ) (ts : List Token) (spot : Option Spot) → Finds (words_of bytes ts) (end_of bytes) spot → IfSome spot (λ s. s.before + 1 ≤ length ts)
parsed_if bytes ts spot h = subst (λ (n : ℕ). IfSome spot (λ s. s.before + 1 ≤ n)) (words_count bytes ts) (spot_within (words_of bytes ts) (end_of bytes) spot h)

pub parsed_few : (bytes : List ℕ) (ts : List Token) (spot : Option Spot) → Finds (words_of bytes ts) (end_of bytes) spot → parsed spot (length ts) ≤ length ts
parsed_few bytes ts spot h = few_of spot (length ts) (parsed_if bytes ts spot h)

-- the words that are parsed are as many as are told
pub front_length : (bytes : List ℕ) (ts : List Token) (spot : Option Spot) → Finds (words_of bytes ts) (end_of bytes) spot
    → program_at (parsed spot (length (words_of bytes ts))) (record { words = take (parsed spot (length (words_of bytes ts))) (words_of bytes ts); end = end_of bytes }) ≡ program_in (take (parsed spot (length (words_of bytes ts))) (words_of bytes ts)) (end_of bytes)
front_length bytes ts spot h =
    let words : List Word = words_of bytes ts in
    let few : parsed spot (length words) ≤ length words = few_of spot (length words) (spot_within words (end_of bytes) spot h) in
    ap (λ (n : ℕ). program_at n (record { words = take (parsed spot (length words)) words; end = end_of bytes })) (sym (length-take-le (parsed spot (length words)) words few))

-- ---- a text that has tokens is a program or refused

all_spelled : (bytes : List ℕ) (from to : ℕ) (ts : List Token) → AreUpTo bytes from ts to → AllByRecursion IsSpelledWord (words_of bytes ts)
all_spelled bytes from to [] h = tt
all_spelled bytes from to (t ∷ ts) h = (h.1.text.spelled, all_spelled bytes t.end to ts h.2)

pub answered : (bytes : List ℕ) (ts : List Token) → AreTokens bytes ts → IsAnswered bytes
answered bytes ts cut = by_spot (finds words end (all_spelled bytes 0 cut.to ts cut.cut))
  where
    words : List Word
    words = words_of bytes ts

    end : Place
    end = end_of bytes

    by_read : HasNoCause words → (r : Result Program ReadRefusal) → program_in words end ≡ r → IsAnswered bytes
    by_read none (Ok p) h = inl (p, record { tokens = ts; cut = cut; is = all_read words end p none h })
    by_read none (Err e) h = let f : IsReadFault words end e = program_of_fault words end e h in inr (refusal.Grammar f.place, record { tokens = ts; cut = cut; are = fault_alone words end f.place none f.fault })

    by_spot : ((spot : Option Spot) × Finds words end spot) → IsAnswered bytes
    by_spot (None, none) = by_read none (program_in words end) refl
    by_spot (Some spot, s) = let r = spot_refused words end spot (program_in (take (spot.before + 1) words) end) (words_ascend bytes ts cut) s refl in inr (r.refusal_is, record { tokens = ts; cut = cut; are = r.are })
