-- A text is refused in one way, and is no program then.
use Rattle.std.proofs.Common.{◌≡◌, ◌⊎◌, inl, inr, ℕ, ◌+◌, ◌<◌, ◌≤◌, Bool, true, false, List, [], ◌∷◌, ◌++◌, length, Some, refl, sym, ap, subst, ◌∙◌, arith, length-append}
use Rattle.std.specs.Prelude.{if◌then◌else◌, nat_eq}
use Rattle.std.proofs.Math.Nat.{eq-or-lt_of_le}
use Rattle.std.proofs.lemmas.Bool.{and_parts, cases_lt, cond-true, true≢false}
use Rattle.ps_token.specs.declared.place.Place.{Place}
use Rattle.ps_token.specs.declared.token.Token.{Token}
use Rattle.ps_token.specs.declared.token_kind.TokenKind.{TokenKind}
use Rattle.ps_token.specs.declared.token_kind.TokenKind.TheVariants as kind
use Rattle.ps_token.proofs.OneCut.{one_list}
use Rattle.ps_tree.specs.declared.limit_name.LimitName.{LimitName}
use Rattle.ps_tree.specs.declared.limit_name.LimitName.TheVariants as limit
use Rattle.ps_tree.specs.declared.program.Program.{Program}
use Rattle.ps_grammar.specs.Programs.{IsProgram, IsProgramText}
use Rattle.ps_grammar.specs.Words.{Word, words_of}
use Rattle.ps_parse.specs.Causes.{AreRefused, HasCauseOf, IsCause, IsCauseAt, IsFaultIfSaid, IsFirstCause, is_after_factor, opens_level, rank, words_at}
use Rattle.ps_parse.specs.Kinds.{begins_with, is_kind, place_of_next}
use Rattle.ps_parse.specs.Parts.{is_second_name}
use Rattle.ps_parse.specs.Reads.{IsFirstGrammarFault, PassesGrammar, StandsInText, refusal_place}
use Rattle.ps_parse.specs.Texts.{GrammarIsFault, IsFirstRefusal, IsInText, IsRefused, end_of}
use Rattle.ps_parse.specs.declared.read_refusal.ReadRefusal.{ReadRefusal}
use Rattle.ps_parse.specs.declared.read_refusal.ReadRefusal.TheVariants as refusal
use Rattle.ps_parse.proofs.WordsAllowed.{rows_begin}
use Rattle.ps_parse.proofs.OneAnswer.{no_program, not_after_fault, not_at_fault, one_fault}
use Rattle.ps_parse.proofs.ProgramsClean.{program_of_clean}
use Rattle.ps_parse.proofs.Spots.{Ascend, Same, cause_moved, clean_before, length_passed, one_spot, passed, same_spot, words_ascend}
use Rattle.ps_parse.proofs.Steps.{one_kind}

-- ---- refusals at one word

-- a fault of the grammar, or one with a cause
sort_of : (e : ReadRefusal) → ((p : Place) × (e ≡ refusal.Grammar p)) ⊎ ((back ahead : List Word) → HasCauseOf back ahead e → IsCause back ahead e)
sort_of (refusal.Grammar p) = inl (p, refl)
sort_of e = inr (λ back ahead h. h)

-- the limit that may be passed at a word of a kind, after `global` or not
abbrev limit_at : TokenKind → Bool → LimitName
limit_at k named = if opens_level k then limit.Depth else (if is_kind k kind.Name then (if named then limit.Globals else limit.Locals) else limit.Init)

-- the refusal of a rank at a place
abbrev made : ℕ → Place → LimitName → ReadRefusal
made n p what =
    if nat_eq n 0 then refusal.NotLinear p
    else (if nat_eq n 2 then refusal.UnknownName p
    else (if nat_eq n 3 then refusal.Twice p
    else (if nat_eq n 4 then refusal.LoopInAtomic p
    else refusal.Limit p what)))

some_place : (p q : Place) → Some p ≡ Some q → p ≡ q
some_place p q e = cc

local_only : (back : List Word) → begins_with kind.Local back ≡ true → begins_with kind.Global back ≡ false
local_only [] h = absurd cc
local_only (v ∷ back) h = ap (λ (k : TokenKind). is_kind k kind.Global) (one_kind v.kind kind.Local h)

limit_told : (back : List Word) (w : Word) (ahead : List Word) (q : Place) (what : LimitName) → IsCauseAt back w ahead (refusal.Limit q what) → what ≡ limit_at w.kind (begins_with kind.Global back)
limit_told back w ahead q limit.Globals c = sym (ap (λ (k : TokenKind). limit_at k (begins_with kind.Global back)) c.0 ∙ ap (limit_at kind.Name) c.1)
limit_told back w ahead q limit.Locals c = sym (ap (λ (k : TokenKind). limit_at k (begins_with kind.Global back)) c.0 ∙ ap (limit_at kind.Name) (local_only back c.1))
limit_told back w ahead q limit.Init c = by_kind (rows_begin w ahead c.0 c.1)
  where
    by_kind : (w.kind ≡ kind.Global) ⊎ (w.kind ≡ kind.Init) → limit.Init ≡ limit_at w.kind (begins_with kind.Global back)
    by_kind (inl e) = sym (ap (λ (k : TokenKind). limit_at k (begins_with kind.Global back)) e)
    by_kind (inr e) = sym (ap (λ (k : TokenKind). limit_at k (begins_with kind.Global back)) e)
limit_told back w ahead q limit.Depth c = sym (cond-true _ _ _ c.0)
limit_told back w ahead q what c = absurd c

told : (back : List Word) (w : Word) (ahead : List Word) (e : ReadRefusal) (p : Place) → IsCauseAt back w ahead e → refusal_place e ≡ Some p → e ≡ made (rank e) p (limit_at w.kind (begins_with kind.Global back))
told back w ahead (refusal.UnknownName q) p c h = ap refusal.UnknownName (some_place q p h)
told back w ahead (refusal.Twice q) p c h = ap refusal.Twice (some_place q p h)
told back w ahead (refusal.NotLinear q) p c h = ap refusal.NotLinear (some_place q p h)
told back w ahead (refusal.LoopInAtomic q) p c h = ap refusal.LoopInAtomic (some_place q p h)
told back w ahead (refusal.Limit q what) p c h = ap (λ (r : Place). refusal.Limit r what) (some_place q p h) ∙ ap (refusal.Limit p) (limit_told back w ahead q what c)
told back w ahead (refusal.Token q) p c h = absurd c
told back w ahead (refusal.Grammar q) p c h = absurd c
told back w ahead (refusal.Memory e) p c h = absurd c

same_cause : (back ahead : List Word) (e f : ReadRefusal) (p : Place) → IsCause back ahead e → IsCause back ahead f → rank e ≡ rank f → refusal_place e ≡ Some p → refusal_place f ≡ Some p → e ≡ f
same_cause back [] e f p c d r h k = absurd c
same_cause back (w ∷ ahead) e f p c d r h k =
    told back w ahead e p c h ∙ ap (λ (n : ℕ). made n p (limit_at w.kind (begins_with kind.Global back))) r ∙ sym (told back w ahead f p d k)

passes : (e : ReadRefusal) (back ahead : List Word) → IsCause back ahead e → 1 ≤ rank e → PassesGrammar e
passes e back [] c le = absurd c
passes (refusal.Grammar p) back (w ∷ ahead) c le = absurd c
passes (refusal.NotLinear p) back (w ∷ ahead) c le = absurd (omega (arith, le))
passes e back (w ∷ ahead) c le = tt

-- ---- two refusals of the same words

turned : {a b r s : List Word} → Same a b r s → Same b a s r
turned h = record { back = sym h.back; ahead = sym h.ahead }

pub one_cause : (words : List Word) (end : Place) (e f : ReadRefusal) (a : IsFirstCause words end e) (b : IsFirstCause words end f)
    → IsCause a.back a.ahead e → IsCause b.back b.ahead f → e ≡ f
one_cause words end e f a b c d = by_order (cases_lt (length a.back) (length b.back))
  where
    same : words_at a.back a.ahead ≡ words_at b.back b.ahead
    same = sym a.split ∙ b.split

    at_one : Same a.back b.back a.ahead b.ahead → e ≡ f
    at_one h =
        let there : IsCause a.back a.ahead f = cause_moved b.back a.back b.ahead a.ahead f (turned h) d in
        let here : IsCause b.back b.ahead e = cause_moved a.back b.back a.ahead b.ahead e h c in
        let ranks : rank e ≡ rank f = omega (arith, a.first_here f there, b.first_here e here) in
        same_cause a.back a.ahead e f (place_of_next a.ahead end) c there ranks a.place_is (b.place_is ∙ ap (λ (ws : List Word). Some (place_of_next ws end)) (sym h.ahead))

    not_before : (length b.back ≡ length a.back) ⊎ (length b.back < length a.back) → e ≡ f
    not_before (inl h) = at_one (same_spot a.back b.back a.ahead b.ahead (sym h) same)
    not_before (inr h) = absurd (clean_before b.back a.back b.ahead a.ahead (sym same) h a.first f d)

    by_order : (length a.back < length b.back) ⊎ (length b.back ≤ length a.back) → e ≡ f
    by_order (inl h) = absurd (clean_before a.back b.back a.ahead b.ahead same h b.first e c)
    by_order (inr h) = not_before (eq-or-lt_of_le h)

-- where a fault of the grammar is the first refusal, none with a cause is
fault_alone : (words : List Word) (end p : Place) (f : ReadRefusal) → Ascend words end → (a : AreRefused words end (refusal.Grammar p)) (b : AreRefused words end f) → IsCause b.first.back b.first.ahead f → ⊥
fault_alone words end p f up a b d = by_order (cases_lt (length b.first.back) (length a.first.back))
  where
    same : words_at a.first.back a.first.ahead ≡ words_at b.first.back b.first.ahead
    same = sym a.first.split ∙ b.first.split

    fault_front : passed a.first.back ≡ a.fault.before
    fault_front =
        let place : place_of_next a.first.ahead end ≡ place_of_next a.fault.rest end = some_place _ _ (sym a.first.place_is ∙ ap (λ (q : Place). Some q) a.fault.place_is) in
        one_spot words end a.first.back a.first.ahead a.fault.before a.fault.rest up a.first.split a.fault.split place

    other_front : passed b.first.back ≡ b.in_text.before
    other_front =
        let place : place_of_next b.first.ahead end ≡ place_of_next b.in_text.rest end = some_place _ _ (sym b.first.place_is ∙ b.in_text.place_is) in
        one_spot words end b.first.back b.first.ahead b.in_text.before b.in_text.rest up b.first.split b.in_text.split place

    at_one : Same a.first.back b.first.back a.first.ahead b.first.ahead → ⊥
    at_one h =
        let least : 1 ≤ rank f = a.first.first_here f (cause_moved b.first.back a.first.back b.first.ahead a.first.ahead f (turned h) d) in
        not_at_fault words end p a.fault f b.in_text (passes f b.first.back b.first.ahead d least) (sym fault_front ∙ ap passed h.back ∙ other_front)

    after : length a.first.back < length b.first.back → ⊥
    after h =
        let tail : (tail : List Word) × (a.fault.before ≡ b.in_text.before ++ tail) = not_after_fault words end p a.fault f b.in_text in
        let one : length a.fault.before ≡ length a.first.back = ap (λ (ws : List Word). length ws) (sym fault_front) ∙ length_passed a.first.back in
        let two : length b.in_text.before ≡ length b.first.back = ap (λ (ws : List Word). length ws) (sym other_front) ∙ length_passed b.first.back in
        let all : length a.fault.before ≡ length b.in_text.before + length tail.0 = ap (λ (ws : List Word). length ws) tail.1 ∙ length-append b.in_text.before tail.0 in
        omega (arith, h, one, two, all)

    not_before : (length a.first.back ≡ length b.first.back) ⊎ (length a.first.back < length b.first.back) → ⊥
    not_before (inl h) = at_one (same_spot a.first.back b.first.back a.first.ahead b.first.ahead h same)
    not_before (inr h) = after h

    by_order : (length b.first.back < length a.first.back) ⊎ (length a.first.back ≤ length b.first.back) → ⊥
    by_order (inl h) = clean_before b.first.back a.first.back b.first.ahead a.first.ahead (sym same) h a.first.first f d
    by_order (inr h) = not_before (eq-or-lt_of_le h)

as_fault : (words : List Word) (end : Place) (e : ReadRefusal) (p : Place) → e ≡ refusal.Grammar p → AreRefused words end e → AreRefused words end (refusal.Grammar p)
as_fault words end e p h a = subst (AreRefused words end) h a

pub one_refusal_of_words : (words : List Word) (end : Place) (e f : ReadRefusal) → Ascend words end → AreRefused words end e → AreRefused words end f → e ≡ f
one_refusal_of_words words end e f up a b =
    elim (sort_of e) [
      | inl p ↦ elim (sort_of f) [
        | inl q ↦ p.1 ∙ ap refusal.Grammar (one_fault words end p.0 q.0 (as_fault words end e p.0 p.1 a).fault (as_fault words end f q.0 q.1 b).fault) ∙ sym q.1
        | inr k ↦ absurd (fault_alone words end p.0 f up (as_fault words end e p.0 p.1 a) b (k b.first.back b.first.ahead b.first.cause))
      ]
      | inr h ↦ elim (sort_of f) [
        | inl q ↦ absurd (fault_alone words end q.0 e up (as_fault words end f q.0 q.1 b) a (h a.first.back a.first.ahead a.first.cause))
        | inr k ↦ one_cause words end e f a.first b.first (h a.first.back a.first.ahead a.first.cause) (k b.first.back b.first.ahead b.first.cause)
      ]
    ]

-- ---- programs and refusals

pub no_program_refused : (words : List Word) (end : Place) (p : Program) (e : ReadRefusal) → IsProgramText words p → AreRefused words end e → ⊥
no_program_refused words end p e is a =
    elim (sort_of e) [
      | inl q ↦ no_program words end q.0 p (as_fault words end e q.0 q.1 a).fault is
      | inr h ↦ program_of_clean words p is a.first.back a.first.ahead a.first.split e (h a.first.back a.first.ahead a.first.cause)
    ]

pub second_caused : (back rest : List Word) (p : Place) → is_second_name back rest ≡ true → IsCause back rest (refusal.NotLinear p)
second_caused back [] p h = true≢false (sym (and_parts _ _ h).1)
second_caused back (w ∷ rest) p h = let k : (is_after_factor back ≡ true) × (begins_with kind.Name (w ∷ rest) ≡ true) = and_parts _ _ h in (one_kind w.kind kind.Name k.1, k.0)

-- ---- of bytes

pub one_refusal : (bytes : List ℕ) (e f : ReadRefusal) → IsRefused bytes e → IsRefused bytes f → e ≡ f
one_refusal bytes e f a b =
    one_refusal_of_words (words_of bytes a.tokens) (end_of bytes) e f (words_ascend bytes a.tokens a.cut) a.are
    (subst (λ (ts : List Token). AreRefused (words_of bytes ts) (end_of bytes) f) (one_list bytes b.tokens a.tokens b.cut a.cut) b.are)

pub no_refused_program : (bytes : List ℕ) (p : Program) (e : ReadRefusal) → IsProgram bytes p → IsRefused bytes e → ⊥
no_refused_program bytes p e is a =
    no_program_refused (words_of bytes a.tokens) (end_of bytes) p e (subst (λ (ts : List Token). IsProgramText (words_of bytes ts) p) (one_list bytes is.tokens a.tokens is.cut a.cut) is.is) a.are

-- what the clauses say one by one, together
pub refused_so : (bytes : List ℕ) (e : ReadRefusal) → IsFirstRefusal bytes e → IsInText bytes e → GrammarIsFault bytes e → IsRefused bytes e
refused_so bytes e a b fault = record {
  tokens = a.tokens;
  cut = a.cut;
  are = record {
    first = a.is;
    in_text = subst (λ (ts : List Token). StandsInText (words_of bytes ts) (end_of bytes) e) (one_list bytes b.tokens a.tokens b.cut a.cut) b.is;
    fault = said e fault;
  };
}
  where
    said : (f : ReadRefusal) → GrammarIsFault bytes f → IsFaultIfSaid (words_of bytes a.tokens) (end_of bytes) f
    said (refusal.Grammar p) h = subst (λ (ts : List Token). IsFirstGrammarFault (words_of bytes ts) (end_of bytes) p) (one_list bytes h.tokens a.tokens h.cut a.cut) h.is
    said f h = tt
