-- Spots in the words of a text: the words before it and those ahead. Their places ascend, so a place tells its spot.
use Rattle.std.proofs.Common.{◌≡◌, ◌⊎◌, inl, inr, ℕ, zero, suc, ◌+◌, ◌-◌, ◌<◌, ◌≤◌, Bool, true, false, List, [], ◌∷◌, ◌++◌, length, take, drop, refl, sym, ap, subst, ◌∙◌, arith}
use Rattle.std.specs.Prelude.{◌==◌, if◌then◌else◌, slice_range}
use Rattle.std.proofs.Math.Nat.{eq-or-lt_of_le}
use Rattle.std.proofs.lemmas.List.{append-nil, append_cancel_right, length-take}
use Rattle.ps_token.specs.declared.place.Place.{Place}
use Rattle.ps_token.specs.declared.token.Token.{Token}
use Rattle.ps_token.specs.Lexing.{AreTokens, AreUpTo, IsTokenOf, next_place, place_after, place_of, text_begin}
use Rattle.ps_token.proofs.OneCut.{token_some}
use Rattle.ps_grammar.specs.Words.{Word, words_of}
use Rattle.ps_parse.specs.Causes.{IsCause, IsClean, HasNoCause, words_at}
use Rattle.ps_parse.specs.Examples.{turned}
use Rattle.ps_parse.specs.Kinds.{place_of_next}
use Rattle.ps_parse.specs.Texts.{end_of}
use Rattle.ps_parse.specs.declared.read_refusal.ReadRefusal.{ReadRefusal}

-- ---- places

abbrev pub IsBefore : Place → Place → Type 0
IsBefore p q = (p.line < q.line) ⊎ ((p.line ≡ q.line) × (p.column < q.column))

pub not_before_itself : (p : Place) → IsBefore p p → ⊥
not_before_itself p (inl h) = absurd (omega (arith, h))
not_before_itself p (inr h) = absurd (omega (arith, h.1))

pub before_then : (p q r : Place) → IsBefore p q → IsBefore q r → IsBefore p r
before_then p q r (inl h) (inl k) = inl (omega (arith, h, k))
before_then p q r (inl h) (inr k) = inl (omega (arith, h, k.0))
before_then p q r (inr h) (inl k) = inl (omega (arith, h.0, k))
before_then p q r (inr h) (inr k) = inr (h.0 ∙ k.0, omega (arith, h.1, k.1))

moved : (p : Place) (b : ℕ) → IsBefore p (next_place p b)
moved p b = by_test (b == 10)
  where
    by_test : (t : Bool) → IsBefore p (if t then record { line = p.line + 1; column = 1 } else record { line = p.line; column = p.column + 1 })
    by_test true = inl (omega arith)
    by_test false = inr (refl, omega arith)

moved_more : (p : Place) (b : ℕ) (bs : List ℕ) → IsBefore p (place_after p (b ∷ bs))
moved_more p b [] = moved p b
moved_more p b (c ∷ bs) = before_then p (next_place p b) _ (moved p b) (moved_more (next_place p b) c bs)

later_byte : (p : Place) (bytes : List ℕ) (i j : ℕ) → i < j → j ≤ length bytes → IsBefore (place_after p (take i bytes)) (place_after p (take j bytes))
later_byte p [] i j lt le = absurd (omega (arith, lt, le))
later_byte p (b ∷ bs) i zero lt le = absurd (omega (arith, lt))
later_byte p (b ∷ bs) zero (suc j) lt le = moved_more p b (take j bs)
later_byte p (b ∷ bs) (suc i) (suc j) lt le = later_byte (next_place p b) bs i j (omega (arith, lt)) (omega (arith, le))

-- ---- the words of a text

-- Each word stands before the next, and the last one before the end.
abbrev pub Ascend : List Word → Place → Type 0
Ascend [] end = Unit {0}
Ascend (w ∷ ws) end = IsBefore w.place (place_of_next ws end) × Ascend ws end

token_ordered : (bytes : List ℕ) (t : Token) → IsTokenOf bytes t → t.start < t.end
token_ordered bytes t h =
    let some : 0 < length (slice_range bytes t.start t.end) = token_some t.kind (slice_range bytes t.start t.end) (drop t.end bytes) h.text in
    omega (arith, some, length-take (t.end - t.start) (drop t.start bytes))

-- a token stands before a later byte, or before the end
token_before : (bytes : List ℕ) (t : Token) (at : ℕ) → IsTokenOf bytes t → t.end ≤ at → at ≤ length bytes → IsBefore t.place (place_of bytes at)
token_before bytes t at h le inside =
    let ordered : t.start < t.end = token_ordered bytes t h in
    subst (λ (p : Place). IsBefore p (place_of bytes at)) (sym h.place) (later_byte text_begin bytes t.start at (omega (arith, ordered, le)) inside)

tokens_ascend : (bytes : List ℕ) (from to : ℕ) (ts : List Token) → AreUpTo bytes from ts to → Ascend (words_of bytes ts) (end_of bytes)
tokens_ascend bytes from to [] h = tt
tokens_ascend bytes from to (t ∷ []) h = (token_before bytes t (length bytes) h.1 h.1.inside (omega arith), tt)
tokens_ascend bytes from to (t ∷ u ∷ ts) h =
    let ordered : u.start < u.end = token_ordered bytes u h.2.1 in
    let inside : u.end ≤ length bytes = h.2.1.inside in
    (subst (λ (p : Place). IsBefore t.place p) (sym h.2.1.place) (token_before bytes t u.start h.1 h.2.0.ordered (omega (arith, ordered, inside))), tokens_ascend bytes t.end to (u ∷ ts) h.2)

pub words_ascend : (bytes : List ℕ) (ts : List Token) → AreTokens bytes ts → Ascend (words_of bytes ts) (end_of bytes)
words_ascend bytes ts h = tokens_ascend bytes 0 h.to ts h.cut

-- ---- of two fronts of a list one goes on as the other

pub record Longer (a b r s : List Word) : Type 0 where
  pub word : Word
  pub tail : List Word
  pub is : b ≡ a ++ (word ∷ tail)
  pub left : r ≡ word ∷ (tail ++ s)

pub record Equal (a b r s : List Word) : Type 0 where
  pub left : r ≡ s

head_is : (w v : Word) (ws vs : List Word) → w ∷ ws ≡ v ∷ vs → w ≡ v
head_is w v ws vs e = cc

tail_is : (w v : Word) (ws vs : List Word) → w ∷ ws ≡ v ∷ vs → ws ≡ vs
tail_is w v ws vs e = cc

longer_after : (x y : Word) (a b r s : List Word) → x ≡ y → Longer a b r s → Longer (x ∷ a) (y ∷ b) r s
longer_after x y a b r s e h = record { word = h.word; tail = h.tail; is = ap (λ (ws : List Word). y ∷ ws) h.is ∙ ap (λ (z : Word). z ∷ (a ++ (h.word ∷ h.tail))) (sym e); left = h.left }

pub compare : (a b r s : List Word) → a ++ r ≡ b ++ s → Equal a b r s ⊎ (Longer a b r s ⊎ Longer b a s r)
compare [] [] r s e = inl (record { left = e })
compare [] (w ∷ t) r s e = inr (inl (record { word = w; tail = t; is = refl; left = e }))
compare (w ∷ t) [] r s e = inr (inr (record { word = w; tail = t; is = refl; left = sym e }))
compare (x ∷ a) (y ∷ b) r s e =
    elim (compare a b r s (tail_is x y (a ++ r) (b ++ s) e)) [
      | inl h ↦ inl (record { left = h.left })
      | inr h ↦ elim h [
        | inl k ↦ inr (inl (longer_after x y a b r s (head_is x y (a ++ r) (b ++ s) e) k))
        | inr k ↦ inr (inr (longer_after y x b a s r (sym (head_is x y (a ++ r) (b ++ s) e)) k))
      ]
    ]

pub same_front : (a b r s : List Word) → a ++ r ≡ b ++ s → r ≡ s → a ≡ b
same_front a b r s e h = append_cancel_right a b s (ap (λ (ws : List Word). a ++ ws) (sym h) ∙ e)

-- ---- a place tells its spot

ascend_after : (front rest : List Word) (end : Place) → Ascend (front ++ rest) end → Ascend rest end
ascend_after [] rest end h = h
ascend_after (w ∷ front) rest end h = ascend_after front rest end h.1

spot_before : (w : Word) (tail rest : List Word) (end : Place) → Ascend (w ∷ (tail ++ rest)) end → IsBefore w.place (place_of_next rest end)
spot_before w [] rest end h = h.0
spot_before w (v ∷ tail) rest end h = before_then w.place v.place _ h.0 (spot_before v tail rest end h.1)

-- each word stands before the end
pub place_before_end : (words : List Word) (end : Place) (front : List Word) (w : Word) (rest : List Word) → Ascend words end → words ≡ front ++ w ∷ rest → IsBefore w.place end
place_before_end words end front w rest up split =
    spot_before w rest [] end (subst (λ (ws : List Word). Ascend (w ∷ ws) end) (sym (append-nil rest)) (ascend_after front (w ∷ rest) end (subst (λ (ws : List Word). Ascend ws end) split up)))

-- what follows the shorter of two fronts stands before what follows the longer one
pub longer_before : (words : List Word) (end : Place) (a b r s : List Word) → Ascend words end → words ≡ a ++ r → Longer a b r s → IsBefore (place_of_next r end) (place_of_next s end)
longer_before words end a b r s up split h =
    let more : Ascend (h.word ∷ (h.tail ++ s)) end = subst (λ (ws : List Word). Ascend ws end) h.left (ascend_after a r end (subst (λ (ws : List Word). Ascend ws end) split up)) in
    subst (λ (ws : List Word). IsBefore (place_of_next ws end) (place_of_next s end)) (sym h.left) (spot_before h.word h.tail s end more)

not_later : (words : List Word) (end : Place) (a b r s : List Word) → Ascend words end → words ≡ a ++ r → place_of_next r end ≡ place_of_next s end → Longer a b r s → ⊥
not_later words end a b r s up split place h =
    not_before_itself (place_of_next s end) (subst (λ (p : Place). IsBefore p (place_of_next s end)) place (longer_before words end a b r s up split h))

one_front : (words : List Word) (end : Place) (a b r s : List Word) → Ascend words end → words ≡ a ++ r → words ≡ b ++ s → place_of_next r end ≡ place_of_next s end → a ≡ b
one_front words end a b r s up one two place =
    elim (compare a b r s (sym one ∙ two)) [
      | inl h ↦ same_front a b r s (sym one ∙ two) h.left
      | inr h ↦ elim h [
        | inl k ↦ absurd (not_later words end a b r s up one place k)
        | inr k ↦ absurd (not_later words end b a s r up two (sym place) k)
      ]
    ]

-- the words that were passed, in their order
abbrev pub passed : List Word → List Word
passed back = words_at back []

whole_is : (back a b : List Word) → words_at back (a ++ b) ≡ words_at back a ++ b
whole_is [] a b = refl
whole_is (w ∷ back) a b = whole_is back (w ∷ a) b

pub passed_front : (back ahead : List Word) → words_at back ahead ≡ passed back ++ ahead
passed_front back ahead = whole_is back [] ahead

pub length_at : (back ahead : List Word) → length (words_at back ahead) ≡ length back + length ahead
length_at [] ahead = omega arith
length_at (w ∷ back) ahead = let h : length (words_at back (w ∷ ahead)) ≡ length back + length (w ∷ ahead) = length_at back (w ∷ ahead) in omega (arith, h)

pub length_passed : (back : List Word) → length (passed back) ≡ length back
length_passed back = let h : length (words_at back []) ≡ length back + 0 = length_at back [] in omega (arith, h)

turned_at : (back ws rest : List Word) → words_at (turned back ws) rest ≡ words_at back (ws ++ rest)
turned_at back [] rest = refl
turned_at back (w ∷ ws) rest = turned_at (w ∷ back) ws rest

pub passed_turned : (ws : List Word) → passed (turned [] ws) ≡ ws
passed_turned ws = turned_at [] ws [] ∙ append-nil ws

-- two that stand at one place are at one spot
pub one_spot : (words : List Word) (end : Place) (back ahead before rest : List Word) → Ascend words end → words ≡ words_at back ahead → words ≡ before ++ rest → place_of_next ahead end ≡ place_of_next rest end → passed back ≡ before
one_spot words end back ahead before rest up one two place = one_front words end (passed back) before ahead rest up (one ∙ passed_front back ahead) two place

-- ---- a spot after others

pub record Same (a b r s : List Word) : Type 0 where
  pub back : a ≡ b
  pub ahead : r ≡ s

pub same_spot : (a b r s : List Word) → length a ≡ length b → words_at a r ≡ words_at b s → Same a b r s
same_spot [] [] r s l h = record { back = refl; ahead = h }
same_spot [] (y ∷ b) r s l h = absurd (omega (arith, l))
same_spot (x ∷ a) [] r s l h = absurd (omega (arith, l))
same_spot (x ∷ a) (y ∷ b) r s l h =
    let p : Same a b (x ∷ r) (y ∷ s) = same_spot a b (x ∷ r) (y ∷ s) (omega (arith, l)) h in
    record { back = ap (λ (z : Word). z ∷ a) (head_is x y r s p.ahead) ∙ ap (λ (zs : List Word). y ∷ zs) p.back; ahead = tail_is x y r s p.ahead }

pub cause_moved : (a b r s : List Word) (e : ReadRefusal) → Same a b r s → IsCause a r e → IsCause b s e
cause_moved a b r s e h c = subst (λ (ws : List Word). IsCause b ws e) h.ahead (subst (λ (ws : List Word). IsCause ws r e) h.back c)

-- no cause stands at a word that was passed
pub clean_before : (a b r s : List Word) → words_at a r ≡ words_at b s → length a < length b → IsClean b s → (e : ReadRefusal) → ¬ IsCause a r e
clean_before a [] r s same lt clean e c = absurd (omega (arith, lt))
clean_before a (y ∷ b) r s same lt clean e c = by_order (λ h. clean_before a b r (y ∷ s) same h clean.1 e c) (eq-or-lt_of_le less)
  where
    less : length a ≤ length b
    less = omega (arith, lt)

    by_order : (length a < length b → ⊥) → (length a ≡ length b) ⊎ (length a < length b) → ⊥
    by_order later (inl h) = clean.0 e (cause_moved a b r (y ∷ s) e (same_spot a b r (y ∷ s) h same) c)
    by_order later (inr h) = later h

clean_moved : (a b r s : List Word) → Same a b r s → IsClean b s → IsClean a r
clean_moved a b r s h c = subst (λ (ws : List Word). IsClean ws r) (sym h.back) (subst (λ (ws : List Word). IsClean b ws) (sym h.ahead) c)

-- none stands at one that was passed before
pub clean_front : (a r b s : List Word) → words_at a r ≡ words_at b s → length a ≤ length b → IsClean b s → IsClean a r
clean_front [] r b s same le clean = tt
clean_front (x ∷ a) r [] s same le clean = absurd (omega (arith, le))
clean_front (x ∷ a) r (y ∷ b) s same le clean = by_order (λ h. clean_front (x ∷ a) r b (y ∷ s) same (omega (arith, h)) clean.1) (eq-or-lt_of_le le)
  where
    by_order : (length (x ∷ a) < length (y ∷ b) → IsClean (x ∷ a) r) → (length (x ∷ a) ≡ length (y ∷ b)) ⊎ (length (x ∷ a) < length (y ∷ b)) → IsClean (x ∷ a) r
    by_order later (inl h) = clean_moved (x ∷ a) (y ∷ b) r s (same_spot (x ∷ a) (y ∷ b) r s h same) clean
    by_order later (inr h) = later h

-- none stands at any word that was passed where no word has one
pub clean_in : (words : List Word) → HasNoCause words → (back ahead : List Word) → words ≡ words_at back ahead → IsClean back ahead
clean_in words none [] ahead split = tt
clean_in words none (w ∷ back) ahead split = (none back (w ∷ ahead) split, clean_in words none back (w ∷ ahead) split)

-- Where the words that were passed are the whole text, and none has a cause, no word has one.
pub no_cause_in : (words back : List Word) → words_at back [] ≡ words → IsClean back [] → HasNoCause words
no_cause_in words back whole clean = λ other ahead split e c. at_word other ahead split e c
  where
    at_word : (other ahead : List Word) → words ≡ words_at other ahead → (e : ReadRefusal) → IsCause other ahead e → ⊥
    at_word other [] split e c = c
    at_word other (w ∷ ahead) split e c =
        let one : length (words_at other (w ∷ ahead)) ≡ length other + length (w ∷ ahead) = length_at other (w ∷ ahead) in
        let two : length (words_at back []) ≡ length back + 0 = length_at back [] in
        let same : words_at other (w ∷ ahead) ≡ words_at back [] = sym split ∙ sym whole in
        let lengths : length (words_at other (w ∷ ahead)) ≡ length (words_at back []) = ap (λ (ws : List Word). length ws) same in
        clean_before other back (w ∷ ahead) [] same (omega (arith, one, two, lengths)) clean e c
