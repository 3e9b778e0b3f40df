-- Bits in words of 64.
use Rattle.std.proofs.Common.{◌≡◌, ◌≢◌, ◌↔◌, ℕ, zero, suc, ◌+◌, ◌-◌, ◌*◌, ◌/◌, ◌%◌, ◌^◌, ◌<◌, ◌≤◌, min, w64, Bool, true, false, not, ◌==◌, eqb, bit_and, bit_or, List, [], ◌∷◌, ◌++◌, length, get_or, set, take, drop, if◌then◌else◌, refl, sym, ap, ◌∙◌, subst, arith, inl, inr, ◌⊎◌, eqb-true, eq-eqb}
use Rattle.std.specs.Int.{bit_at, bit_not, div_ceil}
use Rattle.std.proofs.lemmas.Bool.{cases_lt, cases_eq, false≢true, and_parts, and_from}
use Rattle.std.proofs.lemmas.Bool.Decides.{same_from_decides}
use Rattle.std.proofs.lemmas.List.{get_or-set_same, get_or-set_other, get_or_past, same_lists, length-map, get_or-map, take_all, drop_all, append-nil}
use Rattle.std.proofs.lemmas.List.FromFn.{get_or-map-range_with_len, length-map-range_with_len}
use Rattle.std.proofs.lemmas.Nat.Bits.{bit_at_and, bit_at_not, bit_at-zero, bit_at-lt, bit_at_above, same_from_bits, bit_at_set_same, bit_at_set_other}
use Rattle.ps_elim.specs.Places.{is_part, support_of}
use Rattle.ps_elim.specs.inner.Words.{AreWordsOf, HasPlaces, IsMarked, IsPartOf, bit_of, bits_of}

-- ---- one word
abbrev pub WordPart : ℕ → ℕ → Type 0
WordPart a b = (i : ℕ) → i < 64 → bit_at a i ≤ bit_at b i

part_from_zero : (a b : ℕ) → b < 2 ^ 64 → bit_and a (bit_not w64 b) ≡ 0 → WordPart a b
part_from_zero a b h e i l =
    let none : min (bit_at a i) (1 - bit_at b i) ≡ 0 = ap (λ (k : ℕ). min (bit_at a i) k) (sym (bit_at_not w64 b i h l)) ∙ (sym (bit_at_and a (bit_not w64 b) i) ∙ (ap (λ (n : ℕ). bit_at n i) e ∙ bit_at-zero i)) in
    omega (arith, none, bit_at-lt a i, bit_at-lt b i)

zero_from_part : (a b : ℕ) → a < 2 ^ 64 → b < 2 ^ 64 → WordPart a b → bit_and a (bit_not w64 b) ≡ 0
zero_from_part a b h k p = same_from_bits (bit_and a (bit_not w64 b)) 0 (λ i. bit_at_and a (bit_not w64 b) i ∙ (each i (cases_lt i 64) ∙ sym (bit_at-zero i)))
  where
    each : (i : ℕ) → (i < 64) ⊎ (64 ≤ i) → min (bit_at a i) (bit_at (bit_not w64 b) i) ≡ 0
    each i (inl l) = omega (arith, p i l, bit_at_not w64 b i k l, bit_at-lt a i, bit_at-lt b i)
    each i (inr g) = omega (arith, bit_at_above a 64 i h g)

pub word_part : (a b : ℕ) → a < 2 ^ 64 → b < 2 ^ 64 → (eqb (bit_and a (bit_not w64 b)) 0 ≡ true) ↔ WordPart a b
word_part a b h k =
    (λ e. part_from_zero a b k (eqb-true (bit_and a (bit_not w64 b)) 0 e), λ p. eq-eqb (bit_and a (bit_not w64 b)) 0 (zero_from_part a b h k p))

-- ---- a bit that is set
pub marked_here : (words : List ℕ) (p : ℕ) → p / 64 < length words → bit_of (set words (p / 64) (bit_or (get_or words (p / 64) 0) (1 * 2 ^ (p % 64) % 2 ^ 64))) p ≡ 1
marked_here words p h =
    ap (λ (n : ℕ). bit_at n (p % 64)) (get_or-set_same words (p / 64) (bit_or (get_or words (p / 64) 0) (1 * 2 ^ (p % 64) % 2 ^ 64)) 0 h) ∙ bit_at_set_same w64 (get_or words (p / 64) 0) (p % 64) (omega arith)

pub marked_others : (words : List ℕ) (p k : ℕ) → p / 64 < length words → k ≢ p → bit_of (set words (p / 64) (bit_or (get_or words (p / 64) 0) (1 * 2 ^ (p % 64) % 2 ^ 64))) k ≡ bit_of words k
marked_others words p k h o = by_word (cases_eq (k / 64) (p / 64))
  where
    new : ℕ
    new = bit_or (get_or words (p / 64) 0) (1 * 2 ^ (p % 64) % 2 ^ 64)

    by_word : (k / 64 ≡ p / 64) ⊎ (k / 64 ≡ p / 64 → ⊥) → bit_of (set words (p / 64) (bit_or (get_or words (p / 64) 0) (1 * 2 ^ (p % 64) % 2 ^ 64))) k ≡ bit_of words k
    by_word (inl e) =
        let apart : k % 64 ≢ p % 64 = λ f. o (omega (arith, e, f)) in
        ap (λ (i : ℕ). bit_at (get_or (set words (p / 64) (bit_or (get_or words (p / 64) 0) (1 * 2 ^ (p % 64) % 2 ^ 64))) i 0) (k % 64)) e ∙ (ap (λ (n : ℕ). bit_at n (k % 64)) (get_or-set_same words (p / 64) (bit_or (get_or words (p / 64) 0) (1 * 2 ^ (p % 64) % 2 ^ 64)) 0 h) ∙ (bit_at_set_other w64 (get_or words (p / 64) 0) (p % 64) (omega arith) (k % 64) apart ∙ ap (λ (i : ℕ). bit_at (get_or words i 0) (k % 64)) (sym e)))
    by_word (inr d) = ap (λ (n : ℕ). bit_at n (k % 64)) (get_or-set_other words (p / 64) (k / 64) (bit_or (get_or words (p / 64) 0) (1 * 2 ^ (p % 64) % 2 ^ 64)) 0 d)

pub IsMarked-set : (words : List ℕ) (p : ℕ) → p / 64 < length words → IsMarked words (set words (p / 64) (bit_or (get_or words (p / 64) 0) (1 * 2 ^ (p % 64) % 2 ^ 64))) p
IsMarked-set words p h = record { here = marked_here words p h; others = λ k o. marked_others words p k h o }

-- ---- all words
abbrev pub PartBelow : List ℕ → List ℕ → ℕ → Type 0
PartBelow words others n = (k : ℕ) → k / 64 < n → bit_of words k ≤ bit_of others k

pub PartBelow-more : (words others : List ℕ) (n : ℕ) → PartBelow words others n → WordPart (get_or words n 0) (get_or others n 0) → PartBelow words others (n + 1)
PartBelow-more words others n h p k l = by_word (cases_eq (k / 64) n)
  where
    by_word : (k / 64 ≡ n) ⊎ (k / 64 ≡ n → ⊥) → bit_of words k ≤ bit_of others k
    by_word (inl e) = rw e (p (k % 64) (omega arith))
    by_word (inr d) = h k (omega (arith, d))

pub PartBelow-end : (words others : List ℕ) (n : ℕ) → length words ≤ n → PartBelow words others n → IsPartOf words others
PartBelow-end words others n l h k = by_word (cases_lt (k / 64) n)
  where
    by_word : (k / 64 < n) ⊎ (n ≤ k / 64) → bit_of words k ≤ bit_of others k
    by_word (inl m) = h k m
    by_word (inr g) =
        let none : bit_of words k ≡ 0 = ap (λ (i : ℕ). bit_at i (k % 64)) (get_or_past words (k / 64) 0 (omega arith)) ∙ bit_at-zero (k % 64) in
        omega (arith, none)

pub word_of_part : (words others : List ℕ) (n : ℕ) → IsPartOf words others → WordPart (get_or words n 0) (get_or others n 0)
word_of_part words others n h i l =
    let word : ((64 * n) + i) / 64 ≡ n = omega arith in
    let place : ((64 * n) + i) % 64 ≡ i = omega arith in
    subst (λ (j : ℕ). bit_at (get_or words n 0) j ≤ bit_at (get_or others n 0) j) place (subst (λ (m : ℕ). bit_at (get_or words m 0) (((64 * n) + i) % 64) ≤ bit_at (get_or others m 0) (((64 * n) + i) % 64)) word (h ((64 * n) + i)))

-- ---- the bit of an entry
abbrev pub bit_for : ℕ → ℕ
bit_for n = if n == 0 then 0 else 1

-- ---- supports
bit_is : (n : ℕ) → (bit_for n == 1) ≡ not (n == 0)
bit_is n = by_test (n == 0)
  where
    by_test : (t : Bool) → ((if t then 0 else 1) == 1) ≡ not t
    by_test true = refl
    by_test false = refl

pub support_is : (v words : List ℕ) → AreWordsOf v words → bits_of words (length v) ≡ support_of v
support_is v words w = same_lists (bits_of words (length v)) (support_of v) (length-map-range_with_len (λ k. bit_of words k == 1) 0 (length v) ∙ sym (length-map v (λ n. not (n == 0)))) at
  where
    at : (k : ℕ) (d : Bool) → k < length (bits_of words (length v)) → get_or (bits_of words (length v)) k d ≡ get_or (support_of v) k d
    at k d l =
        let below : k < length v = omega (arith, l, length-map-range_with_len (λ j. bit_of words j == 1) 0 (length v)) in
        get_or-map-range_with_len (λ j. bit_of words j == 1) 0 (length v) k k d below (omega arith) ∙ (ap (λ (n : ℕ). n == 1) (w.bits k) ∙ (bit_is (get_or v k 0) ∙ sym (get_or-map (λ n. not (n == 0)) v k 0 d below)))

pub HasPlaces-vector : (v words : List ℕ) → AreWordsOf v words → HasPlaces words (length v)
HasPlaces-vector v words w = record {
  enough = w.enough;
  none_past = λ k l. w.bits k ∙ ap bit_for (get_or_past v k 0 l);
}

-- a list of places is part of another where each of its places is one of the other's
abbrev pub Pointwise : List Bool → List Bool → Type 0
Pointwise ps qs = (k : ℕ) → get_or ps k false ≡ true → get_or qs k false ≡ true

part_pointwise : (ps qs : List Bool) → is_part ps qs ≡ true → Pointwise ps qs
part_pointwise [] qs e k h = absurd (false≢true h)
part_pointwise (true ∷ ps) [] e k h = absurd (false≢true e)
part_pointwise (false ∷ ps) [] e zero h = absurd (false≢true h)
part_pointwise (false ∷ ps) [] e (suc k) h = part_pointwise ps [] e k h
part_pointwise (true ∷ ps) (q ∷ qs) e zero h = (and_parts q (is_part ps qs) e).0
part_pointwise (false ∷ ps) (q ∷ qs) e zero h = absurd (false≢true h)
part_pointwise (true ∷ ps) (q ∷ qs) e (suc k) h = part_pointwise ps qs (and_parts q (is_part ps qs) e).1 k h
part_pointwise (false ∷ ps) (q ∷ qs) e (suc k) h = part_pointwise ps qs e k h

pointwise_part : (ps qs : List Bool) → Pointwise ps qs → is_part ps qs ≡ true
pointwise_part [] qs h = refl
pointwise_part (true ∷ ps) [] h = absurd (false≢true (h zero refl))
pointwise_part (false ∷ ps) [] h = pointwise_part ps [] (λ k e. h (suc k) e)
pointwise_part (true ∷ ps) (q ∷ qs) h = and_from q (is_part ps qs) (h zero refl) (pointwise_part ps qs (λ k e. h (suc k) e))
pointwise_part (false ∷ ps) (q ∷ qs) h = pointwise_part ps qs (λ k e. h (suc k) e)

get_or-bits_of : (words : List ℕ) (n k : ℕ) → HasPlaces words n → get_or (bits_of words n) k false ≡ (bit_of words k == 1)
get_or-bits_of words n k h = by_place (cases_lt k n)
  where
    by_place : (k < n) ⊎ (n ≤ k) → get_or (bits_of words n) k false ≡ (bit_of words k == 1)
    by_place (inl l) = get_or-map-range_with_len (λ j. bit_of words j == 1) 0 n k k false l (omega arith)
    by_place (inr g) =
        get_or_past (bits_of words n) k false (omega (arith, length-map-range_with_len (λ j. bit_of words j == 1) 0 n)) ∙ sym (ap (λ (b : ℕ). b == 1) (h.none_past k g))

bits_part : (a b n k : ℕ) → a < 2 → b < 2 → a ≤ b → (a == 1) ≡ true → (b == 1) ≡ true
bits_part a b n k l m h e = eq-eqb b 1 (omega (arith, eqb-true a 1 e))

part_of_words : (us vs : List ℕ) (m n : ℕ) → HasPlaces us m → HasPlaces vs n → IsPartOf us vs → Pointwise (bits_of us m) (bits_of vs n)
part_of_words us vs m n h g p k e =
    get_or-bits_of vs n k g ∙ bits_part (bit_of us k) (bit_of vs k) n k (bit_at-lt (get_or us (k / 64) 0) (k % 64)) (bit_at-lt (get_or vs (k / 64) 0) (k % 64)) (p k) (sym (get_or-bits_of us m k h) ∙ e)

words_of_part : (us vs : List ℕ) (m n : ℕ) → HasPlaces us m → HasPlaces vs n → Pointwise (bits_of us m) (bits_of vs n) → IsPartOf us vs
words_of_part us vs m n h g p k = by_bit (cases_eq (bit_of us k) 1)
  where
    by_bit : (bit_of us k ≡ 1) ⊎ (bit_of us k ≡ 1 → ⊥) → bit_of us k ≤ bit_of vs k
    by_bit (inl e) =
        let other : bit_of vs k ≡ 1 = eqb-true (bit_of vs k) 1 (sym (get_or-bits_of vs n k g) ∙ p k (get_or-bits_of us m k h ∙ eq-eqb (bit_of us k) 1 e)) in
        omega (arith, other, e)
    by_bit (inr d) = omega (arith, d, bit_at-lt (get_or us (k / 64) 0) (k % 64))

pub part_by_words : (us vs : List ℕ) (m n : ℕ) (t : Bool) → HasPlaces us m → HasPlaces vs n → (t ≡ true) ↔ IsPartOf us vs → t ≡ is_part (bits_of us m) (bits_of vs n)
part_by_words us vs m n t h g d =
    same_from_decides t (is_part (bits_of us m) (bits_of vs n)) d (λ e. words_of_part us vs m n h g (part_pointwise (bits_of us m) (bits_of vs n) e), λ p. pointwise_part (bits_of us m) (bits_of vs n) (part_of_words us vs m n h g p))

-- supports of one length have as many words
pub same_words : (us vs : List ℕ) (m n : ℕ) → HasPlaces us m → HasPlaces vs n → length (bits_of us m) ≡ length (bits_of vs n) → length us ≡ length vs
same_words us vs m n h g e =
    let same : m ≡ n = sym (length-map-range_with_len (λ j. bit_of us j == 1) 0 m) ∙ (e ∙ length-map-range_with_len (λ j. bit_of vs j == 1) 0 n) in
    h.enough ∙ (ap (λ (k : ℕ). div_ceil k 64) same ∙ sym g.enough)

-- a slice of all of a list that is written back
pub written_back : (new old : List ℕ) (n : ℕ) → length new ≡ length old → n ≡ length old → take n (new ++ drop (length new) old) ≡ new
written_back new old n e f =
    ap (λ (r : List ℕ). take n (new ++ r)) (drop_all (length new) old (omega (arith, e))) ∙ (ap (λ (r : List ℕ). take n r) (append-nil new) ∙ take_all n new (omega (arith, e, f)))
