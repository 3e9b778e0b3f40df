-- Digits, and the number that they represent.
use Rattle.std.proofs.Common.{◌≡◌, ℕ, suc, ◌+◌, ◌-◌, ◌*◌, ◌^◌, ◌<◌, ◌≤◌, Bool, true, false, ◌&&◌, List, [], ◌∷◌, length, get_or, drop, refl, sym, ap, subst, ◌∙◌, arith, add-one, drop-cons, ltb, leb, eqb, inl, inr, rules}
use Rattle.std.specs.Char.{digit_value}
use Rattle.std.specs.Str.Parse.{digits_value, digits_value_after, AllDigits}
use Rattle.std.specs.Prelude.{nat_lt, Option, Some, None, option_and_then, MatchOption, FitsSigned, ℤ, pos, negsuc, if◌then◌else◌}
use Rattle.std.specs.Int.{w128}
use Rattle.std.proofs.lemmas.Bool.{and_parts, and_from, or_cases, or_left, or_right, not-true, not_from_false, ltb-true, lt-ltb, eqb-true, eqb-false, le-ltb, leb-true, le-leb, cond-false, eq-eqb, ne_eqb, cases_eq, cond-true}
use Rattle.std.proofs.lemmas.Option.{none-some, cond_some, option_and_then_some}
use Rattle.std.proofs.lemmas.Str.{digit_value_digit}
use Rattle.std.proofs.lemmas.Str.Parse.{digit_from_value}
use Rattle.ps_lines.specs.Decimal.{IsDecimal, IsSignedDecimal, u32_of, i128_of, narrow, positive_of, negative_of, are_digits, is_run, is_canonical, u128_of}

-- a digit is its value above `0`
pub digit_is : (c : ℕ) → digit_value c < 10 → (48 ≤ c) × (c ≤ 57) × (digit_value c + 48 ≡ c)
digit_is c h = let r = digit_from_value c h in (omega (arith, r.0), omega (arith, r.1), digit_value_digit c r)

pub AllDigits-from : (bs : List ℕ) → are_digits bs ≡ true → AllDigits 10 bs
AllDigits-from [] h = tt
AllDigits-from (b ∷ bs) h = let p = and_parts _ _ h in (ltb-true _ _ p.0, AllDigits-from bs p.1)

pub are_digits-from : (bs : List ℕ) → AllDigits 10 bs → are_digits bs ≡ true
are_digits-from [] h = refl
are_digits-from (b ∷ bs) h = and_from _ _ (lt-ltb _ _ h.0) (are_digits-from bs h.1)

-- more digits don't make a number smaller
pub digits_value_after_ge : (n : ℕ) (bs : List ℕ) → n ≤ digits_value_after 10 n bs
digits_value_after_ge n [] = omega arith
digits_value_after_ge n (b ∷ bs) = omega (arith, digits_value_after_ge (n * 10 + digit_value b) bs)

-- a loop that has the value of the digits so far, with `rest` to go
pub record Valued (value : ℕ) (rest all : List ℕ) : Type 0 where
  pub same : digits_value_after 10 value rest ≡ digits_value 10 all
  pub fits : value < 2 ^ 128
  pub digits : are_digits rest ≡ true

pub first_digit : (xs : List ℕ) (i x value : ℕ) (all : List ℕ) → Valued value (drop i xs) all → i < length xs → x ≡ get_or xs i 0 → digit_value x < 10
first_digit xs i x value all v lt e =
    let r : are_digits (get_or xs i 0 ∷ drop (suc i) xs) ≡ true = rw (drop-cons xs i 0 lt) at v.digits in
    rw e (ltb-true _ _ (and_parts _ _ r).0)

pub valued_more : (xs : List ℕ) (i x value next : ℕ) (all : List ℕ) → Valued value (drop i xs) all → i < length xs → x ≡ get_or xs i 0 → next ≡ value * 10 + (x - 48) → next < 2 ^ 128 → Valued next (drop (i + 1) xs) all
valued_more xs i x value next all v lt e is fits =
    let digit = first_digit xs i x value all v lt e in
    let split : drop i xs ≡ x ∷ drop (i + 1) xs = rw (e, add-one) (drop-cons xs i 0 lt) in
    let same : digits_value_after 10 (value * 10 + digit_value x) (drop (i + 1) xs) ≡ digits_value 10 all = subst (λ (r : List ℕ). digits_value_after 10 value r ≡ digits_value 10 all) split v.same in
    let rest : are_digits (x ∷ drop (i + 1) xs) ≡ true = subst (λ (r : List ℕ). are_digits r ≡ true) split v.digits in
    let step : value * 10 + digit_value x ≡ next = omega (arith, is, (digit_is x digit).2) in
    record {
      same = subst (λ (n : ℕ). digits_value_after 10 n (drop (i + 1) xs) ≡ digits_value 10 all) step same;
      fits = fits;
      digits = (and_parts _ _ rest).1;
    }

-- a next value that doesn't fit is at most the whole one
pub valued_past : (xs : List ℕ) (i x value : ℕ) (all : List ℕ) → Valued value (drop i xs) all → i < length xs → x ≡ get_or xs i 0 → 2 ^ 128 ≤ value * 10 + (x - 48) → 2 ^ 128 ≤ digits_value 10 all
valued_past xs i x value all v lt e past =
    let digit = first_digit xs i x value all v lt e in
    let split : drop i xs ≡ x ∷ drop (i + 1) xs = rw (e, add-one) (drop-cons xs i 0 lt) in
    let same : digits_value_after 10 (value * 10 + digit_value x) (drop (i + 1) xs) ≡ digits_value 10 all = subst (λ (r : List ℕ). digits_value_after 10 value r ≡ digits_value 10 all) split v.same in
    omega (arith, past, (digit_is x digit).2, digits_value_after_ge (value * 10 + digit_value x) (drop (i + 1) xs), same)

-- ---- canonical decimals

pub run_nonempty : (bs : List ℕ) → is_run bs ≡ true → (0 < length bs) × (are_digits bs ≡ true)
run_nonempty [] h = absurd cc
run_nonempty (b ∷ bs) h = (omega arith, h)

pub run_from : (bs : List ℕ) → 0 < length bs → are_digits bs ≡ true → is_run bs ≡ true
run_from [] lt h = absurd (omega arith)
run_from (b ∷ bs) lt h = h

pub canonical_is : (bs : List ℕ) → is_canonical bs ≡ true → IsDecimal bs (digits_value 10 bs)
canonical_is bs h =
    let p = and_parts _ _ h in
    let r = run_nonempty bs p.0 in
    record {
      nonempty = r.0;
      digits = AllDigits-from bs r.1;
      no_leading_zero = λ (zero_first : get_or bs 0 0 ≡ 48).
          elim (or_cases _ _ p.1) [
            | inl other ↦ absurd (eqb-false _ _ (not-true _ other) zero_first)
            | inr one ↦ eqb-true _ _ one
          ];
      value = refl;
    }

pub canonical_from : (bs : List ℕ) (n : ℕ) → IsDecimal bs n → is_canonical bs ≡ true
canonical_from bs n d =
    and_from _ _ (run_from bs d.nonempty (are_digits-from bs d.digits))
    (elim (cases_eq (get_or bs 0 0) 48) [
      | inl zero_first ↦ or_right _ _ (eq-eqb _ _ (d.no_leading_zero zero_first))
      | inr other ↦ or_left _ _ (not_from_false _ (ne_eqb _ _ other))
    ])

pub u128_is : (bs : List ℕ) (n : ℕ) → u128_of bs ≡ Some n → (n < 2 ^ 128) × IsDecimal bs n
u128_is bs n e =
    let p = cond_some _ _ _ e in
    let q = and_parts _ _ p.0 in
    subst (λ (m : ℕ). (m < 2 ^ 128) × IsDecimal bs m) p.1 (ltb-true _ _ q.1, canonical_is bs q.0)

pub u128_from : (bs : List ℕ) (n : ℕ) → n < 2 ^ 128 → IsDecimal bs n → u128_of bs ≡ Some n
u128_from bs n lt d =
    let value : digits_value 10 bs ≡ n = d.value in
    let fits : (is_canonical bs && ltb (digits_value 10 bs) (2 ^ 128)) ≡ true = and_from _ _ (canonical_from bs n d) (lt-ltb _ _ (omega (arith, value, lt))) in
    cond-true _ _ _ fits ∙ ap (λ (m : ℕ). Some m) value

pub u32_is : (bs : List ℕ) (n : ℕ) → u32_of bs ≡ Some n → (n < 2 ^ 32) × IsDecimal bs n
u32_is bs n e =
    option_and_then_some narrow (u128_of bs) n e (λ m whole small.
    let p = cond_some _ _ _ small in
    subst (λ (k : ℕ). (k < 2 ^ 32) × IsDecimal bs k) p.1 (ltb-true _ _ p.0, (u128_is bs m whole).1))

pub u32_from : (bs : List ℕ) (n : ℕ) → n < 2 ^ 32 → IsDecimal bs n → u32_of bs ≡ Some n
u32_from bs n lt d = rw (u128_from bs n (omega arith) d) (cond-true _ _ _ (lt-ltb _ _ lt))

positive_is : (n : ℕ) (z : ℤ) → positive_of n ≡ Some z → FitsSigned w128 z × (z ≡ pos n)
positive_is n z e =
    let p = cond_some _ _ _ e in
    subst (λ (y : ℤ). FitsSigned w128 y × (y ≡ pos n)) p.1 (let lt : n < 2 ^ 127 = ltb-true _ _ p.0 in search rules, refl)

negative_is : (n : ℕ) (z : ℤ) → negative_of n ≡ Some z → FitsSigned w128 z × (0 < n) × (z ≡ negsuc (n - 1))
negative_is n z e =
    let p = cond_some _ _ _ e in
    let q = and_parts _ _ p.0 in
    subst (λ (y : ℤ). FitsSigned w128 y × (0 < n) × (y ≡ negsuc (n - 1))) p.1 (let le : n ≤ 2 ^ 127 = leb-true _ _ q.1 in let lt : 0 < n = ltb-true _ _ q.0 in search rules, ltb-true _ _ q.0, refl)

i128_is_at : (bs : List ℕ) (z : ℤ) (t : Bool) → eqb (get_or bs 0 0) 45 ≡ t → (if t then option_and_then negative_of (u128_of (drop 1 bs)) else option_and_then positive_of (u128_of bs)) ≡ Some z → FitsSigned w128 z × IsSignedDecimal bs z
i128_is_at bs z true test e =
    option_and_then_some negative_of (u128_of (drop 1 bs)) z e (λ n whole signed.
    let p = negative_is n z signed in
    let back : (n - 1) + 1 ≡ n = omega (arith, p.1) in
    let q : IsDecimal (drop 1 bs) ((n - 1) + 1) = rw back ((u128_is (drop 1 bs) n whole).1) in
    (p.0, subst (λ (y : ℤ). IsSignedDecimal bs y) (sym p.2) (eqb-true _ _ test, q)))
i128_is_at bs z false test e =
    option_and_then_some positive_of (u128_of bs) z e (λ n whole signed.
    let p = positive_is n z signed in
    (p.0, subst (λ (y : ℤ). IsSignedDecimal bs y) (sym p.1) ((u128_is bs n whole).1)))

pub i128_is : (bs : List ℕ) (z : ℤ) → i128_of bs ≡ Some z → FitsSigned w128 z × IsSignedDecimal bs z
i128_is bs z e = i128_is_at bs z (eqb (get_or bs 0 0) 45) refl e

-- a decimal doesn't begin with `-`
pub first_is_digit : (bs : List ℕ) (n : ℕ) → IsDecimal bs n → 48 ≤ get_or bs 0 0
first_is_digit [] n d = absurd (omega (arith, d.nonempty))
first_is_digit (b ∷ bs) n d = (digit_is b d.digits.0).0

pub i128_from : (bs : List ℕ) (z : ℤ) → FitsSigned w128 z → IsSignedDecimal bs z → i128_of bs ≡ Some z
i128_from bs (pos n) fits d =
    let first = first_is_digit bs n d in
    let other : eqb (get_or bs 0 0) 45 ≡ false = ne_eqb _ _ (λ e. omega (arith, first, e)) in
    let lt : n < 2 ^ 127 = search rules in
    cond-false _ _ _ other ∙ rw (u128_from bs n (omega (arith, lt)) d) (cond-true _ _ _ (lt-ltb _ _ lt))
i128_from bs (negsuc n) fits d =
    let lt : n < 2 ^ 127 = search rules in
    let small : negative_of (n + 1) ≡ Some (negsuc n) = cond-true (ltb 0 (n + 1) && leb (n + 1) (2 ^ 127)) (Some (negsuc ((n + 1) - 1))) None (and_from (ltb 0 (n + 1)) (leb (n + 1) (2 ^ 127)) (lt-ltb 0 (n + 1) (omega arith)) (le-leb (n + 1) (2 ^ 127) (omega (arith, lt)))) ∙ ap (λ (k : ℕ). Some (negsuc k)) (omega arith) in
    cond-true _ _ _ (eq-eqb _ _ d.0) ∙ rw (u128_from (drop 1 bs) (n + 1) (omega (arith, lt)) d.1) small

-- from a function's two laws to what an answer says in either case
pub answer_is : {A : Type 0} (F D : A → Type 0) (o : Option A) → ((x : A) → o ≡ Some x → F x × D x) → ((x : A) → F x → D x → o ≡ Some x) → MatchOption o ((x : A) → F x → D x → ⊥) (λ x. F x × D x)
answer_is F D None is from = λ x f d. none-some x (from x f d)
answer_is F D (Some x) is from = is x refl

pub u128_answer : (bs : List ℕ) → MatchOption (u128_of bs) ((n : ℕ) → n < 2 ^ 128 → IsDecimal bs n → ⊥) (λ n. (n < 2 ^ 128) × IsDecimal bs n)
u128_answer bs = answer_is (λ n. n < 2 ^ 128) (IsDecimal bs) (u128_of bs) (u128_is bs) (u128_from bs)

pub u32_answer : (bs : List ℕ) → MatchOption (u32_of bs) ((n : ℕ) → n < 2 ^ 32 → IsDecimal bs n → ⊥) (λ n. (n < 2 ^ 32) × IsDecimal bs n)
u32_answer bs = answer_is (λ n. n < 2 ^ 32) (IsDecimal bs) (u32_of bs) (u32_is bs) (u32_from bs)

pub i128_answer : (bs : List ℕ) → MatchOption (i128_of bs) ((z : ℤ) → FitsSigned w128 z → IsSignedDecimal bs z → ⊥) (λ z. FitsSigned w128 z × IsSignedDecimal bs z)
i128_answer bs = answer_is (FitsSigned w128) (IsSignedDecimal bs) (i128_of bs) (i128_is bs) (i128_from bs)

-- a loop that can't go on has a value that doesn't fit
pub too_long : (xs : List ℕ) (i x value : ℕ) → Valued value (drop i xs) xs → i < length xs → x ≡ get_or xs i 0 → (value * 10 + (x - 48) < 2 ^ 128 → ⊥) → (if nat_lt (digits_value 10 xs) (2 ^ 128) then Some (digits_value 10 xs) else None) ≡ None
too_long xs i x value v lt e past = cond-false _ _ _ (le-ltb _ _ (valued_past xs i x value xs v lt e (omega (arith, past))))
