-- The value of digits that are read one by one, up to a bound.
use Rattle.std.proofs.Common.{◌≡◌, ℕ, ◌+◌, ◌*◌, ◌^◌, ◌<◌, ◌≤◌, Bool, true, false, ◌&&◌, ◌||◌, List, [], ◌∷◌, length, get_or, refl, sym, ap, ◌∙◌, arith, ltb, eqb}
use Rattle.std.specs.Char.{digit_value}
use Rattle.std.specs.Str.Parse.{digits_value, digits_value_after}
use Rattle.std.specs.Prelude.{nat_lt, not, Option, Some, None, option_and_then, if◌then◌else◌}
use Rattle.std.proofs.lemmas.Bool.{and_parts, and_from, ltb-true, ltb-false, lt-ltb, le-ltb, cond-false, cond-true}
use Rattle.std.proofs.lemmas.Option.{none-some, cond_some}
use Rattle.ps_lines.specs.Decimal.{are_digits, is_canonical, narrow, u32_of, u128_of}
use Rattle.ps_lines.specs.inner.Digits.{begins_canonical, value_below, value_from}
use Rattle.ps_lines.proofs.Digits.{digits_value_after_ge}

and_none : (t : Bool) → (t && false) ≡ false
and_none true = refl
and_none false = refl

-- the value of further digits, if it is below the bound
abbrev after_below : ℕ → ℕ → List ℕ → Option ℕ
after_below most value bs = if are_digits bs && nat_lt (digits_value_after 10 value bs) most then Some (digits_value_after 10 value bs) else None

from_step : (most value b : ℕ) (bs : List ℕ) (digit fits : Bool) → ltb (digit_value b) 10 ≡ digit → ltb (value * 10 + digit_value b) most ≡ fits
    → (value * 10 + digit_value b < most → value_from most (value * 10 + digit_value b) bs ≡ after_below most (value * 10 + digit_value b) bs)
    → value_from most value (b ∷ bs) ≡ after_below most value (b ∷ bs)
from_step most value b bs false fits p q rest = rw p refl
from_step most value b bs true false p q rest =
    let past : ltb (digits_value_after 10 (value * 10 + digit_value b) bs) most ≡ false = le-ltb _ _ (omega (arith, ltb-false _ _ q, digits_value_after_ge (value * 10 + digit_value b) bs)) in
    rw (p, q, past) (sym (cond-false _ _ _ (and_none (are_digits bs))))
from_step most value b bs true true p q rest = rw (p, q) (rest (ltb-true _ _ q))

value_after : (most value : ℕ) (bs : List ℕ) → value < most → value_from most value bs ≡ after_below most value bs
value_after most value [] lt = sym (cond-true _ _ _ (lt-ltb _ _ lt))
value_after most value (b ∷ bs) lt = from_step most value b bs (ltb (digit_value b) 10) (ltb (value * 10 + digit_value b) most) refl refl (value_after most (value * 10 + digit_value b) bs)

-- read from the first digit on, it is the value of all
pub value_whole : (most : ℕ) (bs : List ℕ) → 0 < most → value_from most 0 bs ≡ value_below most bs
value_whole most bs lt = value_after most 0 bs lt

pub value_wider : (most more : ℕ) (bs : List ℕ) (n : ℕ) → most ≤ more → value_below most bs ≡ Some n → value_below more bs ≡ Some n
value_wider most more bs n le e =
    let p = cond_some _ _ _ e in
    let q : (are_digits bs ≡ true) × (ltb (digits_value 10 bs) most ≡ true) = and_parts _ _ p.0 in
    let small : digits_value 10 bs < most = ltb-true _ _ q.1 in
    let lt : digits_value 10 bs < more = omega (arith, le, small) in
    let fits : (are_digits bs && ltb (digits_value 10 bs) more) ≡ true = and_from _ _ q.0 (lt-ltb _ _ lt) in
    cond-true _ _ _ fits ∙ ap (λ (m : ℕ). Some m) p.1

-- ---- canonical decimals

canonical_parts : (bs : List ℕ) → is_canonical bs ≡ (begins_canonical bs && are_digits bs)
canonical_parts [] = refl
canonical_parts (b ∷ bs) =
    let some : ltb 0 (length (b ∷ bs)) ≡ true = lt-ltb _ _ (omega arith) in
    turned (are_digits (b ∷ bs)) (not (eqb b 48) || eqb (length (b ∷ bs)) 1)
    ∙ ap (λ (t : Bool). (t && (not (eqb b 48) || eqb (length (b ∷ bs)) 1)) && are_digits (b ∷ bs)) (sym some)
  where
    turned : (s t : Bool) → (s && t) ≡ (t && s)
    turned true true = refl
    turned true false = refl
    turned false true = refl
    turned false false = refl

pub number_begins : (bs : List ℕ) → begins_canonical bs ≡ true → u128_of bs ≡ value_below (2 ^ 128) bs
number_begins bs h = let p : is_canonical bs ≡ are_digits bs = canonical_parts bs ∙ ap (λ (t : Bool). t && are_digits bs) h in rw p refl

pub number_lacks : (bs : List ℕ) → begins_canonical bs ≡ false → u128_of bs ≡ None
number_lacks bs h = let p : is_canonical bs ≡ false = canonical_parts bs ∙ ap (λ (t : Bool). t && are_digits bs) h in rw p refl

pub short_lacks : (bs : List ℕ) → begins_canonical bs ≡ false → u32_of bs ≡ None
short_lacks bs h = ap (option_and_then narrow) (number_lacks bs h)

pub short_is : (bs : List ℕ) (n : ℕ) → begins_canonical bs ≡ true → value_from (2 ^ 64) 0 bs ≡ Some n → narrow n ≡ u32_of bs
short_is bs n h e =
    let small : value_below (2 ^ 64) bs ≡ Some n = sym (value_whole (2 ^ 64) bs (omega arith)) ∙ e in
    sym (ap (option_and_then narrow) (number_begins bs h ∙ value_wider (2 ^ 64) (2 ^ 128) bs n (omega arith) small))

-- a number that 64 bits don't hold isn't short
pub short_past : (bs : List ℕ) → begins_canonical bs ≡ true → value_from (2 ^ 64) 0 bs ≡ None → u32_of bs ≡ None
short_past bs h e =
    let past : value_below (2 ^ 64) bs ≡ None = sym (value_whole (2 ^ 64) bs (omega arith)) ∙ e in
    by_whole (u128_of bs) refl past
  where
    by_narrow : (n : ℕ) (t : Bool) → ltb n (2 ^ 32) ≡ t → value_below (2 ^ 128) bs ≡ Some n → value_below (2 ^ 64) bs ≡ None → narrow n ≡ None
    by_narrow n false q w past = cond-false _ _ _ q
    by_narrow n true q w past =
        let p = cond_some _ _ _ w in
        let digits : are_digits bs ≡ true = (and_parts _ _ p.0).0 in
        let value : digits_value 10 bs ≡ n = p.1 in
        let lt : ltb (digits_value 10 bs) (2 ^ 64) ≡ true = lt-ltb _ _ (omega (arith, value, ltb-true n (2 ^ 32) q)) in
        let some : value_below (2 ^ 64) bs ≡ Some (digits_value 10 bs) = cond-true _ _ _ (and_from _ _ digits lt) in
        absurd (none-some _ (sym past ∙ some))

    by_whole : (o : Option ℕ) → u128_of bs ≡ o → value_below (2 ^ 64) bs ≡ None → u32_of bs ≡ None
    by_whole None w past = ap (option_and_then narrow) w
    by_whole (Some n) w past = ap (option_and_then narrow) w ∙ by_narrow n (ltb n (2 ^ 32)) refl (sym (number_begins bs h) ∙ w) past
