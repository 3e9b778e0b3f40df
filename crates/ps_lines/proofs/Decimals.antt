-- The canonical decimal of a number is what the number is printed as.
use Rattle.std.proofs.Common.{◌≡◌, ℕ, suc, ◌+◌, ◌*◌, ◌/◌, ◌%◌, ◌^◌, ◌<◌, ◌≤◌, Bool, true, false, List, [], ◌∷◌, ◌++◌, length, get_or, drop, Option, Some, None, Result, Ok, Err, refl, sym, ap, subst, ◌∙◌, arith, append_assoc, eqb, inl, inr, rules}
use Rattle.std.specs.Prelude.{decimal, ℤ, pos, negsuc, FitsSigned, IfOk, ok_or, nat_le, if◌then◌else◌}
use Rattle.std.specs.Fmt.{signed_decimal}
use Rattle.std.specs.Int.{w128}
use Rattle.std.specs.Char.{digit_value}
use Rattle.std.specs.Str.Parse.{digits_value, digits_value_after, AllDigits}
use Rattle.std.proofs.lemmas.Bool.{cases_eq, eq-eqb, ne_eqb, cond-true, cond-false, le-leb, leb-true}
use Rattle.std.proofs.lemmas.List.{append-nil, nil_from_length}
use Rattle.std.proofs.lemmas.Fmt.{decimal_digit, decimal_step_wide, decimal_by_steps_wide, decimal_is_IsNumeral_wide}
use Rattle.ps_lines.specs.declared.form_name.FormName.{FormName}
use Rattle.ps_lines.specs.declared.form_name.FormName.TheVariants as name
use Rattle.ps_lines.specs.Decimal.{IsDecimal, IsSignedDecimal, counts_as_decimal, is_run, u32_of, u128_of, i128_of}
use Rattle.ps_lines.specs.Reading.{natural32, natural, integer, within_limit, count, decimal_leaf}
use Rattle.ps_lines.specs.inner.Digits.{decimal_fault}
use Rattle.ps_lines.proofs.Digits.{digit_is, digits_value_after_ge, are_digits-from, run_from, u32_is, u32_from, u128_is, u128_from, i128_is, i128_from, first_is_digit}
use Rattle.ps_lines.proofs.Bytes.{IsPlain}
use Rattle.ps_lines.proofs.Exact.{IsLeaf}

-- further digits stand after the front
grow : (n : ℕ) (front cs : List ℕ) → 0 < n → decimal n ≡ front → AllDigits 10 cs → digits_value_after 10 n cs < 10 ^ 64 → decimal (digits_value_after 10 n cs) ≡ front ++ cs
grow n front [] some is digits fits = is ∙ sym (append-nil front)
grow n front (c ∷ cs) some is digits fits =
    let d = digit_is c digits.0 in
    let next : ℕ = n * 10 + digit_value c in
    let small : next < 10 ^ 64 = omega (arith, digits_value_after_ge next cs, fits) in
    let tens : next / 10 ≡ n = omega (arith, digits.0) in
    let ones : 48 + next % 10 ≡ c = omega (arith, digits.0, d.2) in
    let step : decimal next ≡ front ++ (c ∷ []) = decimal_step_wide next (omega (arith, some)) small ∙ ap (λ (k : ℕ). decimal (next / 10) ++ (k ∷ [])) ones ∙ ap (λ (k : ℕ). decimal k ++ (c ∷ [])) tens ∙ ap (λ (f : List ℕ). f ++ (c ∷ [])) is in
    grow next (front ++ (c ∷ [])) cs (omega (arith, some)) step digits.1 fits ∙ append_assoc front (c ∷ []) cs

-- a canonical decimal is what its number is printed as
pub decimal-of : (f : List ℕ) (n : ℕ) → n < 10 ^ 64 → IsDecimal f n → f ≡ decimal n
decimal-of [] n lt d = absurd (omega (arith, d.nonempty))
decimal-of (c ∷ cs) n lt d =
    elim (cases_eq c 48) [
      | inl zero_first ↦ alone c cs n lt d zero_first
      | inr other ↦ several c cs n lt d other
    ]
  where
    alone : (c : ℕ) (cs : List ℕ) (n : ℕ) → n < 10 ^ 64 → IsDecimal (c ∷ cs) n → c ≡ 48 → c ∷ cs ≡ decimal n
    alone c cs n lt d zero_first =
        let len : length cs ≡ 0 = omega (arith, d.no_leading_zero zero_first) in
        let none : cs ≡ [] = nil_from_length cs len in
        let value : digits_value 10 (48 ∷ []) ≡ n = subst (λ (f : List ℕ). digits_value 10 f ≡ n) (ap (λ (k : ℕ). k ∷ cs) zero_first ∙ ap (λ (r : List ℕ). 48 ∷ r) none) d.value in
        ap (λ (k : ℕ). k ∷ cs) zero_first ∙ ap (λ (r : List ℕ). 48 ∷ r) none ∙ sym (decimal_digit 0 (omega arith)) ∙ ap decimal value

    several : (c : ℕ) (cs : List ℕ) (n : ℕ) → n < 10 ^ 64 → IsDecimal (c ∷ cs) n → (c ≡ 48 → ⊥) → c ∷ cs ≡ decimal n
    several c cs n lt d other =
        let e = digit_is c d.digits.0 in
        let first : decimal (digit_value c) ≡ c ∷ [] = decimal_digit (digit_value c) d.digits.0 ∙ ap (λ (k : ℕ). k ∷ []) (omega (arith, e.2)) in
        let first_value : digit_value c ≡ 0 * 10 + digit_value c = omega arith in
        let value : digits_value_after 10 (digit_value c) cs ≡ n = ap (λ (k : ℕ). digits_value_after 10 k cs) first_value ∙ d.value in
        sym (grow (digit_value c) (c ∷ []) cs (omega (arith, e.0, e.2, other)) first d.digits.1 (omega (arith, value, lt))) ∙ ap decimal value

-- what is printed has no leading zero, and isn't empty
record Printed (n : ℕ) (ds : List ℕ) : Type 0 where
  pub nonempty : 0 < length ds
  pub first : 0 < n → get_or ds 0 0 ≡ 48 → ⊥
  pub one : n < 10 → length ds ≡ 1

printed : (n : ℕ) → n < 10 ^ 64 → Printed n (decimal n)
printed = decimal_by_steps_wide Printed
    (λ n lt. record { nonempty = omega arith; first = λ some e. omega (arith, some, e); one = λ _. refl })
    (λ n ds le p. printed_more n ds le p)
  where
    printed_more : (n : ℕ) (ds : List ℕ) → 10 ≤ n → Printed (n / 10) ds → Printed n (ds ++ ((48 + n % 10) ∷ []))
    printed_more n [] le p = absurd (omega (arith, p.nonempty))
    printed_more n (d ∷ ds) le p = record { nonempty = omega arith; first = λ some e. p.first (omega (arith, le)) e; one = λ lt. absurd (omega (arith, le, lt)) }

pub decimal-is : (n : ℕ) → n < 10 ^ 64 → IsDecimal (decimal n) n
decimal-is n lt =
    let p = printed n lt in
    let q = decimal_is_IsNumeral_wide n lt in
    record {
      nonempty = p.nonempty;
      digits = q.0.1;
      no_leading_zero = λ (zero_first : get_or (decimal n) 0 0 ≡ 48).
          elim (cases_eq n 0) [
            | inl none ↦ p.one (omega (arith, none))
            | inr some ↦ absurd (p.first (omega (arith, some)) zero_first)
          ];
      value = q.1;
    }

-- ---- the same of signed numbers

pub signed_decimal-of : (f : List ℕ) (z : ℤ) → FitsSigned w128 z → IsSignedDecimal f z → f ≡ signed_decimal z
signed_decimal-of f (pos n) fits d = let lt : n < 2 ^ 127 = search rules in decimal-of f n (omega (arith, lt)) d
signed_decimal-of [] (negsuc n) fits d = absurd (omega (arith, d.1.nonempty))
signed_decimal-of (b ∷ bs) (negsuc n) fits d =
    let lt : n < 2 ^ 127 = search rules in
    let next : n + 1 ≡ suc n = omega arith in
    ap (λ (k : ℕ). k ∷ bs) d.0 ∙ ap (λ (r : List ℕ). 45 ∷ r) (decimal-of bs (n + 1) (omega (arith, lt)) d.1) ∙ ap (λ (k : ℕ). 45 ∷ decimal k) next

pub signed_decimal-is : (z : ℤ) → FitsSigned w128 z → IsSignedDecimal (signed_decimal z) z
signed_decimal-is (pos n) fits = let lt : n < 2 ^ 127 = search rules in decimal-is n (omega (arith, lt))
signed_decimal-is (negsuc n) fits =
    let lt : n < 2 ^ 127 = search rules in
    let next : suc n ≡ n + 1 = omega arith in
    (refl, subst (λ (k : ℕ). IsDecimal (decimal (suc n)) k) next (decimal-is (suc n) (omega (arith, lt))))

-- ---- fields that are decimals

plain_digits : (bs : List ℕ) → AllDigits 10 bs → IsPlain bs
plain_digits [] d = tt
plain_digits (b ∷ bs) d =
    let e = digit_is b d.0 in
    (record { no_blank = ne_eqb _ _ (λ q. omega (arith, e.0, q)); no_feed = ne_eqb _ _ (λ q. omega (arith, e.0, q)) }, plain_digits bs d.1)

pub decimal_plain : (n : ℕ) → n < 10 ^ 64 → IsPlain (decimal n)
decimal_plain n lt = plain_digits (decimal n) (decimal-is n lt).digits

pub signed_decimal_plain : (z : ℤ) → FitsSigned w128 z → IsPlain (signed_decimal z)
signed_decimal_plain (pos n) fits = let lt : n < 2 ^ 127 = search rules in decimal_plain n (omega (arith, lt))
signed_decimal_plain (negsuc n) fits = let lt : n < 2 ^ 127 = search rules in (record { no_blank = refl; no_feed = refl }, decimal_plain (suc n) (omega (arith, lt)))

run_of : (f : List ℕ) (n : ℕ) → IsDecimal f n → is_run f ≡ true
run_of f n d = run_from f d.nonempty (are_digits-from f d.digits)

pub decimal_counts : (f : List ℕ) (n : ℕ) → IsDecimal f n → counts_as_decimal f ≡ true
decimal_counts f n d =
    let first = first_is_digit f n d in
    let other : eqb (get_or f 0 0) 45 ≡ false = ne_eqb _ _ (λ q. omega (arith, first, q)) in
    ap is_run (cond-false _ _ _ other) ∙ run_of f n d

pub signed_counts : (f : List ℕ) (z : ℤ) → IsSignedDecimal f z → counts_as_decimal f ≡ true
signed_counts f (pos n) d = decimal_counts f n d
signed_counts f (negsuc n) d = ap is_run (cond-true _ _ _ (eq-eqb _ _ d.0)) ∙ run_of (drop 1 f) (n + 1) d.1

-- a number that a field is stands for the field
leaf_is : {A : Type 0} (of : List ℕ → Option A) (f : List ℕ) (x : A) → counts_as_decimal f ≡ true → of f ≡ Some x → decimal_leaf of f ≡ Ok x
leaf_is of f x counts e = cond-true _ _ _ counts ∙ ap (λ o. ok_or o name.Number) e

pub leaf_lacks : {A : Type 0} (of : List ℕ → Option A) (f : List ℕ) → of f ≡ None → decimal_leaf of f ≡ Err (decimal_fault f)
leaf_lacks {A = A} of f e = by_test (counts_as_decimal f) (of f) e
  where
    by_test : (t : Bool) (o : Option A) → o ≡ None → (if t then ok_or o name.Number else Err name.Field) ≡ Err (if t then name.Number else name.Field)
    by_test true o e = ap (λ p. ok_or p name.Number) e
    by_test false o e = refl

pub natural32_is : (f : List ℕ) (n : ℕ) → u32_of f ≡ Some n → natural32 f ≡ Ok n
natural32_is f n e = leaf_is u32_of f n (decimal_counts f n (u32_is f n e).1) e

pub natural_is : (f : List ℕ) (n : ℕ) → u128_of f ≡ Some n → natural f ≡ Ok n
natural_is f n e = leaf_is u128_of f n (decimal_counts f n (u128_is f n e).1) e

pub integer_is : (f : List ℕ) (z : ℤ) → i128_of f ≡ Some z → integer f ≡ Ok z
integer_is f z e = leaf_is i128_of f z (signed_counts f z (i128_is f z e).1) e

decimal_leaf_is : {A : Type 0} (of : List ℕ → Option A) (text : A → List ℕ) (fits : A → Type 0)
    → ((f : List ℕ) (x : A) → of f ≡ Some x → (f ≡ text x) × fits x)
    → ((x : A) → fits x → (counts_as_decimal (text x) ≡ true) × (of (text x) ≡ Some x) × IsPlain (text x))
    → IsLeaf (decimal_leaf of) text fits
decimal_leaf_is {A = A} of text fits found back = record {
  found = λ f. by_test f (counts_as_decimal f) (of f) refl;
  again = λ x fit. let b = back x fit in cond-true _ _ _ b.0 ∙ ap (λ o. ok_or o name.Number) b.1;
  clean = λ x fit. (back x fit).2;
}
  where
    by_test : (f : List ℕ) (t : Bool) (o : Option A) → of f ≡ o → IfOk (if t then ok_or o name.Number else Err name.Field) (λ x. (f ≡ text x) × fits x)
    by_test f true (Some x) e = found f x e
    by_test f true None e = tt
    by_test f false o e = tt

pub natural32_is_leaf : IsLeaf natural32 decimal (λ n. n < 2 ^ 32)
natural32_is_leaf = decimal_leaf_is u32_of decimal (λ n. n < 2 ^ 32)
    (λ f n e. let p = u32_is f n e in (decimal-of f n (omega (arith, p.0)) p.1, p.0))
    (λ n lt. let d = decimal-is n (omega (arith, lt)) in (decimal_counts (decimal n) n d, u32_from (decimal n) n lt d, decimal_plain n (omega (arith, lt))))

pub natural_is_leaf : IsLeaf natural decimal (λ n. n < 2 ^ 128)
natural_is_leaf = decimal_leaf_is u128_of decimal (λ n. n < 2 ^ 128)
    (λ f n e. let p = u128_is f n e in (decimal-of f n (omega (arith, p.0)) p.1, p.0))
    (λ n lt. let d = decimal-is n (omega (arith, lt)) in (decimal_counts (decimal n) n d, u128_from (decimal n) n lt d, decimal_plain n (omega (arith, lt))))

pub integer_is_leaf : IsLeaf integer signed_decimal (FitsSigned w128)
integer_is_leaf = decimal_leaf_is i128_of signed_decimal (FitsSigned w128)
    (λ f z e. let p = i128_is f z e in (signed_decimal-of f z p.0 p.1, p.0))
    (λ z fits. let d = signed_decimal-is z fits in (signed_counts (signed_decimal z) z d, i128_from (signed_decimal z) z fits d, signed_decimal_plain z fits))

pub count_is_leaf : (limit : ℕ) → limit < 2 ^ 32 → IsLeaf (count limit) decimal (λ n. n ≤ limit)
count_is_leaf limit small = record {
  found = λ f. by_number f (natural32 f) (natural32_is_leaf.found f);
  again = λ n le. ap (within_limit limit) (natural32_is_leaf.again n (omega (arith, small, le))) ∙ cond-true _ _ _ (le-leb _ _ le);
  clean = λ n le. decimal_plain n (omega (arith, small, le));
}
  where
    by_limit : (f : List ℕ) (n : ℕ) → f ≡ decimal n → (t : Bool) → nat_le n limit ≡ t → IfOk (if t then Ok n else Err name.Limit) (λ k. (f ≡ decimal k) × (k ≤ limit))
    by_limit f n e true le = (e, leb-true _ _ le)
    by_limit f n e false le = tt

    by_number : (f : List ℕ) (r : Result ℕ FormName) → IfOk r (λ n. (f ≡ decimal n) × (n < 2 ^ 32)) → IfOk (within_limit limit r) (λ n. (f ≡ decimal n) × (n ≤ limit))
    by_number f (Ok n) h = by_limit f n h.0 (nat_le n limit) refl
    by_number f (Err what) h = tt
