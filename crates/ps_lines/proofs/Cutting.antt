-- Looking for the byte at which a field is cut, and what the parts are.
use Rattle.std.proofs.Common.{◌≡◌, ℕ, suc, ◌+◌, ◌<◌, ◌≤◌, Bool, true, false, List, [], ◌∷◌, ◌++◌, length, get_or, take, drop, Option, Some, None, refl, sym, ap, ◌∙◌, arith, add-one, drop-cons, append_assoc, eqb, ◌^◌, rules}
use Rattle.std.specs.Prelude.{option_map, decimal, ℤ, pos, negsuc, FitsSigned, ◌==◌, if◌then◌else◌}
use Rattle.std.proofs.lemmas.Bool.{eqb-true, or_left, or_right, eq-eqb, ne_eqb, cond-true, cond-false}
use Rattle.std.proofs.lemmas.List.{take_more, append-nil, drop_all}
use Rattle.std.proofs.lemmas.Option.{none-some, some_pair_parts}
use Rattle.std.specs.Fmt.{signed_decimal}
use Rattle.std.specs.Int.{w128}
use Rattle.std.specs.Char.{digit_value}
use Rattle.std.specs.List.{AllByRecursion, list_any}
use Rattle.std.specs.Str.Parse.{AllDigits}
use Rattle.ps_lines.proofs.Decimals.{decimal-is}
use Rattle.ps_lines.specs.Parts.{cut_at}

abbrev onto_front : List ℕ → Option (List ℕ × List ℕ) → Option (List ℕ × List ℕ)
onto_front front cut = option_map (λ (p : List ℕ × List ℕ). (front ++ p.0, p.1)) cut

onto_front-more : (front : List ℕ) (b : ℕ) (r : Option (List ℕ × List ℕ)) → onto_front front (option_map (λ (p : List ℕ × List ℕ). (b ∷ p.0, p.1)) r) ≡ onto_front (front ++ b ∷ []) r
onto_front-more front b None = refl
onto_front-more front b (Some p) = ap (λ (f : List ℕ). Some (f, p.1)) (sym (append_assoc front (b ∷ []) p.0))

onto_front-none : (r : Option (List ℕ × List ℕ)) → onto_front [] r ≡ r
onto_front-none None = refl
onto_front-none (Some p) = refl

-- what was passed, with how the rest is cut, is how all is cut
pub record Cutting (byte : ℕ) (front rest all : List ℕ) : Type 0 where
  pub same : onto_front front (cut_at byte rest) ≡ cut_at byte all

pub cutting_none : (byte : ℕ) (all : List ℕ) → Cutting byte (take 0 all) (drop 0 all) all
cutting_none byte all = record { same = onto_front-none (cut_at byte all) }

split_of : (byte : ℕ) (xs : List ℕ) (i : ℕ) → i < length xs → Cutting byte (take i xs) (drop i xs) xs → onto_front (take i xs) (cut_at byte (get_or xs i 0 ∷ drop (suc i) xs)) ≡ cut_at byte xs
split_of byte xs i lt h = ap (λ (r : List ℕ). onto_front (take i xs) (cut_at byte r)) (sym (drop-cons xs i 0 lt)) ∙ h.same

pub cutting_more : (byte : ℕ) (xs : List ℕ) (i x : ℕ) → Cutting byte (take i xs) (drop i xs) xs → i < length xs → x ≡ get_or xs i 0 → (x ≡ byte → ⊥) → Cutting byte (take (i + 1) xs) (drop (i + 1) xs) xs
cutting_more byte xs i x h lt e other =
    let other' : eqb (get_or xs i 0) byte ≡ false = ne_eqb _ _ (λ q. other (e ∙ q)) in
    let step : cut_at byte (get_or xs i 0 ∷ drop (suc i) xs) ≡ option_map (λ (p : List ℕ × List ℕ). (get_or xs i 0 ∷ p.0, p.1)) (cut_at byte (drop (suc i) xs)) = cond-false _ _ _ other' in
    let all = split_of byte xs i lt h in
    record { same = rw (take_more xs i 0 lt, add-one) (sym (onto_front-more (take i xs) (get_or xs i 0) (cut_at byte (drop (suc i) xs))) ∙ ap (onto_front (take i xs)) (sym step) ∙ all) }

pub cutting_found : (byte : ℕ) (xs : List ℕ) (i x : ℕ) (front rest back : List ℕ) → Cutting byte (take i xs) (drop i xs) xs → i < length xs → x ≡ get_or xs i 0 → x ≡ byte → front ≡ take i xs → rest ≡ drop i xs → back ≡ drop 1 rest → Some (front, back) ≡ cut_at byte xs
cutting_found byte xs i x front rest back h lt e same front-is rest-is back-is =
    let test : eqb (get_or xs i 0) byte ≡ true = eq-eqb _ _ (sym e ∙ same) in
    let all = split_of byte xs i lt h in
    let step : cut_at byte (get_or xs i 0 ∷ drop (suc i) xs) ≡ Some ([], drop (suc i) xs) = cond-true _ _ _ test in
    let back' : back ≡ drop (suc i) xs = back-is ∙ ap (drop 1) (rest-is ∙ drop-cons xs i 0 lt) in
    rw (front-is, back') (ap (λ (f : List ℕ). Some (f, drop (suc i) xs)) (sym (append-nil (take i xs))) ∙ ap (onto_front (take i xs)) (sym step) ∙ all)

pub cutting_all : (byte : ℕ) (xs : List ℕ) (i : ℕ) → Cutting byte (take i xs) (drop i xs) xs → length xs ≤ i → None ≡ cut_at byte xs
cutting_all byte xs i h le = ap (λ (r : List ℕ). onto_front (take i xs) (cut_at byte r)) (sym (drop_all i xs le)) ∙ h.same

-- ---- what the parts are

-- none of the bytes is this one
abbrev pub IsFree : ℕ → List ℕ → Type 0
IsFree byte bs = AllByRecursion (λ b. eqb b byte ≡ false) bs

abbrev two : List ℕ → List ℕ → List ℕ × List ℕ
two front back = (front, back)

abbrev longer : ℕ → List ℕ × List ℕ → List ℕ × List ℕ
longer b p = (b ∷ p.0, p.1)

cut_front : (byte b : ℕ) (bs : List ℕ) (r : Option (List ℕ × List ℕ)) (front back : List ℕ) → ((front back : List ℕ) → r ≡ Some (two front back) → bs ≡ front ++ byte ∷ back) → option_map (longer b) r ≡ Some (two front back) → b ∷ bs ≡ front ++ byte ∷ back
cut_front byte b bs None front back rest e = absurd (none-some (two front back) e)
cut_front byte b bs (Some p) front back rest e =
    let q = some_pair_parts (b ∷ p.0) front p.1 back e in
    ap (λ (r : List ℕ). b ∷ r) (rest p.0 p.1 refl) ∙ ap (λ (f : List ℕ). f ++ byte ∷ p.1) q.0 ∙ ap (λ (r : List ℕ). front ++ byte ∷ r) q.1

cut_by_test : (byte b : ℕ) (bs front back : List ℕ) → ((front back : List ℕ) → cut_at byte bs ≡ Some (two front back) → bs ≡ front ++ byte ∷ back) → (t : Bool) → eqb b byte ≡ t → (if t then Some (two [] bs) else option_map (longer b) (cut_at byte bs)) ≡ Some (two front back) → b ∷ bs ≡ front ++ byte ∷ back
cut_by_test byte b bs front back rest true test e =
    let q = some_pair_parts [] front bs back e in
    ap (λ (c : ℕ). c ∷ bs) (eqb-true _ _ test) ∙ ap (λ (r : List ℕ). byte ∷ r) q.1 ∙ ap (λ (f : List ℕ). f ++ byte ∷ back) q.0
cut_by_test byte b bs front back rest false test e = cut_front byte b bs (cut_at byte bs) front back rest e

-- a field that is cut is its parts, with the byte between them
pub cut_found : (byte : ℕ) (f front back : List ℕ) → cut_at byte f ≡ Some (front, back) → f ≡ front ++ byte ∷ back
cut_found byte [] front back e = absurd (none-some (two front back) e)
cut_found byte (b ∷ bs) front back e = cut_by_test byte b bs front back (λ x y h. cut_found byte bs x y h) (eqb b byte) refl e

-- two parts with the byte between them are cut so, where the first one hasn't the byte
pub cut_again : (byte : ℕ) (front back : List ℕ) → IsFree byte front → cut_at byte (front ++ byte ∷ back) ≡ Some (front, back)
cut_again byte [] back free = cond-true _ _ _ (eq-eqb byte byte refl)
cut_again byte (b ∷ front) back free = cond-false _ _ _ free.0 ∙ ap (option_map (λ (p : List ℕ × List ℕ). (b ∷ p.0, p.1))) (cut_again byte front back free.1)

pub free_has_none : (byte : ℕ) (bs : List ℕ) → IsFree byte bs → list_any (λ b. b == byte) bs ≡ false
free_has_none byte [] free = refl
free_has_none byte (b ∷ bs) free = rw free.0 (free_has_none byte bs free.1)

pub has_middle : (byte : ℕ) (front back : List ℕ) → list_any (λ b. b == byte) (front ++ byte ∷ back) ≡ true
has_middle byte [] back = or_left _ _ (eq-eqb byte byte refl)
has_middle byte (b ∷ front) back = or_right _ _ (has_middle byte front back)

-- a byte that is no digit isn't in a decimal
free_of_digits : (byte : ℕ) → 10 ≤ digit_value byte → (bs : List ℕ) → AllDigits 10 bs → IsFree byte bs
free_of_digits byte high [] d = tt
free_of_digits byte high (b ∷ bs) d = (ne_eqb _ _ (λ e. absurd (other b e d.0)), free_of_digits byte high bs d.1)
  where
    other : (b : ℕ) → b ≡ byte → digit_value b < 10 → ⊥
    other b e lt = let same : digit_value b ≡ digit_value byte = ap digit_value e in omega (arith, same, lt, high)

pub decimal_free : (byte n : ℕ) → 10 ≤ digit_value byte → n < 10 ^ 64 → IsFree byte (decimal n)
decimal_free byte n high lt = free_of_digits byte high (decimal n) (decimal-is n lt).digits

pub signed_decimal_free : (byte : ℕ) (z : ℤ) → 10 ≤ digit_value byte → eqb 45 byte ≡ false → FitsSigned w128 z → IsFree byte (signed_decimal z)
signed_decimal_free byte (pos n) high other fits = let lt : n < 2 ^ 127 = search rules in decimal_free byte n high (omega (arith, lt))
signed_decimal_free byte (negsuc n) high other fits = let lt : n < 2 ^ 127 = search rules in (other, decimal_free byte (suc n) high (omega (arith, lt)))
