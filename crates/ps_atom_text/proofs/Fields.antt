-- Fields that follow one another in a line, as tokens.
use Rattle.std.proofs.Common.{◌≡◌, ℕ, ◌^◌, ◌<◌, ◌≤◌, true, false, not, List, [], ◌∷◌, ◌++◌, map, length, Result, Ok, Err, refl, ap, ◌∙◌, arith, eqb}
use Rattle.std.specs.Prelude.{decimal, IfOk}
use Rattle.std.specs.Char.{digit_value}
use Rattle.std.specs.Str.{bytes_eq}
use Rattle.std.proofs.lemmas.Bool.{both_ways, eq-eqb, false_from_ne_true}
use Rattle.std.proofs.lemmas.Slice.Eq.{bytes_eq-Decides}
use Rattle.ps_atom_text.specs.Growing.{goes_to}
use Rattle.ps_atom_text.proofs.Commas.{decimal_free_of}
use Rattle.ps_lines.specs.declared.form_fault.FormFault.{FormFault}
use Rattle.ps_lines.specs.declared.form_name.FormName.{FormName}
use Rattle.ps_lines.specs.Steps.{and_then, ◌>>=◌}
use Rattle.ps_lines.specs.Tokens.{LinePart, Field}
use Rattle.ps_lines.proofs.Bytes.{IsClean}
use Rattle.ps_lines.proofs.Cutting.{IsFree}
use Rattle.ps_lines.proofs.Decimals.{decimal-is}
use Rattle.ps_lines.proofs.Exact.{Finds, Gets}
use Rattle.ps_lines.proofs.Forms.{member_tokens}

-- the tokens of a list of members, with further fields and tokens after it
pub fields_then : {A : Type 0} (text : A → List ℕ) (xs : List A) (fs : List (List ℕ)) (ts : List LinePart) → map Field (map text xs ++ fs) ++ ts ≡ member_tokens text xs ++ (map Field fs ++ ts)
fields_then text [] fs ts = refl
fields_then text (x ∷ xs) fs ts = ap (λ (us : List LinePart). Field (text x) ∷ us) (fields_then text xs fs ts)

pub fields_last : {A : Type 0} (text : A → List ℕ) (xs : List A) (ts : List LinePart) → map Field (map text xs) ++ ts ≡ member_tokens text xs ++ ts
fields_last text [] ts = refl
fields_last text (x ∷ xs) ts = ap (λ (us : List LinePart). Field (text x) ∷ us) (fields_last text xs ts)

pub fields_clean : {A : Type 0} (text : A → List ℕ) (xs : List A) (fs : List (List ℕ)) → IsClean (member_tokens text xs) → IsClean (map Field fs) → IsClean (map Field (map text xs ++ fs))
fields_clean text [] fs p q = q
fields_clean text (x ∷ xs) fs p q = (p.0, fields_clean text xs fs p.1 q)

pub last_clean : {A : Type 0} (text : A → List ℕ) (xs : List A) → IsClean (member_tokens text xs) → IsClean (map Field (map text xs))
last_clean text [] p = tt
last_clean text (x ∷ xs) p = (p.0, last_clean text xs p.1)

-- ---- a field that begins with a digit is no word

digits_differ : (bs rest : List ℕ) (w : ℕ) (ws : List ℕ) → 0 < length bs → IsFree w bs → bs ++ rest ≡ w ∷ ws → ⊥
digits_differ [] rest w ws some free e = absurd (omega (arith, some))
digits_differ (b ∷ bs) rest w ws some free e = both_ways (eqb b w) free.0 (eq-eqb b w (first e))
  where
    head : List ℕ → ℕ
    head [] = 0
    head (x ∷ xs) = x

    first : b ∷ (bs ++ rest) ≡ w ∷ ws → b ≡ w
    first same = ap head same

pub number_goes_on : (w : ℕ) (ws : List ℕ) (n : ℕ) (rest : List ℕ) → 10 ≤ digit_value w → n < 2 ^ 32 → goes_to (w ∷ ws) (decimal n ++ rest) ≡ true
number_goes_on w ws n rest no_digit small =
    let is = decimal-is n (omega (arith, small)) in
    let differ : bytes_eq (decimal n ++ rest) (w ∷ ws) ≡ false = false_from_ne_true (bytes_eq (decimal n ++ rest) (w ∷ ws)) (λ same. digits_differ (decimal n) rest w ws is.nonempty (decimal_free_of w n no_digit small) ((bytes_eq-Decides (decimal n ++ rest) (w ∷ ws)).0 same)) in
    ap not differ

-- ---- answers

pub if_ok : {A F : Type 0} (r : Result A F) (Q : A → Type 0) → ((x : A) → r ≡ Ok x → Q x) → IfOk r Q
if_ok (Ok x) Q h = h x refl
if_ok (Err e) Q h = tt

-- one answer after another
pub if_then : {A B : Type 0} (r : Result A FormName) (f : A → Result B FormName) (P : A → Type 0) (Q : B → Type 0) → IfOk r P → ((x : A) → P x → IfOk (f x) Q) → IfOk (r >>= f) Q
unfolding and_then
if_then (Ok x) f P Q h k = k x h
if_then (Err e) f P Q h k = tt

pub then_is : {A B : Type 0} (r : Result A FormName) (f : A → Result B FormName) (x : A) (y : B) → r ≡ Ok x → f x ≡ Ok y → (r >>= f) ≡ Ok y
unfolding and_then
then_is {B = B} r f x y e h = ap (λ s. s >>= f) e ∙ h

pub found_as : {A : Type 0} (r : Result A FormFault) (Q R : A → Type 0) → Finds r Q → ((x : A) → Q x → R x) → Finds r R
found_as (Ok x) Q R h f = record { is = f x h.is }
found_as (Err e) Q R h f = record { is = tt }

pub gets_as : {A : Type 0} (r : Result A FormFault) (Q R : A → Type 0) → Gets r Q → ((x : A) → Q x → R x) → Gets r R
gets_as r Q R h f = record { value = h.value; ok = h.ok; is = f h.value h.is }
