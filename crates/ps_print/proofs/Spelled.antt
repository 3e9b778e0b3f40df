-- What is printed of numbers and names.
use Rattle.std.proofs.Common.{◌≡◌, ◌≢◌, ℕ, zero, suc, ◌+◌, ◌^◌, ◌<◌, ℤ, pos, negsuc, Bool, true, false, List, [], ◌∷◌, get_or, Option, Some, None, refl, sym, ◌∙◌, ap, arith}
use Rattle.std.specs.Prelude.{decimal, unsigned_abs, option_map, if◌then◌else◌}
use Rattle.std.specs.Str.{bytes_eq}
use Rattle.std.proofs.lemmas.Bool.{le-ltb}
use Rattle.std.proofs.lemmas.Fmt.{decimal_is_IsNumeral_wide, length-decimal-le_wide}
use Rattle.std.proofs.lemmas.Slice.Eq.{bytes_eq-Decides}
use Rattle.ps_term.specs.declared.var.Var.{Var}
use Rattle.ps_term.specs.declared.var.Var.TheVariants.{Global, Local}
use Rattle.ps_token.specs.Lexing.{IsNumber}
use Rattle.ps_lines.proofs.Decimals.{decimal-is}
use Rattle.ps_lines.proofs.Digits.{are_digits-from}
use Rattle.ps_token.proofs.Front.{digits_are}
use Rattle.ps_grammar.specs.Names.{Names, first_of, position_from}
use Rattle.ps_print.specs.Canonical.{is_negative, name_of}
use Rattle.ps_grammar.specs.Fits.{IsKnownName}
use Rattle.ps_grammar.specs.Numbers.{number_value, signed}
use Rattle.ps_grammar.specs.Trees.{variable_named, variable_or_first}

-- ---- numbers

pub decimal_spelled : (n : ℕ) → n < 10 ^ 18 → IsNumber (decimal n)
decimal_spelled n small =
    let wide : n < 10 ^ 64 = omega (arith, small) in
    let d = decimal-is n wide in
    record {
      digits = sym (digits_are (decimal n)) ∙ are_digits-from (decimal n) d.digits;
      some = omega (arith, d.nonempty);
      few = length-decimal-le_wide 18 n (omega arith) small wide;
    }

pub decimal_value : (n : ℕ) → n < 10 ^ 18 → number_value (decimal n) ≡ pos n
decimal_value n small = let wide : n < 10 ^ 64 = omega (arith, small) in ap pos (decimal_is_IsNumeral_wide n wide).1

pub abs_signed : (b : Bool) (n : ℕ) (o : Option Var) → unsigned_abs (signed b (pos n, o)).0 ≡ n
abs_signed false n o = refl
abs_signed true zero o = refl
abs_signed true (suc n) o = refl

not_negative : (n : ℕ) → is_negative (pos n) ≡ false
not_negative n = le-ltb n 0 (omega arith)

pub signed_abs : (z : ℤ) (o : Option Var) → signed (is_negative z) (pos (unsigned_abs z), o) ≡ (z, o)
signed_abs (pos n) o = ap (λ (b : Bool). signed b (pos n, o)) (not_negative n)
signed_abs (negsuc n) o = refl

-- ---- names

record Found (i k : ℕ) (x : List ℕ) (names : List (List ℕ)) : Type 0 where
  at : ℕ
  place : k ≡ i + at
  is : get_or names at [] ≡ x

found_test : (i k : ℕ) (x n : List ℕ) (ns : List (List ℕ)) (t : Bool) → bytes_eq n x ≡ t → (if t then Some i else position_from (i + 1) x ns) ≡ Some k → (position_from (i + 1) x ns ≡ Some k → Found (i + 1) k x ns) → Found i k x (n ∷ ns)
found_test i k x n ns true same e further = let at : i ≡ k = cc in record { at = 0; place = omega (arith, at); is = (bytes_eq-Decides n x).0 same }
found_test i k x n ns false other e further = let f = further e in record { at = suc f.at; place = omega (arith, f.place); is = f.is }

found_in : (i k : ℕ) (x : List ℕ) (names : List (List ℕ)) → position_from i x names ≡ Some k → Found i k x names
found_in i k x [] e = absurd (let no : None ≡ Some k = e in cc)
found_in i k x (n ∷ ns) e = found_test i k x n ns (bytes_eq n x) refl e (λ h. found_in (i + 1) k x ns h)

found_is : (k : ℕ) (x : List ℕ) (names : List (List ℕ)) → position_from 0 x names ≡ Some k → get_or names k [] ≡ x
found_is k x names e = let f = found_in 0 k x names e in let same : k ≡ f.at = omega (arith, f.place) in ap (λ (j : ℕ). get_or names j []) same ∙ f.is

named_by : (names : Names) (x : List ℕ) (g l : Option ℕ) → position_from 0 x names.globals ≡ g → position_from 0 x names.locals ≡ l → first_of (option_map Global g) (option_map (Local 0) l) ≢ None → name_of names (variable_or_first (first_of (option_map Global g) (option_map (Local 0) l))) ≡ x
named_by names x (Some k) l e f known = found_is k x names.globals e
named_by names x None (Some k) e f known = found_is k x names.locals f
named_by names x None None e f known = absurd (known refl)

-- the variable of a declared name has that name
pub named : (names : Names) (x : List ℕ) → IsKnownName names x → name_of names (variable_named names x) ≡ x
named names x known = named_by names x (position_from 0 x names.globals) (position_from 0 x names.locals) refl refl known
