use Rattle.std.proofs.Common.{◌≡◌, ℕ, ◌^◌, ◌<◌, ◌≤◌, ltb, cond, List, length, Option, Some, None, refl, arith}
use Rattle.std.proofs.lemmas.Int.{ints}
use Rattle.std.specs.Str.Parse.{digits_value}
use Rattle.std.proofs.Math.Nat.{pow-le-pow_right}
use Rattle.std.proofs.lemmas.Bool.{lt-ltb}
use Rattle.std.proofs.lemmas.Int.Digits.{digits_value-lt}
use Rattle.ps_token.specs.Lexing.{IsNumber}
use Rattle.ps_lines.proofs.Digits.{AllDigits-from}
use Rattle.ps_token.proofs.number.number_value.Goals as goal

value_below : (digits : List ℕ) → IsNumber digits → digits_value 10 digits < 10 ^ 18
value_below digits h =
    let positive : 0 < 10 = omega arith in
    let short : 10 ^ length digits ≤ 10 ^ 18 = pow-le-pow_right positive h.few in
    omega (arith, digits_value-lt 10 digits (AllDigits-from digits h.digits))

some_fits : (value most : ℕ) (o : Option ℕ) → o ≡ cond (ltb value most) (Some value) None → value < most → o ≡ Some value
some_fits value most o e h = rw e (rw (lt-ltb value most h) refl)

same_some : (m n : ℕ) → Some m ≡ Some n → m ≡ n
same_some m n e = cc

no_none : (n : ℕ) → None ≡ Some n → ⊥
no_none n e = cc

below_128 : (n : ℕ) → n < 10 ^ 18 → n < 2 ^ 128
below_128 n h = omega arith

number_is : (digits : List ℕ) (n : ℕ) → IsNumber digits → Some n ≡ cond (ltb (digits_value 10 digits) (2 ^ 128)) (Some (digits_value 10 digits)) None → n ≡ digits_value 10 digits
number_is digits n h e = same_some n (digits_value 10 digits) (some_fits (digits_value 10 digits) (2 ^ 128) (Some n) e (below_128 (digits_value 10 digits) (value_below digits h)))

pub overflow_cast-result : goal.overflow_cast-result
overflow_cast-result c =
    let below = value_below c.args.digits.now c.requires in
    let is = number_is c.args.digits.now c.in-Some.n c.requires c.in-Some.ensures in
    omega (arith, ints)

pub returns-clause-value : goal.returns-clause-value
returns-clause-value c =
    let below = value_below c.args.digits.now c.requires in
    let is = number_is c.args.digits.now c.in-Some.n c.requires c.in-Some.ensures in
    omega (arith, ints)

pub returns-clause-range : goal.returns-clause-range
returns-clause-range c = value_below c.args.digits.now c.requires

pub unreachable-requires : goal.unreachable-requires
unreachable-requires c = no_none (digits_value 10 c.args.digits.now) (some_fits (digits_value 10 c.args.digits.now) (2 ^ 128) None c.in-None.ensures (below_128 (digits_value 10 c.args.digits.now) (value_below c.args.digits.now c.requires)))
