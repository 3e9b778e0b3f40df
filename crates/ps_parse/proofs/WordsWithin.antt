-- The tokens of a text as its words.
use Rattle.std.proofs.Common.{◌≡◌, ℕ, ◌+◌, ◌≤◌, List, [], ◌∷◌, zero, suc, length, take, subst, arith, true}
use Rattle.std.specs.Prelude.{All}
use Rattle.ps_token.specs.declared.token.Token.{Token}
use Rattle.ps_token.specs.declared.token_kind.TokenKind.{TokenKind}
use Rattle.ps_token.specs.declared.token_kind.TokenKind.TheVariants as kind
use Rattle.ps_token.specs.Lexing.{AreTokens, AreUpTo, IsInside, IsNumber, IsSpelled}
use Rattle.ps_parse.specs.Inner.Within.{AreWithin}
use Rattle.ps_parse.specs.Kinds.{is_kind}
use Rattle.ps_parse.proofs.Steps.{one_kind}

is_number : (k : TokenKind) (text : List ℕ) → IsSpelled k text → is_kind k kind.Number ≡ true → IsNumber text
is_number k text h e = subst (λ (j : TokenKind). IsSpelled j text) (one_kind k kind.Number e) h

first_inside : (len : ℕ) (t : Token) (ts : List Token) → All (IsInside len) (t ∷ ts) → IsInside len t
first_inside len t ts all = all 0 t (omega arith)

rest_inside : (len : ℕ) (t : Token) (ts : List Token) → All (IsInside len) (t ∷ ts) → All (IsInside len) ts
rest_inside len t ts all = λ k d lt. all (suc k) d (omega (arith, lt))

within_from : (bytes : List ℕ) (from : ℕ) (ts : List Token) (to : ℕ) → AreUpTo bytes from ts to → All (IsInside (length bytes)) ts → AreWithin bytes ts
within_from bytes from [] to cut inside = tt
within_from bytes from (t ∷ ts) to cut inside = (
  record {
    ordered = omega (arith, (first_inside (length bytes) t ts inside).ordered);
    inside = (first_inside (length bytes) t ts inside).inside;
    spelled = cut.1.text.spelled;
    number = is_number t.kind _ cut.1.text.spelled;
  },
  within_from bytes t.end ts to cut.2 (rest_inside (length bytes) t ts inside),
)

count_from : (bytes : List ℕ) (from : ℕ) (ts : List Token) (to : ℕ) → AreUpTo bytes from ts to → All (IsInside (length bytes)) ts → from + length ts ≤ to
count_from bytes from [] to cut inside = omega (arith, cut)
count_from bytes from (t ∷ ts) to cut inside = omega (arith, cut.0.ordered, (first_inside (length bytes) t ts inside).ordered, count_from bytes t.end ts to cut.2 (rest_inside (length bytes) t ts inside))

pub tokens_within : (bytes : List ℕ) (ts : List Token) → AreTokens bytes ts → All (IsInside (length bytes)) ts → AreWithin bytes ts
tokens_within bytes ts cut inside = within_from bytes 0 ts cut.to cut.cut inside

pub tokens_few : (bytes : List ℕ) (ts : List Token) → AreTokens bytes ts → All (IsInside (length bytes)) ts → length ts ≤ length bytes
tokens_few bytes ts cut inside = omega (arith, cut.rest.ordered, count_from bytes 0 ts cut.to cut.cut inside)

pub within_front : (bytes : List ℕ) (n : ℕ) (ts : List Token) → AreWithin bytes ts → AreWithin bytes (take n ts)
within_front bytes zero ts h = tt
within_front bytes (suc n) [] h = tt
within_front bytes (suc n) (t ∷ ts) h = (h.0, within_front bytes n ts h.1)
