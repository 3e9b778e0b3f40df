-- Reading conditions and tests.
use Rattle.std.specs.Prelude.{ℕ, zero, suc, List, [], ◌∷◌, Ok, Err, if◌then◌else◌}
use Rattle.ps_token.specs.declared.token_kind.TokenKind.{TokenKind}
use Rattle.ps_token.specs.declared.token_kind.TokenKind.TheVariants as kind
use Rattle.ps_tree.specs.declared.cond.Cond.{Cond}
use Rattle.ps_tree.specs.declared.cond.Cond.TheVariants as cond
use Rattle.ps_tree.specs.declared.cond.Test.{Test}
use Rattle.ps_tree.specs.declared.cond.Test.TheVariants as test
use Rattle.ps_parse.specs.declared.read_refusal.ReadRefusal.TheVariants.{Grammar}
use Rattle.ps_grammar.specs.Names.{Names}
use Rattle.ps_parse.specs.Inner.Sums.{relation_at, sign_of}
use Rattle.ps_parse.specs.Inner.Reading.{ReadWords, after_word, next_is, place_at, words_while, next_word}
use Rattle.ps_lines.specs.Steps.{◌>>=◌}

-- one member is itself, several are a condition of them
abbrev pub one_or_all : (List Cond → Cond) → Cond → List Cond → Cond
one_or_all all c [] = c
one_or_all all c (d ∷ ds) = all (c ∷ d ∷ ds)

-- Members with a word between them.
unfoldable pub members_at : (List Cond → Cond) → TokenKind → ReadWords Cond → ℕ → ReadWords Cond
members_at all between read n at = do
  c ← read at
  cs ← words_while (next_is between) (after_word between read) n c.1
  Ok (one_or_all all c.0 cs.0, cs.1)

-- Conditions with `&&` between them, and then with `||`, from how one without them is read.
unfoldable pub conj_with : ReadWords Cond → ℕ → ReadWords Cond
conj_with unary = members_at cond.And kind.And unary

unfoldable pub cond_with : ReadWords Cond → ℕ → ReadWords Cond
cond_with unary n = members_at cond.Or kind.Or (conj_with unary n) n

-- A condition without `&&` and `||`. The number is more than the words that are left, each of which may open a level.
unfoldable pub unary_at : Names → ℕ → ReadWords Cond
unary_at names zero at = Err (Grammar (place_at at))
unary_at names (suc n) at =
    if next_is kind.Not at
    then (after_word kind.Not (unary_at names n) at >>= λ c. Ok (cond.Not c.0, c.1))
    else (if next_is kind.OpenParen at
    then (after_word kind.OpenParen (cond_with (unary_at names n) n) at >>= λ c. next_word kind.CloseParen c.1 >>= λ w. Ok (c.0, w.1))
    else (relation_at sign_of names (suc n) at >>= λ r. Ok (cond.Rel r.0, r.1)))

-- A condition.
unfoldable pub cond_at : Names → ℕ → ReadWords Cond
cond_at names n = cond_with (unary_at names n) n

-- What stands in the parentheses after `if` and `while`.
unfoldable pub test_at : Names → ℕ → ReadWords Test
test_at names n at =
    if next_is kind.Star at
    then (next_word kind.Star at >>= λ w. Ok (test.Star, w.1))
    else (cond_at names n at >>= λ c. Ok (test.Cond c.0, c.1))

-- The same with its parentheses.
unfoldable pub parens_at : Names → ℕ → ReadWords Test
parens_at names n at = do
  open' ← next_word kind.OpenParen at
  t ← test_at names n open'.1
  close ← next_word kind.CloseParen t.1
  Ok (t.0, close.1)
