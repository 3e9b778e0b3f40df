-- Reading sums and relations.
use Rattle.std.specs.Prelude.{ℕ, ℤ, pos, Bool, true, ◌||◌, List, [], ◌∷◌, Option, Some, None, ok_or, Result, Ok, Err, if◌then◌else◌}
use Rattle.ps_token.specs.declared.token_kind.TokenKind.{TokenKind}
use Rattle.ps_token.specs.declared.token_kind.TokenKind.TheVariants as kind
use Rattle.ps_token.specs.declared.place.Place.{Place}
use Rattle.ps_term.specs.declared.var.Var.{Var}
use Rattle.ps_parse.specs.declared.read_refusal.ReadRefusal.{ReadRefusal}
use Rattle.ps_parse.specs.declared.read_refusal.ReadRefusal.TheVariants.{Grammar}
use Rattle.ps_tree.specs.declared.relation.Relation.{Relation}
use Rattle.ps_tree.specs.declared.relation.Sign.{Sign}
use Rattle.ps_tree.specs.declared.relation.Sign.TheVariants as sign
use Rattle.ps_tree.specs.declared.sum.Sum.{Sum}
use Rattle.ps_grammar.specs.Names.{Names}
use Rattle.ps_parse.specs.Inner.Variables.{variable_at}
use Rattle.ps_parse.specs.Inner.Reading.{WordsAhead, ReadWords, after_word, next_is, words_while, next_word}
use Rattle.ps_lines.specs.Steps.{◌>>=◌}
use Rattle.ps_grammar.specs.Words.{Word}
use Rattle.ps_grammar.specs.Numbers.{number_value, signed}

-- The number in a product after a name.
unfoldable pub factor_at : ReadWords ℤ
factor_at at = next_word kind.Number at >>= λ w. Ok (number_value w.0.text, w.1)

-- A number, and the name that follows it and `*`.
unfoldable pub number_product_at : Names → ReadWords (ℤ × Option Var)
number_product_at names at = do
  n ← next_word kind.Number at
  if next_is kind.Star n.1
      then (after_word kind.Star (variable_at names) n.1 >>= λ x. Ok ((number_value n.0.text, Some x.0), x.1))
      else Ok ((number_value n.0.text, None), n.1)

-- A name, and the number that follows it and `*`.
unfoldable pub name_product_at : Names → ReadWords (ℤ × Option Var)
name_product_at names at = do
  x ← variable_at names at
  if next_is kind.Star x.1
      then (after_word kind.Star factor_at x.1 >>= λ n. Ok ((n.0, Some x.0), n.1))
      else Ok ((pos 1, Some x.0), x.1)

-- A product.
unfoldable pub product_at : Names → ReadWords (ℤ × Option Var)
product_at names at = if next_is kind.Number at then number_product_at names at else name_product_at names at

-- The first product of a sum, which may have a `-` before it.
unfoldable pub first_product_at : Names → ReadWords (ℤ × Option Var)
first_product_at names at =
    if next_is kind.Minus at
    then (after_word kind.Minus (product_at names) at >>= λ p. Ok (signed true p.0, p.1))
    else product_at names at

-- A further product with its `+` or `-`.
unfoldable pub further_product_at : Names → ReadWords (ℤ × Option Var)
further_product_at names at =
    if next_is kind.Plus at
    then after_word kind.Plus (product_at names) at
    else (after_word kind.Minus (product_at names) at >>= λ p. Ok (signed true p.0, p.1))

-- a sum goes on
abbrev pub adds : WordsAhead → Bool
adds at = next_is kind.Plus at || next_is kind.Minus at

-- A sum of at most so many further products.
unfoldable pub sum_at : Names → ℕ → ReadWords Sum
sum_at names n at = do
  p ← first_product_at names at
  ps ← words_while adds (further_product_at names) n p.1
  Ok (record { terms = p.0 ∷ ps.0 }, ps.1)

-- the sign that a kind of word stands for
abbrev pub sign_of : TokenKind → Option Sign
sign_of kind.Less = Some sign.Less
sign_of kind.LessEq = Some sign.LessEq
sign_of kind.Greater = Some sign.Greater
sign_of kind.GreaterEq = Some sign.GreaterEq
sign_of kind.EqualEqual = Some sign.Equal
sign_of kind.NotEqual = Some sign.NotEqual
sign_of k = None

-- the same, for a relation that holds at the start: those have no `!=`
abbrev pub init_sign_of : TokenKind → Option Sign
init_sign_of kind.NotEqual = None
init_sign_of k = sign_of k

-- The next word is a sign.
abbrev pub sign_from : (TokenKind → Option Sign) → List Word → Place → Result (Sign × WordsAhead) ReadRefusal
sign_from of [] end = Err (Grammar end)
sign_from of (w ∷ ws) end = ok_or (of w.kind) (Grammar w.place) >>= λ s. Ok (s, record { words = ws; end = end })

unfoldable pub sign_ahead : (TokenKind → Option Sign) → ReadWords Sign
sign_ahead of at = sign_from of at.words at.end

-- A relation.
unfoldable pub relation_at : (TokenKind → Option Sign) → Names → ℕ → ReadWords Relation
relation_at of names n at = do
  left ← sum_at names n at
  s ← sign_ahead of left.1
  right ← sum_at names n s.1
  Ok (record { left = left.0; sign = s.0; right = right.0 }, right.1)
