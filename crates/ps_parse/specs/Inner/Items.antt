-- Reading declarations and whole programs.
use Rattle.std.specs.Prelude.{ℕ, zero, suc, ◌+◌, ℤ, Bool, true, ◌||◌, List, [], ◌∷◌, ◌++◌, length, Option, Some, None, Result, Ok, Err, if◌then◌else◌}
use Rattle.ps_token.specs.declared.token_kind.TokenKind.TheVariants as kind
use Rattle.ps_token.specs.declared.place.Place.{Place}
use Rattle.ps_tree.specs.declared.program.Program.{Program}
use Rattle.ps_parse.specs.declared.read_refusal.ReadRefusal.{ReadRefusal}
use Rattle.ps_tree.specs.declared.relation.Relation.{Relation}
use Rattle.ps_parse.specs.Inner.Blocks.{block_at, ended_at}
use Rattle.ps_parse.specs.Inner.Sums.{init_sign_of, relation_at}
use Rattle.ps_grammar.specs.Numbers.{number_value, signed}
use Rattle.ps_parse.specs.Inner.Reading.{WordsAhead, ReadWords, after_word, words_end, next_is, words_while, next_word}
use Rattle.ps_lines.specs.Steps.{◌>>=◌}
use Rattle.ps_grammar.specs.Words.{Word}
use Rattle.ps_grammar.specs.Declarations.{Declared, names_of, nothing_declared, rows_of_sign, rows_of_value}

-- A name.
abbrev pub name_at : ReadWords (List ℕ)
name_at at = next_word kind.Name at >>= λ w. Ok (w.0.text, w.1)

-- A number, which may have a `-` before it.
unfoldable pub signed_number_ahead : ReadWords ℤ
signed_number_ahead at =
    if next_is kind.Minus at
    then (after_word kind.Minus (next_word kind.Number) at >>= λ w. Ok ((signed true (number_value w.0.text, None)).0, w.1))
    else (next_word kind.Number at >>= λ w. Ok (number_value w.0.text, w.1))

-- `= number`, or nothing
unfoldable pub declared_value_ahead : ReadWords (Option ℤ)
declared_value_ahead at =
    if next_is kind.Equal at
    then (after_word kind.Equal signed_number_ahead at >>= λ n. Ok (Some n.0, n.1))
    else Ok (None, at)

-- ---- the rows of an item, whatever names it has

-- the rows of what was read and of what follows; after a fault there are none
abbrev pub rows_counted_on : {A : Type 0} → (A → ℕ) → (WordsAhead → ℕ) → Result (A × WordsAhead) ReadRefusal → ℕ
rows_counted_on rows rest (Ok x) = rows x.0 + rest x.1
rows_counted_on rows rest (Err e) = 0

-- How many rows the relations give that are whole, up to the first fault of the grammar.
unfoldable pub rows_from : ℕ → ℕ → WordsAhead → ℕ
rows_from n zero at = 0
rows_from n (suc m) at =
    rows_counted_on (λ (r : Relation). rows_of_sign r.sign) (λ next. rows_counted_on (λ (w : Word). 0) (rows_from n m) (next_word kind.And next)) (relation_at init_sign_of (names_of nothing_declared) n at)

-- How many rows an item gives, as far as it is of the grammar: of a global its value, of `init` its relations.
unfoldable pub item_rows : ℕ → WordsAhead → ℕ
item_rows n at =
    if next_is kind.Global at
    then rows_counted_on rows_of_value (λ _. 0) (after_word kind.Global (after_word kind.Name declared_value_ahead) at)
    else (if next_is kind.Init at
    then rows_counted_on (λ (w : Word). 0) (rows_from n n) (next_word kind.Init at)
    else 0)

-- ---- items

-- `global NAME (= number)? ;`
unfoldable pub global_at : Declared → ReadWords Declared
global_at d at = do
  name ← after_word kind.Global name_at at
  v ← ended_at declared_value_ahead name.1
  Ok (record { globals = d.globals ++ record { name = name.0; value = v.0 } ∷ []; locals = d.locals; inits = d.inits; rows = d.rows }, v.1)

-- `local NAME ;`
unfoldable pub local_at : Declared → ReadWords Declared
local_at d at = do
  name ← after_word kind.Local (ended_at name_at) at
  Ok (record { globals = d.globals; locals = d.locals ++ name.0 ∷ []; inits = d.inits; rows = d.rows }, name.1)

-- `init rel (&& rel)* ;`
unfoldable pub init_at : Declared → ℕ → ReadWords Declared
init_at d n at = do
  r ← after_word kind.Init (relation_at init_sign_of (names_of d) n) at
  rs ← ended_at (words_while (next_is kind.And) (after_word kind.And (relation_at init_sign_of (names_of d) n)) n) r.1
  Ok (record { globals = d.globals; locals = d.locals; inits = d.inits ++ r.0 ∷ rs.0; rows = d.rows }, rs.1)

-- An item, told by its first word.
unfoldable pub item_at : Declared → ℕ → ReadWords Declared
item_at d n at =
    if next_is kind.Global at then global_at d at
    else (if next_is kind.Local at then local_at d at
    else init_at d n at)

-- an item follows
abbrev pub has_item : WordsAhead → Bool
has_item at = next_is kind.Global at || next_is kind.Local at || next_is kind.Init at

-- At most so many items.
unfoldable pub items_at : ℕ → Declared → ℕ → ReadWords Declared
items_at n d zero at = Ok (d, at)
items_at n d (suc m) at = if has_item at then (item_at d n at >>= λ x. items_at n x.0 m x.1) else Ok (d, at)

-- The whole text, of at most so many words. Names may stand for anything, and nothing is counted: which word has a cause of a
-- refusal is found apart.
unfoldable pub program_at : ℕ → WordsAhead → Result Program ReadRefusal
program_at n at = do
  d ← items_at n nothing_declared n at
  b ← after_word kind.Thread (block_at (names_of d.0) n) d.1
  e ← words_end b.1
  Ok (record { globals = d.0.globals; locals = d.0.locals; inits = d.0.inits; body = b.0 })

-- What the words of a text are read as, or their first fault of the grammar.
abbrev pub program_in : List Word → Place → Result Program ReadRefusal
program_in words end = program_at (length words) (record { words = words; end = end })
