-- Parts of the reading functions of declarations, as the code's calls have them.
use Rattle.std.specs.Prelude.{ℕ, ◌+◌, List, ◌∷◌, ℤ, Option, Some, None, Result, Ok}
use Rattle.ps_token.specs.declared.token_kind.TokenKind.TheVariants as kind
use Rattle.ps_parse.specs.declared.read_refusal.ReadRefusal.{ReadRefusal}
use Rattle.ps_tree.specs.declared.relation.Relation.{Relation}
use Rattle.ps_parse.specs.Inner.Blocks.{ended_at}
use Rattle.ps_parse.specs.Inner.Items.{rows_counted_on, declared_value_ahead}
use Rattle.ps_grammar.specs.Names.{Names}
use Rattle.ps_parse.specs.Inner.Sums.{init_sign_of, relation_at}
use Rattle.ps_parse.specs.Inner.Reading.{WordsAhead, ReadWords, after_word, next_is, words_while}
use Rattle.ps_lines.specs.Steps.{◌>>=◌}
use Rattle.ps_grammar.specs.Words.{Word}

-- The value of a global, which stands after its name.
unfoldable pub declared_value_at : ReadWords (Option ℤ)
declared_value_at at = after_word kind.Global (after_word kind.Name declared_value_ahead) at

-- The relations of an `init` item.
unfoldable pub relations_at : Names → ℕ → ReadWords (List Relation)
relations_at names n at = do
  r ← after_word kind.Init (relation_at init_sign_of names n) at
  rs ← ended_at (words_while (next_is kind.And) (after_word kind.And (relation_at init_sign_of names n)) n) r.1
  Ok (r.0 ∷ rs.0, rs.1)

-- the rows of what was read, where something was, and of what follows
abbrev pub rows_then : Option ℕ → ℕ → ℕ
rows_then None following = 0
rows_then (Some rows) following = rows + following

-- a number that follows a word, where it is read
abbrev pub passed : (WordsAhead → ℕ) → Result (Word × WordsAhead) ReadRefusal → ℕ
passed following read = rows_counted_on (λ (w : Word). 0) following read
