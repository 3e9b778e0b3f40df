-- Reading words from left to right, with the first refusal.
use Rattle.std.specs.Prelude.{◌≡◌, ℕ, zero, suc, Bool, List, [], ◌∷◌, ◌++◌, Option, Some, None, Result, Ok, Err, if◌then◌else◌}
use Rattle.ps_lines.specs.Steps.{Reading, ◌>>=◌}
use Rattle.ps_token.specs.declared.place.Place.{Place}
use Rattle.ps_token.specs.declared.token_kind.TokenKind.{TokenKind}
use Rattle.ps_parse.specs.declared.read_refusal.ReadRefusal.{ReadRefusal}
use Rattle.ps_parse.specs.declared.read_refusal.ReadRefusal.TheVariants.{Grammar}
use Rattle.ps_grammar.specs.Words.{Word}
use Rattle.ps_parse.specs.Kinds.{begins_with, is_kind, place_of_next}
use Rattle.ps_parse.specs.Promises.{Refuses}

-- A place in a text: the words that are left, and where the text ends.
pub record WordsAhead : Type 0 where
  pub words : List Word
  pub end : Place

-- ---- reading

-- A reading function gives what it read and the place after it, or the first refusal.
abbrev pub ReadWords : Type 0 → Type 0
ReadWords A = Reading WordsAhead ReadRefusal A

abbrev pub place_at : WordsAhead → Place
place_at at = place_of_next at.words at.end

abbrev pub next_is : TokenKind → WordsAhead → Bool
next_is k at = begins_with k at.words

-- The next word, which is of the kind; `Grammar` there where it isn't.
abbrev pub word_from : TokenKind → List Word → Place → Result (Word × WordsAhead) ReadRefusal
word_from k [] end = Err (Grammar end)
word_from k (w ∷ ws) end = if is_kind w.kind k then Ok (w, record { words = ws; end = end }) else Err (Grammar w.place)

unfoldable pub next_word : TokenKind → ReadWords Word
next_word k at = word_from k at.words at.end

-- The first word is taken, or there is none.
abbrev pub IsTaken : WordsAhead → WordsAhead → Option Word → Type 0
IsTaken before after None = before.words ≡ []
IsTaken before after (Some w) = before ≡ record { words = w ∷ after.words; end = after.end }

-- A word of the kind, and then what is read.
unfoldable pub after_word : {A : Type 0} → TokenKind → ReadWords A → ReadWords A
after_word k read at = next_word k at >>= λ w. read w.1

-- As long as it goes on, and at most so many.
unfoldable pub words_while : {A : Type 0} → (WordsAhead → Bool) → ReadWords A → ℕ → ReadWords (List A)
words_while goes read zero at = Ok ([], at)
words_while goes read (suc n) at =
    if goes at then (read at >>= λ x. words_while goes read n x.1 >>= λ xs. Ok (x.0 ∷ xs.0, xs.1)) else Ok ([], at)

-- The text ends: `Grammar` at the next word where there is one.
abbrev pub words_end_from : List Word → Result (Unit {0}) ReadRefusal
words_end_from [] = Ok tt
words_end_from (w ∷ ws) = Err (Grammar w.place)

abbrev pub words_end : WordsAhead → Result (Unit {0}) ReadRefusal
words_end at = words_end_from at.words

-- What was read before, and what is read from here on.
abbrev pub with_front : {A : Type 0} → List A → Result (List A × WordsAhead) ReadRefusal → Result (List A × WordsAhead) ReadRefusal
with_front front read = read >>= λ xs. Ok (front ++ xs.0, xs.1)

-- ---- what calls promise

-- A call answers what a reading function gives, unless memory runs out. After a refusal nothing is said of the place.
abbrev pub ReadsTo : {X A : Type 0} → (X → A) → Result X ReadRefusal → WordsAhead → Result (A × WordsAhead) ReadRefusal → Type 0
ReadsTo view (Ok x) now read = read ≡ Ok (view x, now)
ReadsTo view (Err refusal) now read = Refuses refusal read
