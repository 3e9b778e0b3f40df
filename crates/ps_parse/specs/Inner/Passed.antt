-- What is kept of the words that were passed, to find causes of refusals.
use Rattle.std.specs.Prelude.{◌≡◌, ◌≤◌, ℕ, Bool, true, false, ◌||◌, ◌&&◌, List, [], ◌∷◌, ◌++◌, length, Option, Some, None, nat_lt, if◌then◌else◌}
use Rattle.std.specs.Str.{bytes_eq}
use Rattle.ps_token.specs.Lexing.{IsName, IsSpelled}
use Rattle.ps_token.specs.declared.place.Place.{Place}
use Rattle.ps_token.specs.declared.token_kind.TokenKind.{TokenKind}
use Rattle.ps_token.specs.declared.token_kind.TokenKind.TheVariants as kind
use Rattle.ps_grammar.specs.Declarations.{most_globals, most_locals}
use Rattle.ps_grammar.specs.Words.{Word}
use Rattle.ps_parse.specs.Causes.{GivesRows, HasNoCause, IsCauseAt, IsClean, count_of, declared_in, levels, rank, rows_passed, words_at}
use Rattle.ps_parse.specs.Kinds.{is_kind}
use Rattle.ps_parse.specs.Parts.{HasOwnCause}
use Rattle.ps_parse.specs.Reads.{refusal_place}
use Rattle.ps_parse.specs.declared.level.Level.{Level}
use Rattle.ps_parse.specs.declared.level.Level.TheVariants as level
use Rattle.ps_parse.specs.declared.read_refusal.ReadRefusal.{ReadRefusal}
use Rattle.ps_parse.specs.declared.spot.Spot.{Spot}

-- ---- kinds

-- the kind, if there is one, is this
abbrev pub is_kind_of : Option TokenKind → TokenKind → Bool
is_kind_of None k = false
is_kind_of (Some j) k = is_kind j k

-- the kind of the nearest word, and of the one before it
abbrev pub nearest_kind : List Word → Option TokenKind
nearest_kind [] = None
nearest_kind (w ∷ back) = Some w.kind

abbrev pub second_kind : List Word → Option TokenKind
second_kind [] = None
second_kind (w ∷ back) = nearest_kind back

-- a name is declared by the next word
abbrev pub is_declaring : Option TokenKind → Bool
is_declaring nearest = is_kind_of nearest kind.Global || is_kind_of nearest kind.Local

-- one for each word of the kind
abbrev pub ones : TokenKind → TokenKind → ℕ
ones k j = if is_kind j k then 1 else 0

-- the rows that a word stands for
abbrev pub row_weight : TokenKind → ℕ
row_weight kind.Equal = 2
row_weight kind.Init = 1
row_weight kind.And = 1
row_weight kind.EqualEqual = 1
row_weight k = 0

-- the level that was opened last is a `!`
abbrev pub is_negated : List Level → Bool
is_negated [] = false
is_negated (level.Negation ∷ ls) = true
is_negated (l ∷ ls) = false

-- one of them is of `atomic`
abbrev pub has_atomic : List Level → Bool
has_atomic [] = false
has_atomic (level.AtomicBlock ∷ ls) = true
has_atomic (l ∷ ls) = has_atomic ls

-- the name is in the list
abbrev pub has_name : List ℕ → List (List ℕ) → Bool
has_name y [] = false
has_name y (x ∷ xs) = bytes_eq x y || has_name y xs

-- with the name, where it is wanted
abbrev pub added : Bool → List (List ℕ) → List ℕ → List (List ℕ)
added true xs x = xs ++ x ∷ []
added false xs x = xs

-- ---- what is kept

-- How many words were passed, the kinds of the two nearest, how many were `global` and `local`, the rows by items, the
-- names that were declared, and the levels that are open, the last one first.
pub record Tally : Type 0 where
  pub words : ℕ
  pub nearest : Option TokenKind
  pub second : Option TokenKind
  pub globals : ℕ
  pub locals : ℕ
  pub rows : ℕ
  pub names : List (List ℕ)
  pub levels : List Level

-- a name is declared by the next word
abbrev pub declares : Tally → Bool
declares t = is_declaring t.nearest

-- the next word is a factor after a name
abbrev pub multiplies : Tally → Bool
multiplies t = is_kind_of t.nearest kind.Star && is_kind_of t.second kind.Name

-- it declares a global or a local too many
abbrev pub has_many_globals : Tally → Bool
has_many_globals t = is_kind_of t.nearest kind.Global && nat_lt most_globals t.globals

abbrev pub has_many_locals : Tally → Bool
has_many_locals t = is_kind_of t.nearest kind.Local && nat_lt most_locals t.locals

-- That is so of the words that were passed. Of what was declared only names are kept: no other word is spelled as one.
pub record Tells (t : Tally) (back : List Word) : Type 0 where
  pub words : t.words ≡ length back
  pub nearest : t.nearest ≡ nearest_kind back
  pub second : t.second ≡ second_kind back
  pub globals : t.globals ≡ count_of kind.Global back
  pub locals : t.locals ≡ count_of kind.Local back
  pub rows : t.rows ≡ rows_passed back
  pub names : (x : List ℕ) → IsName x → has_name x t.names ≡ has_name x (declared_in back)
  pub levels : t.levels ≡ levels back

-- ---- what is found at a word

-- the word is spelled as its kind is
abbrev pub IsSpelledWord : Word → Type 0
IsSpelledWord w = IsSpelled w.kind w.text

-- The most rows that the words give.
pub record MostRows (ahead : List Word) (rows : ℕ) : Type 0 where
  pub given : 1 ≤ rows → GivesRows ahead rows
  pub most : (other : ℕ) → GivesRows ahead other → other ≤ rows

-- The refusal stands at the word with its cause, and no other cause there goes before it.
pub record IsLeastCause (back : List Word) (w : Word) (ahead : List Word) (refused : ReadRefusal) : Type 0 where
  pub place_is : refusal_place refused ≡ Some w.place
  pub cause : IsCauseAt back w ahead refused
  pub least : (other : ReadRefusal) → IsCauseAt back w ahead other → rank refused ≤ rank other

-- What refuses the word: nothing where it has no cause, or its first cause.
abbrev pub Blames : List Word → Word → List Word → Option ReadRefusal → Type 0
Blames back w ahead None = (other : ReadRefusal) → ¬ IsCauseAt back w ahead other
Blames back w ahead (Some refused) = IsLeastCause back w ahead refused

-- ---- what is found in a text

-- Words of a text were passed, none of which has a cause; what is kept of them is so.
pub record IsChecked (words : List Word) (t : Tally) (ahead : List Word) : Type 0 where
  pub back : List Word
  pub whole : words_at back ahead ≡ words
  pub clean : IsClean back ahead
  pub tells : Tells t back

-- There stands the first word with a cause.
pub record IsSpot (words : List Word) (end : Place) (spot : Spot) : Type 0 where
  pub cause : HasOwnCause words end spot.refusal
  pub before_is : spot.before ≡ length cause.first.back
  pub place_is : refusal_place spot.refusal ≡ Some spot.place

-- What is found in the words of a text: that none has a cause, or the first one that has.
abbrev pub Finds : List Word → Place → Option Spot → Type 0
Finds words end None = HasNoCause words
Finds words end (Some spot) = IsSpot words end spot
