-- Why a refusal stands at a word of a text: looking back from it, at the words before, the nearest first. They tell which
-- names are declared, what is open and how many rows hold at the start. Only at an item do the words ahead count: its rows
-- are added before it is read.
use Rattle.std.specs.Prelude.{◌≡◌, ◌≢◌, ◌⊎◌, ◌≤◌, ◌<◌, ℕ, ◌+◌, ◌*◌, Bool, true, false, ◌&&◌, ◌||◌, List, [], ◌∷◌, ◌++◌, length, map, count_by, All, Contains, Some, if◌then◌else◌}
use Rattle.ps_token.specs.declared.place.Place.{Place}
use Rattle.ps_token.specs.declared.token_kind.TokenKind.{TokenKind}
use Rattle.ps_token.specs.declared.token_kind.TokenKind.TheVariants as kind
use Rattle.ps_tree.specs.declared.limit_name.LimitName.TheVariants as limit
use Rattle.ps_parse.specs.declared.level.Level.{Level}
use Rattle.ps_parse.specs.declared.level.Level.TheVariants as level
use Rattle.ps_parse.specs.declared.read_refusal.ReadRefusal.{ReadRefusal}
use Rattle.ps_parse.specs.declared.read_refusal.ReadRefusal.TheVariants as refusal
use Rattle.ps_tree.specs.declared.relation.Sign.TheVariants as sign
use Rattle.ps_grammar.specs.Grammar.{ProductText, number, name, number_name, name_number, SumText, RelationText, ValueText}
use Rattle.ps_grammar.specs.Declarations.{most_globals, most_levels, most_locals, most_rows}
use Rattle.ps_parse.specs.Reads.{IsFirstGrammarFault, StandsInText, refusal_place}
use Rattle.ps_grammar.specs.Spelling.{NamePiece, Mark, pieces, relation_pieces, value_pieces, more_relations}
use Rattle.ps_grammar.specs.Trees.{rows_of_relations}
use Rattle.ps_grammar.specs.Words.{Word}
use Rattle.ps_parse.specs.Kinds.{begins_with, is_kind, place_of_next}

-- The words of a text, from those that were passed, the nearest first, and those ahead.
abbrev pub words_at : List Word → List Word → List Word
words_at [] ahead = ahead
words_at (w ∷ back) ahead = words_at back (w ∷ ahead)

-- ---- what was passed

-- `global` or `local` stands before, so a name is declared here
abbrev pub is_declaration : List Word → Bool
is_declaration back = begins_with kind.Global back || begins_with kind.Local back

-- the names that were declared
abbrev pub declared_in : List Word → List (List ℕ)
declared_in [] = []
declared_in (w ∷ back) = if is_declaration back then w.text ∷ declared_in back else declared_in back

-- a name and `*` stand before
abbrev pub is_after_factor : List Word → Bool
is_after_factor [] = false
is_after_factor (w ∷ back) = is_kind w.kind kind.Star && begins_with kind.Name back

-- how many words of a kind were passed
abbrev pub count_of : TokenKind → List Word → ℕ
count_of k back = count_by (λ (w : Word). is_kind w.kind k) back

-- How many rows hold at the start, by items alone: two for a declared value and for `==`, one for another sign.
abbrev pub rows_passed : List Word → ℕ
rows_passed back = (2 * count_of kind.Equal back) + (count_of kind.Init back + (count_of kind.And back + count_of kind.EqualEqual back))

-- after an operand, which ends each `!` before it
abbrev pub without_negations : List Level → List Level
without_negations [] = []
without_negations (level.Negation ∷ ls) = without_negations ls
without_negations (l ∷ ls) = l ∷ ls

-- without the level that was opened last
abbrev pub closed : List Level → List Level
closed [] = []
closed (l ∷ ls) = ls

-- the level that `{` opens, after `atomic` or not
abbrev pub block_level : Bool → Level
block_level true = level.AtomicBlock
block_level false = level.Block

-- The levels after a word of the kind, from those before it and whether `atomic` stands before.
abbrev pub levels_with : Bool → TokenKind → List Level → List Level
levels_with atomic kind.OpenBrace ls = block_level atomic ∷ ls
levels_with atomic kind.CloseBrace ls = closed ls
levels_with atomic kind.OpenParen ls = level.Parens ∷ ls
levels_with atomic kind.CloseParen ls = without_negations (closed (without_negations ls))
levels_with atomic kind.Not ls = level.Negation ∷ ls
levels_with atomic kind.And ls = without_negations ls
levels_with atomic kind.Or ls = without_negations ls
levels_with atomic kind.Semicolon ls = without_negations ls
levels_with atomic k ls = ls

-- The levels that are open after the words, the last one first.
abbrev pub levels : List Word → List Level
levels [] = []
levels (w ∷ back) = levels_with (begins_with kind.Atomic back) w.kind (levels back)

-- `{`, `(` or `!`
abbrev pub opens_level : TokenKind → Bool
opens_level k = is_kind k kind.OpenBrace || is_kind k kind.OpenParen || is_kind k kind.Not

-- ---- the rows of an item ahead

-- the last one of a list, from its first
abbrev pub last_of : {A : Type 0} → A → List A → A
last_of x [] = x
last_of x (y ∷ ys) = last_of y ys

-- the last product of a sum
abbrev pub last_product : SumText → ProductText
last_product s = last_of s.first (map (λ (p : Bool × ProductText). p.1) s.further)

-- a number or a name alone, so that `*` goes on in the product
abbrev pub is_alone : ProductText → Bool
is_alone (number n) = true
is_alone (name x) = true
is_alone (number_name n x) = false
is_alone (name_number x n) = false

-- The words after a relation go on in it: by `+` or `-`, or by `*` after a number or a name alone.
abbrev pub relation_goes_on : RelationText → List Word → Bool
relation_goes_on r ahead = begins_with kind.Plus ahead || begins_with kind.Minus ahead || (is_alone (last_product r.right) && begins_with kind.Star ahead)

-- The words begin with `global`, a name and its value.
pub record BeginsGlobal (words : List Word) : Type 0 where
  pub named : List ℕ
  pub value : ValueText
  pub front : List Word
  pub rest : List Word
  pub split : words ≡ front ++ rest
  pub spelled : pieces front ≡ Mark kind.Global ∷ NamePiece named ∷ value_pieces (Some value)

-- The words begin with `init` and relations that it may have, of which the last is whole: no word after it goes on in it.
pub record BeginsInit (words : List Word) : Type 0 where
  pub first : RelationText
  pub further : List RelationText
  pub front : List Word
  pub rest : List Word
  pub split : words ≡ front ++ rest
  pub spelled : pieces front ≡ Mark kind.Init ∷ (relation_pieces first ++ more_relations further)
  pub signs : All (λ (r : RelationText). r.sign ≢ sign.NotEqual) (first ∷ further)
  pub whole : relation_goes_on (last_of first further) rest ≡ false

-- The words begin with an item, or with a part of one, that gives so many rows.
abbrev pub GivesRows : List Word → ℕ → Type 0
GivesRows words rows = (BeginsGlobal words × (rows ≡ 2)) ⊎ ((i : BeginsInit words) × (rows ≡ rows_of_relations (i.first ∷ i.further)))

-- ---- causes

-- The cause of a refusal at the word ahead, in a text of these words. A fault of the grammar, whose place is told apart
-- from this, has none here, and none stands at the end of the text.
abbrev pub IsCauseAt : List Word → Word → List Word → ReadRefusal → Type 0
IsCauseAt back w ahead (refusal.UnknownName p) = (w.kind ≡ kind.Name) × (is_declaration back ≡ false) × ¬ Contains (declared_in back) w.text
IsCauseAt back w ahead (refusal.Twice p) = (w.kind ≡ kind.Name) × (is_declaration back ≡ true) × Contains (declared_in back) w.text
IsCauseAt back w ahead (refusal.NotLinear p) = (w.kind ≡ kind.Name) × (is_after_factor back ≡ true)
IsCauseAt back w ahead (refusal.LoopInAtomic p) = (w.kind ≡ kind.While) × Contains (levels back) level.AtomicBlock
IsCauseAt back w ahead (refusal.Limit p limit.Globals) = (w.kind ≡ kind.Name) × (begins_with kind.Global back ≡ true) × (most_globals < count_of kind.Global back)
IsCauseAt back w ahead (refusal.Limit p limit.Locals) = (w.kind ≡ kind.Name) × (begins_with kind.Local back ≡ true) × (most_locals < count_of kind.Local back)
IsCauseAt back w ahead (refusal.Limit p limit.Init) = (rows : ℕ) × GivesRows (w ∷ ahead) rows × (most_rows < rows_passed back + rows)
IsCauseAt back w ahead (refusal.Limit p limit.Depth) = (opens_level w.kind ≡ true) × (most_levels ≤ length (levels back))
IsCauseAt back w ahead (refusal.Limit p what) = ⊥
IsCauseAt back w ahead (refusal.Token p) = ⊥
IsCauseAt back w ahead (refusal.Grammar p) = ⊥
IsCauseAt back w ahead (refusal.Memory e) = ⊥

abbrev pub IsCause : List Word → List Word → ReadRefusal → Type 0
IsCause back [] refused = ⊥
IsCause back (w ∷ ahead) refused = IsCauseAt back w ahead refused

-- the cause of a refusal, but for a fault of the grammar
abbrev pub HasCauseOf : List Word → List Word → ReadRefusal → Type 0
HasCauseOf back ahead (refusal.Grammar p) = Unit {0}
HasCauseOf back ahead refused = IsCause back ahead refused

-- no cause at any of the words that were passed
abbrev pub IsClean : List Word → List Word → Type 0
IsClean [] ahead = Unit {0}
IsClean (w ∷ back) ahead = ((other : ReadRefusal) → ¬ IsCause back (w ∷ ahead) other) × IsClean back (w ∷ ahead)

-- No word of a text has a cause of a refusal.
abbrev pub HasNoCause : List Word → Type 0
HasNoCause words = (back ahead : List Word) → words ≡ words_at back ahead → (refused : ReadRefusal) → ¬ IsCause back ahead refused

-- the order of refusals at one place
abbrev pub rank : ReadRefusal → ℕ
rank (refusal.NotLinear p) = 0
rank (refusal.Grammar p) = 1
rank (refusal.UnknownName p) = 2
rank (refusal.Twice p) = 3
rank (refusal.LoopInAtomic p) = 4
rank (refusal.Limit p what) = 5
rank (refusal.Token p) = 6
rank (refusal.Memory e) = 6

-- The refusal stands at a place with its cause; no other cause there goes before it, and there is none at a word before.
pub record IsFirstCause (words : List Word) (end : Place) (refused : ReadRefusal) : Type 0 where
  pub back : List Word
  pub ahead : List Word
  pub split : words ≡ words_at back ahead
  pub place_is : refusal_place refused ≡ Some (place_of_next ahead end)
  pub cause : HasCauseOf back ahead refused
  pub first_here : (other : ReadRefusal) → IsCause back ahead other → rank refused ≤ rank other
  pub first : IsClean back ahead

-- ---- what words are refused by

-- where a fault of the grammar is said, it is the first one
abbrev pub IsFaultIfSaid : List Word → Place → ReadRefusal → Type 0
IsFaultIfSaid words end (refusal.Grammar p) = IsFirstGrammarFault words end p
IsFaultIfSaid words end refused = Unit {0}

-- The refusal stands at the first word that has a cause of one, not after the first fault of the grammar, and it says that
-- fault nowhere else.
pub record AreRefused (words : List Word) (end : Place) (refused : ReadRefusal) : Type 0 where
  pub first : IsFirstCause words end refused
  pub in_text : StandsInText words end refused
  pub fault : IsFaultIfSaid words end refused
