-- Where words stop being the beginning of a program.
use Rattle.std.specs.Prelude.{◌≡◌, ◌≢◌, List, [], ◌∷◌, ◌++◌, All, Option, Some, None}
use Rattle.ps_token.specs.declared.place.Place.{Place}
use Rattle.ps_parse.specs.declared.read_refusal.ReadRefusal.{ReadRefusal}
use Rattle.ps_parse.specs.declared.read_refusal.ReadRefusal.TheVariants as refusal
use Rattle.ps_tree.specs.declared.relation.Sign.TheVariants as sign
use Rattle.ps_grammar.specs.Grammar.{RelationText, ItemText, global, local, init, ProgramText}
use Rattle.ps_grammar.specs.Spelling.{pieces, piece_of_kind, program_pieces}
use Rattle.ps_grammar.specs.Words.{Word}
use Rattle.ps_parse.specs.Kinds.{place_of_next}

-- ---- where no text of the grammar goes on

-- no relation of an `init` has the sign `!=`
abbrev pub HasInitSigns : ItemText → Type 0
HasInitSigns (global x v) = Unit {0}
HasInitSigns (local x) = Unit {0}
HasInitSigns (init r rs) = All (λ (s : RelationText). s.sign ≢ sign.NotEqual) (r ∷ rs)

-- The words are a text of the grammar.
pub record IsText (words : List Word) : Type 0 where
  pub text : ProgramText
  pub spelled : pieces words ≡ program_pieces text
  pub signs : All HasInitSigns text.items

-- Both begin with words that are spelled alike, or both are empty.
abbrev pub BeginAlike : List Word → List Word → Type 0
BeginAlike [] [] = Unit {0}
BeginAlike [] (v ∷ vs) = ⊥
BeginAlike (w ∷ ws) [] = ⊥
BeginAlike (w ∷ ws) (v ∷ vs) = piece_of_kind w.kind w.text ≡ piece_of_kind v.kind v.text

-- The place of the first word that no text of the grammar goes on with, or of the end that none has there: the words
-- before it go on as some text, and with the next word, or ended there, they go on as none.
pub record IsFirstGrammarFault (words : List Word) (end : Place) (place : Place) : Type 0 where
  pub before : List Word
  pub rest : List Word
  pub split : words ≡ before ++ rest
  pub place_is : place ≡ place_of_next rest end
  pub others : List Word
  pub goes_on : IsText (before ++ others)
  pub stops : (others : List Word) → BeginAlike rest others → IsText (before ++ others) → ⊥

-- where a refusal stands, if it is one of the text
abbrev pub refusal_place : ReadRefusal → Option Place
refusal_place (refusal.Token p) = Some p
refusal_place (refusal.Grammar p) = Some p
refusal_place (refusal.UnknownName p) = Some p
refusal_place (refusal.Twice p) = Some p
refusal_place (refusal.NotLinear p) = Some p
refusal_place (refusal.LoopInAtomic p) = Some p
refusal_place (refusal.Limit p what) = Some p
refusal_place (refusal.Memory e) = None

-- It is neither a fault of the grammar nor a second name of a product, which stands where the grammar wants a number and
-- goes before that fault.
abbrev pub PassesGrammar : ReadRefusal → Type 0
PassesGrammar (refusal.Grammar p) = ⊥
PassesGrammar (refusal.NotLinear p) = ⊥
PassesGrammar refused = Unit {0}

-- The refusal stands at a word, or at the end of the text, before which the words go on as some text of the grammar; and
-- where no fault of the grammar stands there, they go on so with the refused word.
pub record StandsInText (words : List Word) (end : Place) (refused : ReadRefusal) : Type 0 where
  pub before : List Word
  pub rest : List Word
  pub split : words ≡ before ++ rest
  pub place_is : refusal_place refused ≡ Some (place_of_next rest end)
  pub others : List Word
  pub goes_on : IsText (before ++ others)
  pub next : PassesGrammar refused → BeginAlike rest others
