-- What the text of a program says: a program and its graph, or the line that refuses it.
use Rattle.std.specs.Prelude.{◌≡◌, ℕ, List, Some}
use Rattle.ps_compile.specs.Checks.{Check, IsFirstExceeded, NoneIsExceeded, checks}
use Rattle.ps_compile.specs.Compiled.{IsCompiled}
use Rattle.ps_compile.specs.Layout.{body_sites}
use Rattle.ps_grammar.specs.Programs.{IsProgram}
use Rattle.ps_graph.specs.declared.graph.Graph.{Graph}
use Rattle.ps_parse.specs.Refusals.{refusal_text}
use Rattle.ps_parse.specs.Texts.{IsRefused}
use Rattle.ps_parse.specs.declared.read_refusal.ReadRefusal.{ReadRefusal}
use Rattle.ps_parse.specs.declared.read_refusal.ReadRefusal.TheVariants.{Limit, Token}
use Rattle.ps_token.specs.Lexing.{IsBadAt}
use Rattle.ps_token.specs.declared.place.Place.{Place}
use Rattle.ps_tree.specs.declared.limit_name.LimitName.{LimitName}
use Rattle.ps_tree.specs.declared.program.Program.{Program}

-- the limits of a program's graph, in the order in which they are checked
abbrev pub limits_of : Program → List Check
limits_of program = checks 0 (body_sites program.body 0 2)

-- the text is this program, which exceeds no limit, and its graph is this one
pub record SaysProgram (text : List ℕ) (program : Program) (graph : Graph) : Type 0 where
  pub read : IsProgram text program
  pub within : NoneIsExceeded (limits_of program)
  pub compiled : IsCompiled program graph

-- Why a text is refused: a byte starts no token; or else its words are refused, by what is the first refusal of them; or else
-- its program exceeds limits, of which this one, at this place, is the first.
pub data Refuses (text : List ℕ) (refusal : ReadRefusal) : Type 0 where
  BadByte : (place : Place) → IsBadAt text place → refusal ≡ Token place → Refuses text refusal
  BadWord : IsRefused text refusal → Refuses text refusal
  PastLimit : (program : Program) → IsProgram text program → (place : Place) (limit : LimitName)
      → IsFirstExceeded place limit (limits_of program) → refusal ≡ Limit place limit → Refuses text refusal

-- this line refuses the text of a program
abbrev pub RefusesBy : List ℕ → List ℕ → Type 0
RefusesBy text line = (refusal : ReadRefusal) × Refuses text refusal × (refusal_text refusal ≡ Some line)
