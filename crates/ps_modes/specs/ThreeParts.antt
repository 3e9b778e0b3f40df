-- What an input owes that is a program, a mark, a middle part, a mark, and a last part, whatever the mode.
use Rattle.std.specs.Prelude.{◌≡◌, ℕ, ◌<◌, ◌≤◌, ◌⊎◌, List, length}
use Rattle.ps_graph.specs.declared.graph.Graph.{Graph}
use Rattle.ps_parts.specs.Cuts.{AreThreeParts, AreTwoParts, HasNoMark, IsCut, IsNumbered}
use Rattle.ps_parts.specs.declared.parts.TheConstants.{MOST_PROGRAM}
use Rattle.ps_tree.specs.declared.program.Program.{Program}
use Rattle.ps_modes.specs.Parts.{OwedToTexts}
use Rattle.ps_modes.specs.declared.status.Status.{Status}
use Rattle.ps_modes.specs.declared.status.Status.TheVariants.{BadInput}
use Rattle.ps_modes.specs.declared.texts.TheConstants.{NO_MARK, LIMIT_PART}

-- the number, from 1, of the line at which the middle part begins
abbrev pub IsMiddleNumbered : List ℕ → List ℕ → List ℕ → ℕ → Type 0
IsMiddleNumbered input middle last line = (rest : List ℕ) × IsCut rest middle last × IsNumbered input rest line

-- The input is the text of a program, its first mark, a middle text, the next mark, and a last text. The two texts have at
-- most so many bytes and begin at the lines of these numbers; the program isn't too long either.
pub record HasThreeTexts (most_middle most_last : ℕ) (input program middle : List ℕ) (middle_line : ℕ) (last : List ℕ) (line : ℕ) : Type 0 where
  pub parts : AreThreeParts input program middle last
  pub program_within : length program ≤ MOST_PROGRAM
  pub middle_within : length middle ≤ most_middle
  pub last_within : length last ≤ most_last
  pub middle_numbered : IsMiddleNumbered input middle last middle_line
  pub numbered : IsNumbered input last line

-- the input has no mark, or no second one
abbrev pub LacksMark : List ℕ → Type 0
LacksMark input = HasNoMark input ⊎ ((program rest : List ℕ) × AreTwoParts input program rest × HasNoMark rest)

-- the input has two marks, and a part of it is too long
pub record HasLongPart (most_middle most_last : ℕ) (input : List ℕ) : Type 0 where
  pub program : List ℕ
  pub middle : List ℕ
  pub last : List ℕ
  pub parts : AreThreeParts input program middle last
  pub long : (MOST_PROGRAM < length program) ⊎ (most_middle < length middle) ⊎ (most_last < length last)

-- What an input owes that isn't too long: a line where it lacks a mark, or a part is too long; else what its texts owe.
pub data OwedToThreeParts (most_middle most_last : ℕ) (OwedTo : List ℕ → ℕ → Program → Graph → List ℕ → ℕ → Status → List ℕ → Type 0) (input : List ℕ) (status : Status) (text : List ℕ) : Type 0 where
  NoMark : LacksMark input → status ≡ BadInput → text ≡ NO_MARK.now → OwedToThreeParts most_middle most_last OwedTo input status text
  LongPart : HasLongPart most_middle most_last input → status ≡ BadInput → text ≡ LIMIT_PART.now → OwedToThreeParts most_middle most_last OwedTo input status text
  Parts : (program middle last : List ℕ) (middle_line line : ℕ) → HasThreeTexts most_middle most_last input program middle middle_line last line
      → OwedToTexts (OwedTo middle middle_line) program last line status text → OwedToThreeParts most_middle most_last OwedTo input status text
