-- What an input owes that is a program, a mark, and a last part, whatever the mode.
use Rattle.std.specs.Prelude.{◌≡◌, ℕ, ◌<◌, ◌≤◌, ◌⊎◌, List, length}
use Rattle.ps_graph.specs.declared.graph.Graph.{Graph}
use Rattle.ps_parts.specs.Cuts.{AreTwoParts, HasNoMark, IsNumbered}
use Rattle.ps_parts.specs.declared.parts.TheConstants.{MOST_PROGRAM}
use Rattle.ps_tree.specs.declared.program.Program.{Program}
use Rattle.ps_modes.specs.Programs.{RefusesBy, SaysProgram}
use Rattle.ps_modes.specs.declared.status.Status.{Status}
use Rattle.ps_modes.specs.declared.status.Status.TheVariants.{BadInput}
use Rattle.ps_modes.specs.declared.texts.TheConstants.{NO_MARK, LIMIT_PART}

-- The input is the text of a program, its first mark, and a last text, which has at most so many bytes and begins at the
-- line of this number; the program isn't too long either.
pub record HasTexts (most : ℕ) (input program last : List ℕ) (line : ℕ) : Type 0 where
  pub parts : AreTwoParts input program last
  pub program_within : length program ≤ MOST_PROGRAM
  pub last_within : length last ≤ most
  pub numbered : IsNumbered input last line

-- the input has a mark, and a part of it is too long
pub record HasLongPart (most : ℕ) (input : List ℕ) : Type 0 where
  pub program : List ℕ
  pub last : List ℕ
  pub parts : AreTwoParts input program last
  pub long : (MOST_PROGRAM < length program) ⊎ (most < length last)

-- What the texts of a program and of the last part owe: a line that refuses the first, or what the program, with its graph,
-- and the second owe.
pub data OwedToTexts (OwedTo : Program → Graph → List ℕ → ℕ → Status → List ℕ → Type 0) (program last : List ℕ) (line : ℕ) (status : Status) (text : List ℕ) : Type 0 where
  NoProgram : RefusesBy program text → status ≡ BadInput → OwedToTexts OwedTo program last line status text
  Programs : (read : Program) (graph : Graph) → SaysProgram program read graph → OwedTo read graph last line status text → OwedToTexts OwedTo program last line status text

-- What an input owes that isn't too long: a line where it has no mark, or a part that is too long; else what its texts owe.
pub data OwedToParts (most : ℕ) (OwedTo : Program → Graph → List ℕ → ℕ → Status → List ℕ → Type 0) (input : List ℕ) (status : Status) (text : List ℕ) : Type 0 where
  NoMark : HasNoMark input → status ≡ BadInput → text ≡ NO_MARK.now → OwedToParts most OwedTo input status text
  LongPart : HasLongPart most input → status ≡ BadInput → text ≡ LIMIT_PART.now → OwedToParts most OwedTo input status text
  Parts : (program last : List ℕ) (line : ℕ) → HasTexts most input program last line → OwedToTexts OwedTo program last line status text → OwedToParts most OwedTo input status text
