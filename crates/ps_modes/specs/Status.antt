-- The numbers of the exit statuses.
use Rattle.std.specs.Prelude.{◌≡◌, ℕ, ◌<◌, ◌⊎◌, List, [], ◌∷◌}
use Rattle.ps_modes.specs.declared.status.Status.{Status}
use Rattle.ps_modes.specs.declared.status.Status.TheVariants.{Holds, Fails, Unknown, BadInput, BadWords, ReadFault, WriteFault, NoMemory}

-- the number that the program ends with
abbrev pub code : Status → ℕ
code Holds = 0
code Fails = 1
code Unknown = 2
code BadInput = 3
code BadWords = 4
code ReadFault = 5
code WriteFault = 6
code NoMemory = 7

-- the answer is this status exactly where the fact holds; the outside and memory may come between
pub record Exactly (answer : ℕ) (status : Status) (fact : Type 0) : Type 0 where
  pub only : answer ≡ code status → fact
  pub comes : fact → answer < code ReadFault → answer ≡ code status

-- the answer is the number of one of these statuses
abbrev pub IsOneOf : ℕ → List Status → Type 0
IsOneOf answer [] = ⊥
IsOneOf answer (status ∷ statuses) = (answer ≡ code status) ⊎ IsOneOf answer statuses
