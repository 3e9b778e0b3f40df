-- What a program owes to its input, whatever the mode.
use Rattle.std.specs.Prelude.{◌≡◌, ℕ, ◌<◌, ◌≤◌, List, length, Option, IfSome}
use Rattle.ps_modes.specs.Status.{code}
use Rattle.ps_modes.specs.declared.input.TheConstants.{MOST_BYTES}
use Rattle.ps_modes.specs.declared.status.Status.{Status}
use Rattle.ps_modes.specs.declared.status.Status.TheVariants.{BadInput, BadWords}
use Rattle.ps_modes.specs.declared.texts.TheConstants.{TOO_LONG}

-- the status is one that answers an input: of the words, the outside and memory it says nothing
abbrev pub IsVerdict : Status → Type 0
IsVerdict status = code status < code BadWords

-- the input has no more bytes than are read
abbrev pub IsShort : List ℕ → Type 0
IsShort input = length input ≤ MOST_BYTES

-- this status and this text are owed, and no others
pub record IsOwedAnswer (Owed : Status → List ℕ → Type 0) (status : Status) (text : List ℕ) : Type 0 where
  pub owed : Owed status text
  pub only : (s : Status) (t : List ℕ) → Owed s t → (s ≡ status) × (t ≡ text)

-- what an input owes: one line if it is too long, else what the mode owes to it
pub data Owes (Owed : List ℕ → Status → List ℕ → Type 0) (input : List ℕ) (status : Status) (text : List ℕ) : Type 0 where
  TooLong : MOST_BYTES < length input → status ≡ BadInput → text ≡ TOO_LONG.now → Owes Owed input status text
  Within : IsShort input → Owed input status text → Owes Owed input status text

-- the input owes this status, with some text
abbrev pub OwesStatus : (List ℕ → Status → List ℕ → Type 0) → List ℕ → Status → Type 0
OwesStatus Owed input status = (text : List ℕ) × Owes Owed input status text

-- some input, the source's own where it tells its bytes, owes a status and a text of which this holds
pub record SomeAnswer (Owed : List ℕ → Status → List ℕ → Type 0) (left : Option (List ℕ)) (Holding : Status → List ℕ → Type 0) : Type 0 where
  pub input : List ℕ
  pub is : IfSome left (λ bytes. bytes ≡ input)
  pub status : Status
  pub text : List ℕ
  pub owed : Owes Owed input status text
  pub holding : Holding status text
