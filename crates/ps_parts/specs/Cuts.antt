-- Where an input of several parts is cut.
use Rattle.std.specs.Prelude.{◌≡◌, ◌==◌, ℕ, ◌+◌, ◌-◌, ◌≤◌, ◌⊎◌, List, ◌++◌, length, take, drop, count_by, slice_index}
use Rattle.std.specs.Io.{StartsWith}
use Rattle.ps_parts.specs.declared.mark.TheConstants.{MARK}

-- a line begins at the place: it is the first one, or a line feed stands before it
abbrev pub IsLineStart : List ℕ → ℕ → Type 0
IsLineStart input place = (place ≡ 0) ⊎ (slice_index input (place - 1) ≡ 10)

-- a mark stands at the place: a line that is exactly `%%`, and is ended
pub record IsMarkAt (input : List ℕ) (place : ℕ) : Type 0 where
  pub starts : IsLineStart input place
  pub line : StartsWith (drop place input) MARK.now

-- a mark stands at the place, and none before it
pub record IsFirstMark (input : List ℕ) (place : ℕ) : Type 0 where
  pub mark : IsMarkAt input place
  pub first : (other : ℕ) → IsMarkAt input other → place ≤ other

-- the input is what is before its first mark, the mark, and what is after it
pub record IsCut (input before after : List ℕ) : Type 0 where
  pub whole : input ≡ before ++ (MARK.now ++ after)
  pub first : IsFirstMark input (length before)

-- the input has no mark
abbrev pub HasNoMark : List ℕ → Type 0
HasNoMark input = (place : ℕ) → ¬ IsMarkAt input place

-- the program that stands before a mark: all bytes but the line feed that ends its last line
abbrev pub program_before : List ℕ → List ℕ
program_before before = take (length before - 1) before

-- the input is a program, its first mark, and the rest
abbrev pub AreTwoParts : List ℕ → List ℕ → List ℕ → Type 0
AreTwoParts input program last = (before : List ℕ) × IsCut input before last × (program ≡ program_before before)

-- the input is a program, and its rest is a part, its first mark, and a last part
abbrev pub AreThreeParts : List ℕ → List ℕ → List ℕ → List ℕ → Type 0
AreThreeParts input program middle last = (rest : List ℕ) × AreTwoParts input program rest × IsCut rest middle last

-- the number, from 1, of the line at which the last bytes of the input begin
abbrev pub IsNumbered : List ℕ → List ℕ → ℕ → Type 0
IsNumbered input last line = (before : List ℕ) × (input ≡ before ++ last) × (line ≡ 1 + count_by (λ b. b == 10) before)
