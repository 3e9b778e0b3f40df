-- Bits in words of 64, the bit of the first place lowest.
use Rattle.std.specs.Prelude.{◌≡◌, ◌≢◌, ◌≤◌, ◌/◌, ◌%◌, ◌==◌, ℕ, Bool, List, length, map, slice_index, if◌then◌else◌}
use Rattle.std.specs.Int.{bit_at, div_ceil}
use Rattle.std.specs.List.{range_with_len}

-- the bit of a place, which is 0 past the last word
abbrev pub bit_of : List ℕ → ℕ → ℕ
bit_of words place = bit_at (slice_index words (place / 64)) (place % 64)

-- for each of so many places, whether its bit is set
abbrev pub bits_of : List ℕ → ℕ → List Bool
bits_of words places = map (λ k. bit_of words k == 1) (range_with_len 0 places)

-- there are just enough words for so many places, and no bit past them is set
pub record HasPlaces (words : List ℕ) (places : ℕ) : Type 0 where
  pub enough : length words ≡ div_ceil places 64
  pub none_past : (k : ℕ) → places ≤ k → bit_of words k ≡ 0

-- just enough words, with the bits of the entries that aren't 0 set, and no others
pub record AreWordsOf (vector words : List ℕ) : Type 0 where
  pub enough : length words ≡ div_ceil (length vector) 64
  pub bits : (k : ℕ) → bit_of words k ≡ (if slice_index vector k == 0 then 0 else 1)

-- the bit of the place is set, and the others are as they were
pub record IsMarked (old new : List ℕ) (place : ℕ) : Type 0 where
  pub here : bit_of new place ≡ 1
  pub others : (k : ℕ) → k ≢ place → bit_of new k ≡ bit_of old k

-- each bit that is set in the first is set in the second
abbrev pub IsPartOf : List ℕ → List ℕ → Type 0
IsPartOf words others = (k : ℕ) → bit_of words k ≤ bit_of others k
