-- Hitting sets of a list of sets, and the minimal ones.
use Rattle.std.specs.Prelude.{ℕ, List, map, All, Contains}
use Rattle.std.specs.declared.vec.Vec.{Vec}
use Rattle.std.specs.List.Sorted.{IsStrictlyIncreasing}

-- the sets as plain lists of numbers
abbrev pub numbers_of : {A : Type 0} → List (Vec ℕ A) → List (List ℕ)
numbers_of sets = map (λ set. set.items) sets

-- the two have a number in common
abbrev pub Meets : List ℕ → List ℕ → Type 0
Meets xs ys = (n : ℕ) × Contains xs n × Contains ys n

-- each number of the first is one of the second
abbrev pub IsSubset : List ℕ → List ℕ → Type 0
IsSubset xs ys = (n : ℕ) → Contains xs n → Contains ys n

-- a subset that lacks some number
abbrev pub IsStrictSubset : List ℕ → List ℕ → Type 0
IsStrictSubset xs ys = IsSubset xs ys × ¬ IsSubset ys xs

-- a hitting set meets each of the sets
abbrev pub IsHit : List (List ℕ) → List ℕ → Type 0
IsHit sets hit = All (Meets hit) sets

-- a minimal one is a hitting set none of whose strict subsets is one
pub record IsMinimalHit (sets : List (List ℕ)) (hit : List ℕ) : Type 0 where
  pub hits : IsHit sets hit
  pub minimal : (part : List ℕ) → IsStrictSubset part hit → ¬ IsHit sets part

-- a minimal hitting set, written as the one ascending list of its numbers
pub record IsListedHit (sets : List (List ℕ)) (hit : List ℕ) : Type 0 where
  pub is_minimal : IsMinimalHit sets hit
  pub ascends : IsStrictlyIncreasing hit
