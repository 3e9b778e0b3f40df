-- What a test of letters, one after another, asks of them.
use Rattle.std.specs.Prelude.{◌≡◌, ℕ, ◌<◌, ◌≤◌, Bool, true, false, ◌&&◌, List, [], ◌∷◌, ◌++◌, length, take, slice_get, slice_index_or, Option, option_map, unwrap_or, IsTrue, IsFalse}
use Rattle.std.specs.Option.{option_and_then}
use Rattle.ps_graph.specs.ErrorTrace.{BeginsOnce, RunsBody, edges_of, is_path}
use Rattle.ps_graph.specs.declared.edge.Edge.{Edge}
use Rattle.ps_graph.specs.declared.graph.Graph.{Graph}

-- each thread's edges are a path from the entry of one body
abbrev pub ArePaths : Graph → List (ℕ × ℕ) → Type 0
ArePaths graph letters = (k : ℕ) → (body : ℕ) × RunsBody graph letters k body

-- at most one thread begins at the entry of the `once` body
abbrev pub BeginOnceAtMost : Graph → List (ℕ × ℕ) → Type 0
BeginOnceAtMost graph letters = (j k : ℕ) → BeginsOnce graph letters j → BeginsOnce graph letters k → j ≡ k

-- the second edge leaves the target of the first
abbrev pub links : List Edge → ℕ → ℕ → Bool
links edges m n = unwrap_or (option_map (λ (d : Edge). is_path edges d.target (n ∷ [])) (slice_get edges m)) false

-- the list's last number
abbrev pub EndsIn : List ℕ → ℕ → Type 0
EndsIn ns n = (ms : List ℕ) × (ns ≡ ms ++ n ∷ [])

abbrev pub is_empty : List ℕ → Bool
is_empty [] = true
is_empty (_ ∷ _) = false

-- the entry of the `once` body, if there is one
abbrev pub once_entry : Option ℕ → List ℕ → Option ℕ
once_entry once entries = option_and_then (slice_get entries) once

-- the letter at a place
abbrev pub letter_at : List (ℕ × ℕ) → ℕ → ℕ × ℕ
letter_at letters i = slice_index_or letters i (0, 0)

-- the letter at the place is the first of its thread, and leaves the location
abbrev pub starts : List Edge → ℕ → List (ℕ × ℕ) → ℕ → Bool
starts edges a letters i =
    is_path edges a ((letter_at letters i).1 ∷ []) && is_empty (edges_of (letter_at letters i).0 (take i letters))

-- no letter from one place to before another does
abbrev pub NoneStarts : List Edge → ℕ → List (ℕ × ℕ) → ℕ → ℕ → Type 0
NoneStarts edges a letters from to = (i : ℕ) → from ≤ i → i < to → IsFalse (starts edges a letters i)

-- the first letter that does, from a place on
pub record IsNextStart (edges : List Edge) (a : ℕ) (letters : List (ℕ × ℕ)) (from place : ℕ) : Type 0 where
  pub from_there : from ≤ place
  pub within : place < length letters
  pub none : NoneStarts edges a letters from place
  pub starts_there : IsTrue (starts edges a letters place)

-- at most one letter does
abbrev pub StartAtMostOnce : List Edge → ℕ → List (ℕ × ℕ) → Type 0
StartAtMostOnce edges a letters =
    (i j : ℕ) → i < length letters → j < length letters → IsTrue (starts edges a letters i) → IsTrue (starts edges a letters j) → i ≡ j
