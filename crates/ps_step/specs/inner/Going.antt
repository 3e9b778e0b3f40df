-- Tests of whether a step goes back.
use Rattle.std.specs.Prelude.{ℕ, Bool, false, not, ◌&&◌, ◌||◌, ◌==◌, List, if◌then◌else◌, Option, Some, None}
use Rattle.std.specs.List.{list_all, list_any}
use Rattle.ps_graph.specs.Facts.{owner_of}
use Rattle.ps_graph.specs.declared.graph.Graph.{Graph}

-- the body is this one
abbrev pub is_body : ℕ → Option ℕ → Bool
is_body body None = false
is_body body (Some number) = number == body

-- the owner of a location is the body that at most one thread runs
abbrev pub of_once : Option ℕ → Option ℕ → Bool
of_once None owner = false
of_once (Some body) owner = is_body body owner

-- each thread at a location of that body is this one
abbrev pub is_only_thread : Graph → List (ℕ × ℕ) → ℕ → Bool
is_only_thread graph at thread = list_all (λ (p : ℕ × ℕ). not (of_once graph.once (owner_of graph.owner p.1)) || p.0 == thread) at

-- each thread at a location of that body is the only one
abbrev pub are_alone : Graph → List (ℕ × ℕ) → Bool
are_alone graph at = list_all (λ (p : ℕ × ℕ). not (of_once graph.once (owner_of graph.owner p.1)) || is_only_thread graph at p.0) at

-- the thread is at the target, or at no location
abbrev pub may_move : List (ℕ × ℕ) → ℕ → ℕ → Bool
may_move at thread target =
    list_any (λ (p : ℕ × ℕ). p.0 == thread && p.1 == target) at || not (list_any (λ (p : ℕ × ℕ). p.0 == thread) at)

-- the thread is at the location
abbrev pub is_at : List (ℕ × ℕ) → ℕ → ℕ → Bool
is_at at thread location = list_any (λ (p : ℕ × ℕ). p.0 == thread && p.1 == location) at

-- the others are still where they were
abbrev pub stay : List (ℕ × ℕ) → ℕ → List (ℕ × ℕ) → Bool
stay from thread to = list_all (λ (p : ℕ × ℕ). p.0 == thread || is_at to p.0 p.1) from

-- the thread is at the source alone, and each other one where it was
abbrev pub came_from : List (ℕ × ℕ) → ℕ → ℕ → List (ℕ × ℕ) → Bool
came_from from thread source to = list_all (λ (p : ℕ × ℕ). if p.0 == thread then p.1 == source else is_at from p.0 p.1) to

abbrev pub is_moved : List (ℕ × ℕ) → ℕ → ℕ → List (ℕ × ℕ) → Bool
is_moved from thread source to = is_at to thread source && stay from thread to && came_from from thread source to
