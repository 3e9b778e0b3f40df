-- Which threads have a location, as the code tests it.
use Rattle.std.specs.Prelude.{ℕ, Bool, List, ◌==◌}
use Rattle.std.specs.List.{list_any, list_all}
use Rattle.ps_atom.specs.declared.atom.Atom.{Atom}

-- the thread has a location
abbrev pub is_located : List (ℕ × ℕ) → ℕ → Bool
is_located at thread = list_any (λ (p : ℕ × ℕ). p.0 == thread) at

-- each of the threads has one
abbrev pub are_located : List (ℕ × ℕ) → List ℕ → Bool
are_located at threads = list_all (λ (t : ℕ). is_located at t) threads

-- each thread of an atom has one
abbrev pub are_all_located : List (ℕ × ℕ) → List Atom → Bool
are_all_located at atoms = list_all (λ (q : Atom). are_located at q.threads) atoms
