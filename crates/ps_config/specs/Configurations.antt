-- Configurations, and which cover which.
use Rattle.std.specs.Prelude.{ℕ, List, ◌++◌, map, Contains}
use Rattle.ps_atom.specs.Atoms.{IsInjectiveOn, renamed, threads_of}
use Rattle.ps_atom.specs.declared.atom.Atom.{Atom}

-- threads, each with its location, and atoms; both lists stand for sets
pub record Configuration : Type 0 where
  pub at : List (ℕ × ℕ)
  pub atoms : List Atom

-- the thread is at this location
abbrev pub IsAt : Configuration → ℕ → ℕ → Type 0
IsAt c thread location = Contains c.at (thread, location)

-- the threads that occur, with a location or in an atom
abbrev pub threads_at : Configuration → List ℕ
threads_at c = map (λ (p : ℕ × ℕ). p.0) c.at ++ threads_of c.atoms

-- the threads of the smaller one stay apart, each located one goes to one at its location, and each atom to an atom
pub record Embeds (smaller larger : Configuration) (to : ℕ → ℕ) : Type 0 where
  pub apart : IsInjectiveOn to (threads_at smaller)
  pub located : (thread location : ℕ) → IsAt smaller thread location → IsAt larger (to thread) location
  pub atoms : (q : Atom) → Contains smaller.atoms q → Contains larger.atoms (renamed to q)

-- some injection of the threads takes the smaller one into the larger one
abbrev pub Covers : Configuration → Configuration → Type 0
Covers smaller larger = (to : ℕ → ℕ) × Embeds smaller larger to
