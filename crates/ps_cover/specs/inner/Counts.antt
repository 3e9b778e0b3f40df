-- How many threads are at a location, and how many atoms a predicate has.
use Rattle.std.specs.Prelude.{◌≡◌, ℕ, ◌==◌, Bool, not, ◌&&◌, ◌||◌, nat_le, List, [], length, Contains}
use Rattle.std.specs.List.{filter, list_all, list_any}
use Rattle.ps_atom.specs.declared.atom.Atom.{Atom}
use Rattle.ps_config.specs.Configurations.{Configuration}

-- the threads at a location, and the atoms of a predicate
abbrev pub those_at : ℕ → List (ℕ × ℕ) → List (ℕ × ℕ)
those_at l at = filter (λ (p : ℕ × ℕ). p.1 == l) at

abbrev pub those_of : ℕ → List Atom → List Atom
those_of n atoms = filter (λ (q : Atom). q.predicate == n) atoms

-- atoms without threads are there
abbrev pub HasBare : Configuration → Configuration → Type 0
HasBare small large = (q : Atom) → Contains small.atoms q → q.threads ≡ [] → Contains large.atoms q

-- no more threads are at the location of the place
abbrev pub place_counts : List (ℕ × ℕ) → List (ℕ × ℕ) → ℕ × ℕ → Bool
place_counts small at p = nat_le (length (those_at p.1 small)) (length (those_at p.1 at))

abbrev pub is_bare : ℕ → Atom → Bool
is_bare predicate q = (q.predicate == predicate) && (length q.threads == 0)

-- no more atoms have the predicate of the atom, and if it has no threads it is there
abbrev pub atom_counts : List Atom → List Atom → Atom → Bool
atom_counts small atoms q = nat_le (length (those_of q.predicate small)) (length (those_of q.predicate atoms))
    && (not (length q.threads == 0) || list_any (is_bare q.predicate) atoms)

abbrev pub counts_allow : List (ℕ × ℕ) → List Atom → List (ℕ × ℕ) → List Atom → Bool
counts_allow small_at small_atoms at atoms = list_all (place_counts small_at at) small_at && list_all (atom_counts small_atoms atoms) small_atoms
