-- The atoms of sets, listed and numbered.
use Rattle.std.specs.Prelude.{◌≡◌, ◌<◌, ℕ, List, map, length, Contains}
use Rattle.std.specs.declared.vec.Vec.{Vec}
use Rattle.ps_atom.specs.declared.atom.Atom.{Atom}
use Rattle.ps_demand.specs.Numbered.{named}
use Rattle.ps_demand.specs.declared.ranked.Ranked.{Ranked}

-- the sets as plain lists
abbrev pub lists_of : {X A : Type 0} → List (Vec X A) → List (List X)
lists_of sets = map (λ set. set.items) sets

-- the atoms as they stand
abbrev pub atoms_of : List Ranked → List Atom
atoms_of list = map (λ (r : Ranked). r.atom) list

-- the pool has each atom
abbrev pub HasEach : List Atom → List Atom → Type 0
HasEach pool set = (q : Atom) → Contains set q → Contains pool q

-- the pool has each atom of each set
abbrev pub HasAll : List Atom → List (List Atom) → Type 0
HasAll pool sets = (set : List Atom) → Contains sets set → HasEach pool set

-- what was there is there, and the atoms too
pub record Adds (atoms old new : List Atom) : Type 0 where
  pub stays : HasEach new old
  pub added : HasEach new atoms

-- the numbers are the places of the atoms
pub record ArePlaces (pool set : List Atom) (places : List ℕ) : Type 0 where
  pub within : (n : ℕ) → Contains places n → n < length pool
  pub are : named pool places ≡ set

-- each number is a place of the pool
abbrev pub AreOfPool : List Atom → List ℕ → Type 0
AreOfPool pool places = (n : ℕ) → Contains places n → n < length pool
