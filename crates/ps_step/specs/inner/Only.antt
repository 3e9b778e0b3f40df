-- The only least set where atoms that are alone in sets meet all.
use Rattle.std.specs.Prelude.{List, [], ◌∷◌, Contains}
use Rattle.std.specs.List.Sorted.{IsStrictlySortedBy}
use Rattle.ps_atom.specs.Atoms.{atom_cmp}
use Rattle.ps_atom.specs.declared.atom.Atom.{Atom}
use Rattle.ps_demand.specs.Hitting.{HitsAll}

-- the atom is alone in some set
abbrev pub IsAlone : List (List Atom) → Atom → Type 0
IsAlone sets q = Contains sets (q ∷ [])

-- it meets all sets, and each of its atoms is alone in one
pub record IsOnlySet (sets : List (List Atom)) (set : List Atom) : Type 0 where
  pub ascends : IsStrictlySortedBy atom_cmp set
  pub alone : (q : Atom) → Contains set q → IsAlone sets q
  pub hits : HitsAll sets set
