-- The least hitting sets of demands, as lists of atoms.
use Rattle.std.specs.Prelude.{ℕ, ◌<◌, ◌≤◌, List, length, Contains}
use Rattle.std.specs.Cmp.Lexicographic.{slice_cmp}
use Rattle.std.specs.List.Sorted.{IsStrictlySortedBy}
use Rattle.ps_atom.specs.Atoms.{atom_cmp}
use Rattle.ps_atom.specs.declared.atom.Atom.{Atom}
use Rattle.ps_demand.specs.Hitting.{IsLeastHit}
use Rattle.ps_demand.specs.Pools.{HasEach, lists_of}
use Rattle.ps_step.specs.declared.found.Found.{Found}
use Rattle.ps_step.specs.declared.found.Found.TheVariants.{All, TooMany}

-- each is a least hitting set, ascending, and they are in order
pub record AreLeast (demands : List (List Atom)) (list : List (List Atom)) : Type 0 where
  pub least : (atoms : List Atom) → Contains list atoms → IsLeastHit demands atoms
  pub ascend : (atoms : List Atom) → Contains list atoms → IsStrictlySortedBy atom_cmp atoms
  pub ordered : IsStrictlySortedBy (slice_cmp atom_cmp) list

-- they are all
abbrev pub AreAllLeast : List (List Atom) → List (List Atom) → Type 0
AreAllLeast demands list = (atoms : List Atom) → IsLeastHit demands atoms → (set : List Atom) × Contains list set × HasEach set atoms × HasEach atoms set

-- all of at most so many, or more than so many
abbrev pub IsFound : List (List Atom) → ℕ → Found → Type 0
IsFound demands most (All sets) = AreLeast demands (lists_of sets.items) × AreAllLeast demands (lists_of sets.items) × (length (lists_of sets.items) ≤ most)
IsFound demands most TooMany = (list : List (List Atom)) × AreLeast demands list × (most < length list)
