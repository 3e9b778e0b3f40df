-- Hitting sets that are looked for branch by branch.
use Rattle.std.specs.Prelude.{◌≡◌, ℕ, ◌≤◌, ◌<◌, ◌+◌, ◌*◌, List, [], ◌∷◌, ◌++◌, length, drop, Contains, Option, Some, None, slice_get}
use Rattle.ps_atom.specs.declared.atom.Atom.{Atom}
use Rattle.ps_check.specs.declared.branches.Branch.{Branch}
use Rattle.ps_config.specs.Configurations.{Configuration}
use Rattle.ps_demand.specs.Hitting.{HitsAll, MeetsSet}
use Rattle.ps_step.specs.Closed.{IsCovered}

-- with these located threads, whatever hits all sets is covered
abbrev pub AreHitsCovered : List Configuration → List (ℕ × ℕ) → List (List Atom) → Type 0
AreHitsCovered configurations at sets = (atoms : List Atom) → HitsAll sets atoms →
    IsCovered configurations (record { at = at; atoms = atoms })

-- something hits all sets and isn't covered
abbrev pub HasUncoveredHit : List Configuration → List (ℕ × ℕ) → List (List Atom) → Type 0
HasUncoveredHit configurations at sets = (atoms : List Atom) × HitsAll sets atoms
    × ¬ IsCovered configurations (record { at = at; atoms = atoms })

-- the atoms have one of each set from this one on, or before it
abbrev pub MeetsFrom : List (List Atom) → ℕ → List Atom → Type 0
MeetsFrom sets next atoms = (k : ℕ) (set : List Atom) → next ≤ k → slice_get sets k ≡ Some set → MeetsSet atoms set

abbrev pub MeetsBefore : List (List Atom) → ℕ → List Atom → Type 0
MeetsBefore sets next atoms = (k : ℕ) (set : List Atom) → k < next → slice_get sets k ≡ Some set → MeetsSet atoms set

-- the first set from this one on that the atoms don't meet: all that come before it are met; or all are
abbrev pub IsNextUnmet : List (List Atom) → List Atom → ℕ → Option ℕ → Type 0
IsNextUnmet sets atoms from None = MeetsFrom sets from atoms
IsNextUnmet sets atoms from (Some place) = (from ≤ place)
    × ((k : ℕ) (set : List Atom) → from ≤ k → k < place → slice_get sets k ≡ Some set → MeetsSet atoms set)

-- a branch with one atom more, for the sets from this one on
abbrev pub IsChild : List Atom → ℕ → Atom → Branch → Type 0
IsChild chosen next atom branch = (branch.chosen.items ≡ chosen ++ atom ∷ []) × (branch.next ≡ next)

-- a branch for each of the atoms was added
pub record AddsBranches (chosen : List Atom) (next : ℕ) (set : List Atom) (old new : List Branch) : Type 0 where
  pub more : List Branch
  pub added : new ≡ old ++ more
  pub many : length more ≡ length set
  pub each : (atom : Atom) → Contains set atom → (b : Branch) × Contains more b × IsChild chosen next atom b
  pub only : (b : Branch) → Contains more b → (atom : Atom) × Contains set atom × IsChild chosen next atom b

-- how much is left to do for sets, and for the branches that wait
abbrev pub work : List (List Atom) → ℕ
work [] = 1
work (set ∷ sets) = 1 + (1 + length set) * work sets

abbrev pub works : List (List Atom) → List Branch → ℕ
works sets [] = 0
works sets (b ∷ waiting) = work (drop b.next sets) + works sets waiting
