-- The least sets of atoms of a step as successors, and the limits that they pass.
use Rattle.std.specs.Prelude.{◌≡◌, ℕ, ◌<◌, ◌≤◌, ◌+◌, List, ◌∷◌, ◌++◌, length, map, Contains, Option, Some, None}
use Rattle.ps_atom.specs.declared.atom.Atom.{Atom}
use Rattle.ps_config.specs.Forms.{HasThreadCount}
use Rattle.ps_config.specs.declared.config.TheConstants.{MOST_ATOMS, MOST_THREADS}
use Rattle.ps_config.specs.declared.wide.WideName.{WideName}
use Rattle.ps_config.specs.declared.wide.WideName.TheVariants.{Sets, Atoms, Threads}
use Rattle.ps_config.specs.declared.wide.WideStep.{WideStep}
use Rattle.ps_step.specs.declared.expand_end.TheConstants.{MOST_SETS}
use Rattle.ps_step.specs.declared.expansion.Successor.{Successor}
use Rattle.ps_step.specs.inner.Found.{AreLeast, AreAllLeast}

-- of some sets in order, the first whose size is above the most has this size; or none has such a size
abbrev pub IsFirstOver : ℕ → (List Atom → ℕ → Type 0) → List (List Atom) → Option ℕ → Type 0
IsFirstOver most HasSize sets None = (set : List Atom) → Contains sets set → (n : ℕ) × HasSize set n × (n ≤ most)
IsFirstOver most HasSize sets (Some size) =
    (before : List (List Atom)) × (set : List Atom) × (after : List (List Atom))
    × (before ++ set ∷ after ≡ sets) × HasSize set size × (most < size)
    × ((other : List Atom) → Contains before other → (n : ℕ) × HasSize other n × (n ≤ most))

abbrev pub HasLength : List Atom → ℕ → Type 0
HasLength set n = length set ≡ n

-- with these locations
abbrev pub HasThreadsWith : List (ℕ × ℕ) → List Atom → ℕ → Type 0
HasThreadsWith at set n = HasThreadCount (record { at = at; atoms = set }) n

-- the sets pass a limit of configurations
abbrev pub IsPastBy : List (ℕ × ℕ) → List (List Atom) → WideName → ℕ → Type 0
IsPastBy at sets Sets count = ⊥
IsPastBy at sets Atoms count = IsFirstOver MOST_ATOMS HasLength sets (Some count)
IsPastBy at sets Threads count =
    IsFirstOver MOST_ATOMS HasLength sets None × IsFirstOver MOST_THREADS (HasThreadsWith at) sets (Some count)

-- they pass no limit
abbrev pub IsWithin : List (ℕ × ℕ) → List (List Atom) → Type 0
IsWithin at sets = IsFirstOver MOST_ATOMS HasLength sets None × IsFirstOver MOST_THREADS (HasThreadsWith at) sets None

-- a set at these locations as a successor
abbrev pub successor_of : ℕ → ℕ → List (ℕ × ℕ) → List Atom → Successor
successor_of number thread at set = record { edge = number; thread = thread; config = record { at = at; atoms = set } }

-- all least sets that meet the demands, at most so many
pub record AreAllOf (demands : List (List Atom)) (sets : List (List Atom)) : Type 0 where
  pub least : AreLeast demands sets
  pub all : AreAllLeast demands sets
  pub few : length sets ≤ MOST_SETS

-- they were added
pub record AddsSets (demands : List (List Atom)) (at : List (ℕ × ℕ)) (number thread : ℕ) (old new : List Successor) : Type 0 where
  pub sets : List (List Atom)
  pub are : AreAllOf demands sets
  pub within : IsWithin at sets
  pub added : new ≡ old ++ map (successor_of number thread at) sets

-- they pass a limit, or there are too many
abbrev pub IsWideOf : List (List Atom) → List (ℕ × ℕ) → WideName → ℕ → Type 0
IsWideOf demands at Sets count = (list : List (List Atom)) × AreLeast demands list × (MOST_SETS < length list) × (count ≡ MOST_SETS + 1)
IsWideOf demands at Atoms count = (sets : List (List Atom)) × AreAllOf demands sets × IsPastBy at sets Atoms count
IsWideOf demands at Threads count = (sets : List (List Atom)) × AreAllOf demands sets × IsPastBy at sets Threads count

-- the step is named, with what it passes
abbrev pub IsNamed : ℕ → ℕ → (WideName → ℕ → Type 0) → WideStep → Type 0
IsNamed number thread P step = (step.edge ≡ number) × (step.thread ≡ thread) × P step.what step.count
