-- Steps that pass a limit: how many smallest configurations they have, and how great these are.
use Rattle.std.specs.Prelude.{◌≡◌, ℕ, ◌<◌, ◌≤◌, ◌+◌, List, length, map, Contains}
use Rattle.std.specs.Cmp.Lexicographic.{slice_cmp}
use Rattle.std.specs.List.Sorted.{IsStrictlyIncreasing, IsStrictlySortedBy}
use Rattle.std.specs.declared.cmp.Ordering.TheVariants.{Less}
use Rattle.ps_atom.specs.Atoms.{atom_cmp}
use Rattle.ps_config.specs.Configurations.{Configuration}
use Rattle.ps_config.specs.Forms.{HasThreadCount}
use Rattle.ps_config.specs.declared.config.TheConstants.{MOST_ATOMS, MOST_THREADS}
use Rattle.ps_config.specs.declared.wide.WideName.{WideName}
use Rattle.ps_config.specs.declared.wide.WideName.TheVariants.{Sets, Atoms, Threads}
use Rattle.ps_config.specs.declared.wide.WideStep.{WideStep}
use Rattle.ps_graph.specs.declared.graph.Graph.{Graph}
use Rattle.ps_step.specs.Steps.{IsSmallest}
use Rattle.ps_step.specs.Successors.{IsTried, step_cmp}
use Rattle.ps_step.specs.declared.expand_end.ExpandEnd.{ExpandEnd}
use Rattle.ps_step.specs.declared.expand_end.ExpandEnd.TheVariants.{Wide, Memory}
use Rattle.ps_step.specs.declared.expand_end.TheConstants.{MOST_SETS}
use Rattle.ps_triple.specs.declared.entry.Entry.{Entry}

-- a smallest configuration of the step, written in order: threads ascend, each with one location, and so do the atoms
pub record IsWrittenStep (graph : Graph) (entries : List Entry) (from : Configuration) (number thread : ℕ) (to : Configuration) : Type 0 where
  pub smallest : IsSmallest graph entries from number thread to
  pub located : IsStrictlyIncreasing (map (λ (p : ℕ × ℕ). p.0) to.at)
  pub ordered : IsStrictlySortedBy atom_cmp to.atoms

-- there are more than so many smallest configurations of the step
pub record HasMoreThan (most : ℕ) (graph : Graph) (entries : List Entry) (from : Configuration) (number thread : ℕ) : Type 0 where
  pub list : List Configuration
  pub are : (to : Configuration) → Contains list to → IsWrittenStep graph entries from number thread to
  pub ordered : IsStrictlySortedBy (λ (a b : Configuration). slice_cmp atom_cmp a.atoms b.atoms) list
  pub more : most < length list

-- of the smallest configurations of the step, in the order of their atoms, the first whose size is above the most has
-- this size
pub record IsFirstAbove (most : ℕ) (HasSize : Configuration → ℕ → Type 0) (graph : Graph) (entries : List Entry) (from : Configuration) (number thread size : ℕ) : Type 0 where
  pub to : Configuration
  pub written : IsWrittenStep graph entries from number thread to
  pub is : HasSize to size
  pub above : most < size
  pub before : (c : Configuration) (n : ℕ) → IsWrittenStep graph entries from number thread c →
      slice_cmp atom_cmp c.atoms to.atoms ≡ Less → HasSize c n → n ≤ most

abbrev pub HasAtoms : Configuration → ℕ → Type 0
HasAtoms c count = length c.atoms ≡ count

-- the step has too many of what is named, so many: smallest configurations, of which one more than the most are counted;
-- or else atoms in one of these; or else threads in one of these
abbrev pub IsWideBy : Graph → List Entry → Configuration → ℕ → ℕ → WideName → ℕ → Type 0
IsWideBy graph entries from number thread Sets count =
    HasMoreThan MOST_SETS graph entries from number thread × (count ≡ MOST_SETS + 1)
IsWideBy graph entries from number thread Atoms count =
    (¬ HasMoreThan MOST_SETS graph entries from number thread)
    × IsFirstAbove MOST_ATOMS HasAtoms graph entries from number thread count
IsWideBy graph entries from number thread Threads count =
    (¬ HasMoreThan MOST_SETS graph entries from number thread)
    × ((to : Configuration) → IsWrittenStep graph entries from number thread to → length to.atoms ≤ MOST_ATOMS)
    × IsFirstAbove MOST_THREADS HasThreadCount graph entries from number thread count

-- the step passes no limit
abbrev pub IsNarrow : Graph → List Entry → Configuration → ℕ → ℕ → Type 0
IsNarrow graph entries from number thread = (what : WideName) (count : ℕ) → ¬ IsWideBy graph entries from number thread what count

-- no step that is tried passes a limit
abbrev pub AreNarrow : Graph → List Entry → Configuration → ℕ → Type 0
AreNarrow graph entries from fresh = (number thread : ℕ) → IsTried from fresh thread → IsNarrow graph entries from number thread

-- the step is the first of those that are tried that passes a limit
pub record IsFirstWide (graph : Graph) (entries : List Entry) (from : Configuration) (fresh : ℕ) (step : WideStep) : Type 0 where
  pub tried : IsTried from fresh step.thread
  pub wide : IsWideBy graph entries from step.edge step.thread step.what step.count
  pub before : (number thread : ℕ) → IsTried from fresh thread →
      step_cmp fresh number thread step.edge step.thread ≡ Less → IsNarrow graph entries from number thread

-- the fact holds of the step that is too wide; of want of memory nothing is said
abbrev pub StepEndsBy : (WideStep → Type 0) → ExpandEnd → Type 0
StepEndsBy P (Wide step) = P step
StepEndsBy P (Memory _) = Unit {0}
