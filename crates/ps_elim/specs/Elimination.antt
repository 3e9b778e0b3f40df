-- The answer of an elimination.
use Rattle.std.specs.Prelude.{◌≡◌, ◌≤◌, ◌<◌, ◌≤ℤ◌, ℕ, pos, IsTrue, List, All, Contains}
use Rattle.ps_elim.specs.Combining.{AllFit, width}
use Rattle.ps_elim.specs.Stages.{AllPass, AreStages, StopsAtStage, first_set, set_after, variables}
use Rattle.ps_elim.specs.Supports.{is_less}
use Rattle.ps_elim.specs.Vectors.{constant_under}
use Rattle.ps_elim.specs.declared.limits.TheConstants.{MOST_VECTORS}
use Rattle.ps_elim.specs.declared.answer.Elim.{Elim}
use Rattle.ps_elim.specs.declared.answer.Elim.TheVariants.{Refuted, Stages, Past128, TooWide}
use Rattle.ps_elim.specs.declared.stage.Stage.{Stage}
use Rattle.ps_term.specs.declared.row.Row.{Row}

-- the set that is left after the last variable
abbrev pub last_set : List Row → List (List ℕ)
last_set rows = set_after rows (first_set rows) (variables rows)

-- every stage passes
abbrev pub Ends : List Row → Type 0
Ends rows = AllPass rows (first_set rows) (variables rows)

-- of the vectors of the last set whose row has a positive constant, the lexicographically least
pub record IsLeastRefutation (rows : List Row) (v : List ℕ) : Type 0 where
  pub is_last : Contains (last_set rows) v
  pub positive : pos 1 ≤ℤ constant_under rows v
  pub least : (u : List ℕ) → Contains (last_set rows) u → pos 1 ≤ℤ constant_under rows u → ¬ IsTrue (is_less u v)

-- no vector of the last set has a row with a positive constant
abbrev pub HasNoRefutation : List Row → Type 0
HasNoRefutation rows = All (λ v. constant_under rows v ≤ℤ pos 0) (last_set rows)

-- the stage of this number is made of too many vectors
abbrev pub IsTooWide : List Row → ℕ → ℕ → Type 0
IsTooWide rows stage count =
    StopsAtStage (λ vs x. (MOST_VECTORS < width rows x vs) × (count ≡ width rows x vs)) rows (first_set rows) (variables rows) stage

-- the stage of this number isn't, but some number of its making leaves 128 bits
abbrev pub LeavesRange : List Row → ℕ → Type 0
LeavesRange rows stage =
    StopsAtStage (λ vs x. (width rows x vs ≤ MOST_VECTORS) × ¬ AllFit rows x vs) rows (first_set rows) (variables rows) stage

-- the stages of the rows, without a refutation at their end
pub record AreStagesOf (rows : List Row) (stages : List Stage) : Type 0 where
  pub ends : Ends rows
  pub made : AreStages rows (first_set rows) (variables rows) stages
  pub unrefuted : HasNoRefutation rows

-- the answer to these rows
abbrev pub IsElimination : List Row → Elim → Type 0
IsElimination rows (Refuted v) = Ends rows × IsLeastRefutation rows v
IsElimination rows (Stages stages) = AreStagesOf rows stages
IsElimination rows (Past128 stage) = LeavesRange rows stage
IsElimination rows (TooWide stage count) = IsTooWide rows stage count
