-- What the parts of a walk find, over the map of the values so far.
use Rattle.std.specs.Prelude.{◌≡◌, ◌↔◌, ℕ, ℤ, pos, ◌≤ℤ◌, ◌<ℤ◌, List, All, Option, Some, None, unwrap_or}
use Rattle.std.specs.BTreeMap.{BTreeMap}
use Rattle.std.specs.BTreeMap as tree
use Rattle.std.specs.declared.cmp.Ordering.{Ordering}
use Rattle.ps_term.specs.declared.row.Row.{Row}
use Rattle.ps_term.specs.declared.var.Var.{Var}
use Rattle.ps_term.specs.contracts.var.VarOrd.TheImpl as var_ord
use Rattle.ps_term.specs.Pairs.{coefficient}
use Rattle.ps_walk.specs.Bounds.{Allows, HoldsWith, IsLower, IsNearest, IsUpper, LowerRowsHold, StageFits, UpperRowsHold}
use Rattle.ps_walk.specs.Rows.{Fails, FirstAt, IsPast, PassesRow}
use Rattle.ps_walk.specs.Values.{with_number, without}
use Rattle.ps_walk.specs.declared.bound.RowBound.{RowBound}
use Rattle.ps_walk.specs.declared.bound.RowBound.TheVariants.{Free, AtLeast, AtMost}
use Rattle.ps_walk.specs.declared.bounds.Bounds.{Bounds}
use Rattle.ps_walk.specs.declared.ending.Ending.{Ending}
use Rattle.ps_walk.specs.declared.ending.Ending.TheVariants.{Holds, Misses, Past128 as RowPast}
use Rattle.ps_walk.specs.declared.finding.Finding.{Finding}
use Rattle.ps_walk.specs.declared.finding.Finding.TheVariants.{Value, Nothing, Past128}

-- the order of variables
abbrev pub var_cmp : Var → Var → Ordering
var_cmp = (var_ord.ghosts).cmp

-- the value that the map has for a variable, or 0
abbrev pub found_values : BTreeMap Var ℤ → Var → ℤ
found_values found x = unwrap_or (tree.get var_cmp found x) (pos 0)

-- the pairs but for those of the variable, if one is left out
abbrev pub others : Option Var → List (Var × ℤ) → List (Var × ℤ)
others None ps = ps
others (Some x) ps = without x ps

-- the values, with 0 for the variable, if one is left out
abbrev pub values_beside : Option Var → (Var → ℤ) → Var → ℤ
values_beside None values = values
values_beside (Some x) values = with_number x (pos 0) values

-- the bound that the row gives to the variable
abbrev pub IsRowBound : (Var → ℤ) → Var → Row → RowBound → Type 0
IsRowBound values x r Free = coefficient x r.term.pairs ≡ pos 0
IsRowBound values x r (AtLeast l) = (coefficient x r.term.pairs <ℤ pos 0) × ((n : ℤ) → HoldsWith values x r n ↔ (l ≤ℤ n))
IsRowBound values x r (AtMost u) = (pos 0 <ℤ coefficient x r.term.pairs) × ((n : ℤ) → HoldsWith values x r n ↔ (n ≤ℤ u))

-- the lower bound that it is, if it is one, and the upper one
abbrev pub lower_of : RowBound → Option ℤ
lower_of Free = None
lower_of (AtLeast l) = Some l
lower_of (AtMost u) = None

abbrev pub upper_of : RowBound → Option ℤ
upper_of Free = None
upper_of (AtLeast l) = None
upper_of (AtMost u) = Some u

-- the number isn't below the bound, or above it, if there is one
abbrev pub IsAtLeast : Option ℤ → ℤ → Type 0
IsAtLeast None n = Unit {0}
IsAtLeast (Some l) n = l ≤ℤ n

abbrev pub IsAtMost : Option ℤ → ℤ → Type 0
IsAtMost None n = Unit {0}
IsAtMost (Some u) n = n ≤ℤ u

abbrev pub IsBetween : Bounds → ℤ → Type 0
IsBetween b n = IsAtLeast b.lower n × IsAtMost b.upper n

-- the bounds that the rows give to the variable
pub record AreBounds (values : Var → ℤ) (x : Var) (rows : List Row) (b : Bounds) : Type 0 where
  pub lower : (n : ℤ) → LowerRowsHold values x rows n ↔ IsAtLeast b.lower n
  pub upper : (n : ℤ) → UpperRowsHold values x rows n ↔ IsAtMost b.upper n

-- what the bounds leave
abbrev pub IsChoice : Bounds → Finding → Type 0
IsChoice b (Value n) = IsNearest (IsBetween b) n
IsChoice b (Nothing l u) = (b.lower ≡ Some l) × (b.upper ≡ Some u) × (u <ℤ l)
IsChoice b Past128 = ⊥

-- what the rows of a stage leave
abbrev pub IsFinding : (Var → ℤ) → Var → List Row → Finding → Type 0
IsFinding values x rows (Value n) = StageFits values x rows × IsNearest (Allows values x rows) n
IsFinding values x rows (Nothing l u) = StageFits values x rows × IsLower values x rows l × IsUpper values x rows u × (u <ℤ l)
IsFinding values x rows Past128 = ¬ StageFits values x rows

-- what the given rows come to
abbrev pub IsEnding : (Var → ℤ) → List Row → Ending → Type 0
IsEnding values rows Holds = All (PassesRow values) rows
IsEnding values rows (Misses row) = FirstAt Fails values rows row
IsEnding values rows RowPast = (n : ℕ) × FirstAt IsPast values rows n
