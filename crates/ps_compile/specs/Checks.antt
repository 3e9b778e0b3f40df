-- The limits of a body, as a list of checks in the order in which they are made.
use Rattle.std.specs.Prelude.{◌≡◌, ℕ, ◌+◌, ◌<◌, true, false, List, [], ◌∷◌, ◌++◌, map, length, ◌⊎◌}
use Rattle.std.specs.List.{AllByRecursion}
use Rattle.ps_command.specs.Form.{FormFits}
use Rattle.ps_command.specs.declared.op.Op.{Op}
use Rattle.ps_compile.specs.Layout.{Site}
use Rattle.ps_compile.specs.Ops.{ops_on, assumed_rows}
use Rattle.ps_compile.specs.declared.limits.TheConstants.{MOST_LOCATIONS, MOST_EDGES, MOST_ALTERNATIVES, MOST_PATHS, MOST_ROWS}
use Rattle.ps_graph.specs.Alternatives.{Bound, alternatives}
use Rattle.ps_graph.specs.Paths.{Act, paths_all}
use Rattle.ps_token.specs.declared.place.Place.{Place}
use Rattle.ps_tree.specs.declared.cond.Test.TheVariants.{Cond}
use Rattle.ps_tree.specs.declared.limit_name.LimitName.{LimitName}
use Rattle.ps_tree.specs.declared.limit_name.LimitName.TheVariants as limit
use Rattle.ps_tree.specs.declared.stmt.StmtKind.{StmtKind, Assume, Assert, Atomic', If', While', Row_of-Stmt, end_of-Stmt, more_of-Stmt}

-- what is checked: a number against the most, or whether the symbolic form of ops stays within 128 bits
pub data Measure : Type 0 where
  Counts : ℕ → ℕ → Measure
  Forms : List Op → Measure

-- a check of a limit, at a place of the text
pub record Check : Type 0 where
  pub place : Place
  pub limit : LimitName
  pub measure : Measure

-- the limit is exceeded
abbrev pub IsExceeded : Measure → Type 0
IsExceeded (Counts n most) = most < n
IsExceeded (Forms ops) = ¬ FormFits ops

-- no limit is exceeded
abbrev pub NoneIsExceeded : List Check → Type 0
NoneIsExceeded checks = AllByRecursion (λ (c : Check). ¬ IsExceeded c.measure) checks

-- of the limits that are exceeded this one, at this place, is the first
abbrev pub IsFirstExceeded : Place → LimitName → List Check → Type 0
IsFirstExceeded place name [] = ⊥
IsFirstExceeded place name (c ∷ checks) =
    (IsExceeded c.measure × (c.place ≡ place) × (c.limit ≡ name))
    ⊎ ((¬ IsExceeded c.measure) × IsFirstExceeded place name checks)

-- a number against the most
abbrev pub count_check : Place → LimitName → ℕ → ℕ → Check
count_check place name n most = record { place = place; limit = name; measure = Counts n most }

-- the alternatives that a statement needs: those of its condition, and of its negation
abbrev pub conditions : StmtKind → List (List (List Bound))
conditions (Assume c) = alternatives true c ∷ []
conditions (Assert c) = alternatives true c ∷ alternatives false c ∷ []
conditions (If' (Cond c) _ _ _ _) = alternatives true c ∷ alternatives false c ∷ []
conditions (While' (Cond c) _ _) = alternatives true c ∷ alternatives false c ∷ []
conditions _ = []

abbrev pub alternatives_checks : Place → StmtKind → List Check
alternatives_checks place k =
    map (λ (alts : List (List Bound)). count_check place limit.Alternatives (length alts) MOST_ALTERNATIVES) (conditions k)

-- of a statement in an atomic block only the alternatives are checked
abbrev mutual
  pub inside : StmtKind → List Check
  inside (Atomic' _ block) = inside_all block
  inside (If' _ _ held _ failed) = inside_all held ++ inside_all failed
  inside _ = []

  pub inside_all : {n : _} → Row_of-Stmt n → List Check
  inside_all end_of-Stmt = []
  inside_all (more_of-Stmt place k rest) = alternatives_checks place k ++ (inside k ++ inside_all rest)

-- only an atomic block has paths to count
abbrev pub paths_checks : Place → StmtKind → List Check
paths_checks place (Atomic' _ block) = count_check place limit.Paths (length (paths_all block)) MOST_PATHS ∷ []
paths_checks place _ = []

-- and only it has statements inside; those of `if` and `while` are laid out on their own
abbrev pub inner_checks : StmtKind → List Check
inner_checks (Atomic' _ block) = inside_all block
inner_checks _ = []

abbrev pub rows_checks : Place → List (List Op) → List Check
rows_checks place commands = map (λ (ops : List Op). count_check place limit.Rows (assumed_rows ops) MOST_ROWS) commands

abbrev pub numbers_checks : Place → List (List Op) → List Check
numbers_checks place commands =
    map (λ (ops : List Op). let c : Check = record { place = place; limit = limit.Numbers; measure = Forms ops } in c) commands

-- the ops of each path of a statement
abbrev pub commands_of : Site → List (List Op)
commands_of s = map (λ (p : List Act × ℕ). ops_on p.0) s.paths

-- the limits of the edges of a statement: so many edges stand before them, and there are so many locations
abbrev pub edges_checks : Place → ℕ → ℕ → List (List Op) → List Check
edges_checks place edges locations commands =
    rows_checks place commands
    ++ (numbers_checks place commands
    ++ (count_check place limit.Locations locations MOST_LOCATIONS
    ∷ count_check place limit.Edges (edges + length commands) MOST_EDGES ∷ []))

-- The limits of one statement: alternatives, paths, rows, numbers, locations and edges. What stands in an atomic block
-- comes after all of the block's own, since the block's place is before it in the text.
abbrev pub site_checks : ℕ → Site → List Check
site_checks edges s =
    alternatives_checks s.place s.kind
    ++ (paths_checks s.place s.kind
    ++ (edges_checks s.place edges s.locations (commands_of s) ++ inner_checks s.kind))

-- the limits of all statements, in text order, where so many edges stand before them
abbrev pub checks : ℕ → List Site → List Check
checks edges [] = []
checks edges (s ∷ sites) = site_checks edges s ++ checks (edges + length s.paths) sites
