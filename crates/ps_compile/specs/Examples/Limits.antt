-- Worked examples: limits at their numbers and one above, and which of several is the first.
use Rattle.std.specs.Prelude.{ℕ, pos, List, [], ◌∷◌, replicate}
use Rattle.ps_command.specs.declared.op.Op.{Op}
use Rattle.ps_compile.specs.Checks.{NoneIsExceeded, IsFirstExceeded, alternatives_checks, inner_checks, paths_checks, rows_checks, edges_checks, checks}
use Rattle.ps_compile.specs.Examples.Bodies.{at_most_zero}
use Rattle.ps_compile.specs.Layout.{body_sites}
use Rattle.ps_graph.specs.Examples.{compare_with, x}
use Rattle.ps_token.specs.declared.place.Place.{Place}
use Rattle.ps_tree.specs.declared.cond.Cond.{Cond}
use Rattle.ps_tree.specs.declared.cond.Cond.TheVariants.{And, Or}
use Rattle.ps_tree.specs.declared.limit_name.LimitName.TheVariants as limit
use Rattle.ps_tree.specs.declared.relation.Sign.TheVariants.{Less}
use Rattle.ps_tree.specs.declared.stmt.Stmt.{Stmt}
use Rattle.ps_tree.specs.declared.stmt.StmtKind.{StmtKind}
use Rattle.ps_tree.specs.declared.stmt.StmtKind.TheVariants.{Assume, Assert, Atomic}

-- the first column of a line
abbrev pub line : ℕ → Place
line n = record { line = n; column = 1 }

-- a statement on a line of its own
abbrev pub on_line : ℕ → StmtKind → Stmt
on_line n k = record { place = line n; kind = k }

-- `x < 1 || x < 1 || ..`, and the same with `&&`
abbrev pub either : ℕ → Cond
either n = Or (replicate n (compare_with x Less (pos 1)))

abbrev pub each : ℕ → Cond
each n = And (replicate n (compare_with x Less (pos 1)))

-- sixteen alternatives are within the limit and seventeen aren't, also where the negation has them
abbrev pub AlternativesAreCounted : Type 0
AlternativesAreCounted =
    NoneIsExceeded (alternatives_checks (line 1) (Assert (either 16)))
    × IsFirstExceeded (line 1) limit.Alternatives (alternatives_checks (line 1) (Assume (either 17)))
    × IsFirstExceeded (line 1) limit.Alternatives (alternatives_checks (line 1) (Assert (each 17)))

-- `atomic { assume (sixteen ways); assume (four ways); }` has sixty-four paths, which are within the limit
abbrev pub PathsAreCounted : Type 0
PathsAreCounted =
    NoneIsExceeded (paths_checks (line 1) (Atomic (on_line 2 (Assume (either 16)) ∷ on_line 3 (Assume (either 4)) ∷ [])))

-- with seventeen ways they are sixty-eight: the paths of the block are refused first, at its place, and then the
-- alternatives of the statement in it
abbrev pub PathsComeFirst : Type 0
PathsComeFirst =
    let crowded : List Stmt = on_line 2 (Assume (either 17)) ∷ on_line 3 (Assume (either 4)) ∷ [] in
    IsFirstExceeded (line 1) limit.Paths (checks 0 (body_sites (on_line 1 (Atomic crowded) ∷ []) 0 2))
    × IsFirstExceeded (line 2) limit.Alternatives (inner_checks (Atomic crowded))

-- sixty-four rows are within the limit, and of sixty-five rows, 257 locations and 513 edges the rows come first
abbrev pub RowsAreCounted : Type 0
RowsAreCounted =
    NoneIsExceeded (rows_checks (line 1) (replicate 64 (at_most_zero (pos 1) (pos 0)) ∷ []))
    × IsFirstExceeded (line 1) limit.Rows (edges_checks (line 1) 512 257 (replicate 65 (at_most_zero (pos 1) (pos 0)) ∷ []))

-- 256 locations and 512 edges, one of them here, are within the limits; of 257 and 513 the locations come first
abbrev pub LocationsAndEdgesAreCounted : Type 0
LocationsAndEdgesAreCounted =
    let idle : List (List Op) = [] ∷ [] in
    NoneIsExceeded (edges_checks (line 1) 511 256 idle)
    × IsFirstExceeded (line 1) limit.Locations (edges_checks (line 1) 512 257 idle)
    × IsFirstExceeded (line 1) limit.Edges (edges_checks (line 1) 512 256 idle)
