-- A program within its limits has few edges.
use Rattle.std.proofs.Common.{◌≡◌, ℕ, ◌+◌, ◌<◌, ◌≤◌, ◌^◌, List, [], ◌∷◌, ◌++◌, length, arith, length-append}
use Rattle.std.proofs.lemmas.List.{length-map}
use Rattle.std.proofs.lemmas.Slice.Zip.{AllZip-long}
use Rattle.ps_compile.specs.Checks.{Check, NoneIsExceeded, alternatives_checks, checks, commands_of, count_check, edges_checks, inner_checks, numbers_checks, paths_checks, rows_checks, site_checks}
use Rattle.ps_compile.specs.Compiled.{IsCompiled, IsEdge}
use Rattle.ps_compile.specs.Layout.{Planned, Site, all_planned, body_sites, planned_at}
use Rattle.ps_compile.specs.Ops.{ops_on}
use Rattle.ps_compile.specs.declared.limits.TheConstants.{MOST_EDGES, MOST_LOCATIONS}
use Rattle.ps_graph.specs.Paths.{Act}
use Rattle.ps_graph.specs.declared.graph.Graph.{Graph}
use Rattle.ps_tree.specs.declared.limit_name.LimitName.TheVariants as limit
use Rattle.ps_tree.specs.declared.program.Program.{Program}
use Rattle.ps_modes.specs.Programs.{limits_of}

-- none of the later checks is exceeded, nor of the earlier ones
none_after : (xs ys : List Check) → NoneIsExceeded (xs ++ ys) → NoneIsExceeded ys
none_after [] ys none = none
none_after (x ∷ xs) ys none = none_after xs ys none.1

none_before : (xs ys : List Check) → NoneIsExceeded (xs ++ ys) → NoneIsExceeded xs
none_before [] ys none = tt
none_before (x ∷ xs) ys none = (none.0, none_before xs ys none.1)

-- the edges of a statement, with those before it, are no more than the most
within_site : (edges : ℕ) (s : Site) → NoneIsExceeded (site_checks edges s) → edges + length (commands_of s) ≤ MOST_EDGES
within_site edges s none =
    let after = none_after (paths_checks s.place s.kind) (edges_checks s.place edges s.locations (commands_of s) ++ inner_checks s.kind)
    (none_after (alternatives_checks s.place s.kind) _ none) in
    let own = none_before (edges_checks s.place edges s.locations (commands_of s)) (inner_checks s.kind) after in
    let two = none_after (numbers_checks s.place (commands_of s))
    (count_check s.place limit.Locations s.locations MOST_LOCATIONS ∷ count_check s.place limit.Edges (edges + length (commands_of s)) MOST_EDGES ∷ [])
    (none_after (rows_checks s.place (commands_of s)) _ own) in
    omega (arith, two.1.0)

within_sites : (edges : ℕ) (sites : List Site) → edges ≤ MOST_EDGES → NoneIsExceeded (checks edges sites) → edges + length (all_planned sites) ≤ MOST_EDGES
within_sites edges [] most none = omega (arith, most)
within_sites edges (s ∷ sites) most none =
    let here = within_site edges s (none_before (site_checks edges s) (checks (edges + length s.paths) sites) none) in
    let mapped : length (commands_of s) ≡ length s.paths = length-map s.paths (λ (p : List Act × ℕ). ops_on p.0) in
    let rest = within_sites (edges + length s.paths) sites (omega (arith, here, mapped)) (none_after (site_checks edges s) _ none) in
    let planned : length (planned_at s) ≡ length s.paths =
    length-map s.paths (λ (p : List Act × ℕ). let e : Planned = record { source = s.at; path = p.0; goal = p.1 } in e) in
    omega (arith, rest, planned, length-append (planned_at s) (all_planned sites))

pub few_edges : (p : Program) (g : Graph) → IsCompiled p g → NoneIsExceeded (limits_of p) → length g.edges < 2 ^ 32
few_edges p g is none =
    let long = AllZip-long (IsEdge g.setting.commands) (all_planned (body_sites p.body 0 2)) g.edges is.body.planned in
    omega (arith, long, within_sites 0 (body_sites p.body 0 2) (omega arith) none)
