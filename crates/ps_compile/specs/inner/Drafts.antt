-- Edges before their commands have numbers, and what came of the tests of a body.
use Rattle.std.specs.Prelude.{◌≡◌, true, false, ℕ, ◌+◌, List, [], ◌∷◌, ◌++◌, map, length, replicate, Some, Result, MatchResult, if◌then◌else◌}
use Rattle.ps_command.specs.declared.op.Op.{Op}
use Rattle.ps_compile.specs.Checks.{Check, NoneIsExceeded, checks}
use Rattle.ps_graph.specs.Follows.{going_to}
use Rattle.ps_compile.specs.Layout.{Site, Planned, all_planned, opened_of, own_site, block_start}
use Rattle.ps_compile.specs.Ops.{ops_on}
use Rattle.ps_graph.specs.Paths.{Act, is_failing, picks_of, ways}
use Rattle.ps_tree.specs.declared.cond.Test.{Test}
use Rattle.ps_tree.specs.declared.stmt.Stmt.{Stmt}
use Rattle.ps_tree.specs.declared.stmt.StmtKind.{StmtKind}
use Rattle.ps_token.specs.declared.place.Place.{Place}
use Rattle.ps_compile.specs.declared.route.Route.{Route}
use Rattle.ps_compile.specs.declared.draft.Draft.{Draft}
use Rattle.ps_compile.specs.declared.plan.Plan.{Plan}
use Rattle.ps_compile.specs.declared.compile_end.CompileEnd.{CompileEnd}
use Rattle.ps_compile.specs.Ends.{IsCompileEnd}

-- what a path does
abbrev pub route_of : List Act → Route
route_of p = record { command = record { ops = ops_on p }; picks = picks_of p; fails = is_failing p }

-- the edge of a path
abbrev pub draft_of : Planned → Draft
draft_of w = record { source = w.source; target = if is_failing w.path then 1 else w.goal; route = route_of w.path }

-- a route as an edge from a location, which goes on to another
abbrev pub draft_from : ℕ → ℕ → Route → Draft
draft_from a goal r = record { source = a; target = if r.fails then 1 else goal; route = r }

-- the ops of each edge
abbrev pub commands_on : List Draft → List (List Op)
commands_on drafts = map (λ (l : Draft). l.route.command.ops) drafts

-- the tests, in their order
abbrev pub Tested : {T : Type 0} → Result T CompileEnd → List Check → Type 0
Tested {T} result checks = MatchResult result (λ (_ : T). NoneIsExceeded checks) (IsCompileEnd checks)

-- the sites were laid out: no limit is exceeded, their edges came to the drafts, and so many locations to the owners
pub record Grows (body : ℕ) (old new : Plan) (ss : List Site) (size : ℕ) : Type 0 where
  pub free : NoneIsExceeded (checks (length old.drafts.items) ss)
  pub drafts : new.drafts.items ≡ old.drafts.items ++ map draft_of (all_planned ss)
  pub owners : new.owners.items ≡ old.owners.items ++ replicate size (Some body)

-- the sites were laid out, or of their limits that are passed this is the first
abbrev pub Lays : {T : Type 0} → Result T CompileEnd → ℕ → Plan → Plan → List Site → ℕ → Type 0
Lays {T} result body old new ss size =
    MatchResult result (λ (_ : T). Grows body old new ss size) (IsCompileEnd (checks (length old.drafts.items) ss))

-- an `if`, and a `while`, as statements whose blocks are lists
abbrev pub if_site : Place → StmtKind → Test → List Stmt → List Stmt → ℕ → ℕ → ℕ → Site
if_site place k t held failed a b next =
    own_site place k a (next + (opened_of held + opened_of failed))
    (going_to (block_start held b next) (ways true t) ++ going_to (block_start failed b (next + opened_of held)) (ways false t))

abbrev pub while_site : Place → StmtKind → Test → List Stmt → ℕ → ℕ → ℕ → Site
while_site place k t block a b next =
    own_site place k a (next + opened_of block)
    (going_to (block_start block a next) (ways true t) ++ going_to b (ways false t))

-- the edges of an `if` were added, and its blocks start at these locations
pub record OpensIf (body : ℕ) (old new : Plan) (place : Place) (k : StmtKind) (t : Test) (held failed : List Stmt) (a b : ℕ) (starts : ℕ × ℕ) : Type 0 where
  pub first : starts.0 ≡ block_start held b (length old.owners.items)
  pub second : starts.1 ≡ block_start failed b (length old.owners.items + opened_of held)
  pub grows : Grows body old new (if_site place k t held failed a b (length old.owners.items) ∷ []) (opened_of held + opened_of failed)

-- the edges of a `while` were added, and its block starts at this location
pub record OpensWhile (body : ℕ) (old new : Plan) (place : Place) (k : StmtKind) (t : Test) (block : List Stmt) (a b : ℕ) (first : ℕ) : Type 0 where
  pub start : first ≡ block_start block a (length old.owners.items)
  pub grows : Grows body old new (while_site place k t block a b (length old.owners.items) ∷ []) (opened_of block)
