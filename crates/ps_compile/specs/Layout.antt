-- How a body is laid out: at which control location each statement stands, and where its paths go on to.
use Rattle.std.specs.Prelude.{ℕ, ◌+◌, true, false, List, [], ◌∷◌, ◌++◌, map}
use Rattle.std.specs.List.{flat_map}
use Rattle.ps_graph.specs.Follows.{going_to}
use Rattle.ps_graph.specs.Paths.{Act, paths, paths_all, ways}
use Rattle.ps_token.specs.declared.place.Place.{Place}
use Rattle.ps_tree.specs.declared.stmt.Stmt.{Stmt}
use Rattle.ps_tree.specs.declared.stmt.StmtKind.{StmtKind, Atomic', If', While', Row_of-Stmt, end_of-Stmt, more_of-Stmt}

-- A statement that is laid out: its place in the text, the location at which it stands, its paths, each with the
-- location to which it goes on, and how many locations there are by then, those that it needs included.
pub record Site : Type 0 where
  pub place : Place
  pub kind : StmtKind
  pub at : ℕ
  pub paths : List (List Act × ℕ)
  pub locations : ℕ

abbrev pub own_site : Place → StmtKind → ℕ → ℕ → List (List Act × ℕ) → Site
own_site place k a locations paths = record { place = place; kind = k; at = a; paths = paths; locations = locations }

-- where a block begins that ends at a location: there if it is empty, else at the next new one
abbrev pub start_location : {n : _} → Row_of-Stmt n → ℕ → ℕ → ℕ
start_location end_of-Stmt z next = z
start_location (more_of-Stmt _ _ _) z next = next

-- how many new locations that takes
abbrev pub opened : {n : _} → Row_of-Stmt n → ℕ
opened end_of-Stmt = 0
opened (more_of-Stmt _ _ _) = 1

-- how many new locations the blocks of a statement take, and the statements of a block but the first
abbrev mutual
  pub inner : StmtKind → ℕ
  inner (If' _ _ held _ failed) = (opened held + opened failed) + (inner_all held + inner_all failed)
  inner (While' _ _ block) = opened block + inner_all block
  inner _ = 0

  pub inner_all : {n : _} → Row_of-Stmt n → ℕ
  inner_all end_of-Stmt = 0
  inner_all (more_of-Stmt _ k rest) = opened rest + (inner k + inner_all rest)

-- The statements in text order, from one location to another, where this number is the next new location. Each goes on
-- to where the rest of its block begins. `if` goes to the starts of its blocks, which end where it goes on to. `while`
-- goes to the start of its block, which ends where `while` stands, or on. An atomic block is one step along each of its
-- paths. The starts of a statement's blocks, the first before the second, and where the rest begins are made before what
-- stands in the blocks.
abbrev mutual
  pub sites : Place → StmtKind → ℕ → ℕ → ℕ → List Site
  sites place (If' t i held j failed) a z next =
      own_site place (If' t i held j failed) a (next + (opened held + opened failed))
      (going_to (start_location held z next) (ways true t) ++ going_to (start_location failed z (next + opened held)) (ways false t))
      ∷ (sites_all held (start_location held z next) z (next + (opened held + opened failed))
      ++ sites_all failed (start_location failed z (next + opened held)) z ((next + (opened held + opened failed)) + inner_all held))
  sites place (While' t i block) a z next =
      own_site place (While' t i block) a (next + opened block)
      (going_to (start_location block a next) (ways true t) ++ going_to z (ways false t))
      ∷ sites_all block (start_location block a next) a (next + opened block)
  sites place (Atomic' n block) a z next = own_site place (Atomic' n block) a next (going_to z (paths_all block)) ∷ []
  sites place k a z next = own_site place k a next (going_to z (paths k)) ∷ []

  pub sites_all : {n : _} → Row_of-Stmt n → ℕ → ℕ → ℕ → List Site
  sites_all end_of-Stmt a z next = []
  sites_all (more_of-Stmt place k rest) a z next =
      sites place k a (start_location rest z next) (next + opened rest)
      ++ sites_all rest (start_location rest z next) z ((next + opened rest) + inner k)

-- the same of lists of statements
abbrev pub block_start : List Stmt → ℕ → ℕ → ℕ
block_start [] z next = z
block_start (_ ∷ _) z next = next

abbrev pub opened_of : List Stmt → ℕ
opened_of [] = 0
opened_of (_ ∷ _) = 1

abbrev pub inner_of : List Stmt → ℕ
inner_of [] = 0
inner_of (s ∷ rest) = opened_of rest + (inner s.kind + inner_of rest)

abbrev pub sites_of : List Stmt → ℕ → ℕ → ℕ → List Site
sites_of [] a z next = []
sites_of (s ∷ rest) a z next =
    sites s.place s.kind a (block_start rest z next) (next + opened_of rest)
    ++ sites_of rest (block_start rest z next) z ((next + opened_of rest) + inner s.kind)

-- an edge that is planned: where it leaves, its path, and where that goes on to
pub record Planned : Type 0 where
  pub source : ℕ
  pub path : List Act
  pub goal : ℕ

-- the edges from a location, one for each path, in order
abbrev pub planned_from : ℕ → List (List Act × ℕ) → List Planned
planned_from a ps = map (λ (p : List Act × ℕ). let e : Planned = record { source = a; path = p.0; goal = p.1 } in e) ps

abbrev pub planned_at : Site → List Planned
planned_at s = planned_from s.at s.paths

-- all edges, in the order of the statements
abbrev pub all_planned : List Site → List Planned
all_planned sites = flat_map planned_at sites

-- A body with an entry, where this number is the next new location: that is its end, unless the body is empty.
abbrev pub end_of_body : List Stmt → ℕ → ℕ → ℕ
end_of_body body entry next = block_start body entry next

abbrev pub body_sites : List Stmt → ℕ → ℕ → List Site
body_sites body entry next = sites_of body entry (end_of_body body entry next) (next + opened_of body)

-- how many new locations it takes
abbrev pub body_size : List Stmt → ℕ
body_size body = opened_of body + inner_of body
