-- Where the statements of a body stand: each at a location of its own, within bounds.
use Rattle.std.proofs.Common.{◌≡◌, refl, ℕ, ◌+◌, ◌<◌, ◌≤◌, List, [], ◌∷◌, ◌++◌, ◌⊎◌, inl, inr, arith, true, false}
use Rattle.std.specs.List.{AllByRecursion}
use Rattle.ps_graph.specs.Follows.{going_to}
use Rattle.ps_compile.specs.Layout.{Site, start_location, opened, inner, inner_all, sites, sites_all, block_start, opened_of, inner_of, sites_of, end_of_body, body_sites}
use Rattle.ps_graph.specs.Paths.{Act, paths, ways}
use Rattle.ps_tree.specs.declared.stmt.Stmt.{Stmt}
use Rattle.ps_tree.specs.declared.stmt.StmtKind.{StmtKind, Assign, Havoc, Assume, Assert, Skip, Atomic', If', While', Row_of-Stmt, end_of-Stmt, more_of-Stmt}
use Rattle.ps_token.specs.declared.place.Place.{Place}

-- P holds of where a site stands, and Q of each location to which its paths go on
abbrev pub Lies : (ℕ → Type 0) → (ℕ → Type 0) → Site → Type 0
Lies P Q s = P s.at × AllByRecursion (λ (p : List Act × ℕ). Q p.1) s.paths

abbrev pub AllLie : (ℕ → Type 0) → (ℕ → Type 0) → List Site → Type 0
AllLie P Q ss = AllByRecursion (Lies P Q) ss

pub lie_append : (P Q : ℕ → Type 0) (xs ys : List Site) → AllLie P Q xs → AllLie P Q ys → AllLie P Q (xs ++ ys)
lie_append P Q [] ys a b = b
lie_append P Q (x ∷ xs) ys a b = (a.0, lie_append P Q xs ys a.1 b)

goals_append : (Q : ℕ → Type 0) (xs ys : List (List Act × ℕ)) → AllByRecursion (λ (p : List Act × ℕ). Q p.1) xs →
    AllByRecursion (λ (p : List Act × ℕ). Q p.1) ys → AllByRecursion (λ (p : List Act × ℕ). Q p.1) (xs ++ ys)
goals_append Q [] ys a b = b
goals_append Q (x ∷ xs) ys a b = (a.0, goals_append Q xs ys a.1 b)

going_lie : (Q : ℕ → Type 0) (z : ℕ) (ps : List (List Act)) → Q z → AllByRecursion (λ (p : List Act × ℕ). Q p.1) (going_to z ps)
going_lie Q z [] h = tt
going_lie Q z (p ∷ ps) h = (h, going_lie Q z ps h)

-- all numbers from one up to another
abbrev pub Between : (ℕ → Type 0) → ℕ → ℕ → Type 0
Between P n m = (y : ℕ) → n ≤ y → y < m → P y

start_lies : (P : ℕ → Type 0) {n : _} (row : Row_of-Stmt n) (z next : ℕ) → P z → Between P next (next + opened row) → P (start_location row z next)
start_lies P end_of-Stmt z next h b = h
start_lies P (more_of-Stmt _ _ _) z next h b = b next (omega arith) (omega arith)

narrow : (P : ℕ → Type 0) (n m i j : ℕ) → Between P n m → n ≤ i → j ≤ m → Between P i j
narrow P n m i j b l r y f g = b y (omega (arith, l, f)) (omega (arith, r, g))

-- what holds of where a statement begins, of where it goes on to and of the locations that are made for it holds of all
mutual
  pub sites_lie : (P Q : ℕ → Type 0) (place : Place) (k : StmtKind) (a z next : ℕ) → P a → Q a → Q z →
      Between P next (next + inner k) → Between Q next (next + inner k) → AllLie P Q (sites place k a z next)
  sites_lie P Q place (Assign x s) a z next pa qa qz bp bq = ((pa, going_lie Q z (paths (Assign x s)) qz), tt)
  sites_lie P Q place (Havoc x) a z next pa qa qz bp bq = ((pa, going_lie Q z (paths (Havoc x)) qz), tt)
  sites_lie P Q place (Assume c) a z next pa qa qz bp bq = ((pa, going_lie Q z (paths (Assume c)) qz), tt)
  sites_lie P Q place (Assert c) a z next pa qa qz bp bq = ((pa, going_lie Q z (paths (Assert c)) qz), tt)
  sites_lie P Q place Skip a z next pa qa qz bp bq = ((pa, going_lie Q z (paths Skip) qz), tt)
  sites_lie P Q place (Atomic' n b) a z next pa qa qz bp bq = ((pa, going_lie Q z (paths (Atomic' n b)) qz), tt)
  sites_lie P Q place (If' t i held j failed) a z next pa qa qz bp bq = (
    (
      pa,
      goals_append Q (going_to (start_location held z next) (ways true t)) (going_to (start_location failed z (next + opened held)) (ways false t))
          (going_lie Q (start_location held z next) (ways true t)
          (start_lies Q held z next qz (narrow Q next (next + inner (If' t i held j failed)) next (next + opened held) bq (omega arith) (omega arith))))
          (going_lie Q (start_location failed z (next + opened held)) (ways false t)
          (start_lies Q failed z (next + opened held) qz
          (narrow Q next (next + inner (If' t i held j failed)) (next + opened held) ((next + opened held) + opened failed) bq (omega arith) (omega arith)))),
    ),
    lie_append P Q
        (sites_all held (start_location held z next) z (next + (opened held + opened failed)))
        (sites_all failed (start_location failed z (next + opened held)) z ((next + (opened held + opened failed)) + inner_all held))
        (all_lie P Q held z next (next + (opened held + opened failed)) qz
        (narrow P next (next + inner (If' t i held j failed)) next (next + opened held) bp (omega arith) (omega arith))
        (narrow Q next (next + inner (If' t i held j failed)) next (next + opened held) bq (omega arith) (omega arith))
        (narrow P next (next + inner (If' t i held j failed)) (next + (opened held + opened failed)) ((next + (opened held + opened failed)) + inner_all held) bp (omega arith) (omega arith))
        (narrow Q next (next + inner (If' t i held j failed)) (next + (opened held + opened failed)) ((next + (opened held + opened failed)) + inner_all held) bq (omega arith) (omega arith)))
        (all_lie P Q failed z (next + opened held) ((next + (opened held + opened failed)) + inner_all held) qz
        (narrow P next (next + inner (If' t i held j failed)) (next + opened held) ((next + opened held) + opened failed) bp (omega arith) (omega arith))
        (narrow Q next (next + inner (If' t i held j failed)) (next + opened held) ((next + opened held) + opened failed) bq (omega arith) (omega arith))
        (narrow P next (next + inner (If' t i held j failed)) ((next + (opened held + opened failed)) + inner_all held) (((next + (opened held + opened failed)) + inner_all held) + inner_all failed) bp (omega arith) (omega arith))
        (narrow Q next (next + inner (If' t i held j failed)) ((next + (opened held + opened failed)) + inner_all held) (((next + (opened held + opened failed)) + inner_all held) + inner_all failed) bq (omega arith) (omega arith))),
  )
  sites_lie P Q place (While' t i block) a z next pa qa qz bp bq = (
    (
      pa,
      goals_append Q (going_to (start_location block a next) (ways true t)) (going_to z (ways false t))
          (going_lie Q (start_location block a next) (ways true t)
          (start_lies Q block a next qa (narrow Q next (next + inner (While' t i block)) next (next + opened block) bq (omega arith) (omega arith))))
          (going_lie Q z (ways false t) qz),
    ),
    all_lie P Q block a next (next + opened block) qa
        (narrow P next (next + inner (While' t i block)) next (next + opened block) bp (omega arith) (omega arith))
        (narrow Q next (next + inner (While' t i block)) next (next + opened block) bq (omega arith) (omega arith))
        (narrow P next (next + inner (While' t i block)) (next + opened block) ((next + opened block) + inner_all block) bp (omega arith) (omega arith))
        (narrow Q next (next + inner (While' t i block)) (next + opened block) ((next + opened block) + inner_all block) bq (omega arith) (omega arith)),
  )

  -- a block that begins where it starts: at its end, or at the location `first`
  pub all_lie : (P Q : ℕ → Type 0) {n : _} (row : Row_of-Stmt n) (z first next : ℕ) → Q z →
      Between P first (first + opened row) → Between Q first (first + opened row) →
      Between P next (next + inner_all row) → Between Q next (next + inner_all row) → AllLie P Q (sites_all row (start_location row z first) z next)
  all_lie P Q end_of-Stmt z first next qz fp fq bp bq = tt
  all_lie P Q (more_of-Stmt place k rest) z first next qz fp fq bp bq =
      lie_append P Q (sites place k first (start_location rest z next) (next + opened rest))
      (sites_all rest (start_location rest z next) z ((next + opened rest) + inner k))
      (sites_lie P Q place k first (start_location rest z next) (next + opened rest) (fp first (omega arith) (omega arith)) (fq first (omega arith) (omega arith))
      (start_lies Q rest z next qz (narrow Q next (next + (opened rest + (inner k + inner_all rest))) next (next + opened rest) bq (omega arith) (omega arith)))
      (narrow P next (next + (opened rest + (inner k + inner_all rest))) (next + opened rest) ((next + opened rest) + inner k) bp (omega arith) (omega arith))
      (narrow Q next (next + (opened rest + (inner k + inner_all rest))) (next + opened rest) ((next + opened rest) + inner k) bq (omega arith) (omega arith)))
      (all_lie P Q rest z next ((next + opened rest) + inner k) qz
      (narrow P next (next + (opened rest + (inner k + inner_all rest))) next (next + opened rest) bp (omega arith) (omega arith))
      (narrow Q next (next + (opened rest + (inner k + inner_all rest))) next (next + opened rest) bq (omega arith) (omega arith))
      (narrow P next (next + (opened rest + (inner k + inner_all rest))) ((next + opened rest) + inner k) (((next + opened rest) + inner k) + inner_all rest) bp (omega arith) (omega arith))
      (narrow Q next (next + (opened rest + (inner k + inner_all rest))) ((next + opened rest) + inner k) (((next + opened rest) + inner k) + inner_all rest) bq (omega arith) (omega arith)))

-- ---- no two stand at one location

-- no site stands there
abbrev pub NoneAt : ℕ → List Site → Type 0
NoneAt a ss = AllByRecursion (λ (s : Site). ¬ (s.at ≡ a)) ss

-- no two sites stand at one location
abbrev pub AreApart : List Site → Type 0
AreApart [] = Unit {0}
AreApart (s ∷ ss) = NoneAt s.at ss × AreApart ss

-- no site of the one list stands where one of the other does
abbrev AreClear : List Site → List Site → Type 0
AreClear [] ys = Unit {0}
AreClear (x ∷ xs) ys = NoneAt x.at ys × AreClear xs ys

none_append : (a : ℕ) (xs ys : List Site) → NoneAt a xs → NoneAt a ys → NoneAt a (xs ++ ys)
none_append a [] ys f g = g
none_append a (x ∷ xs) ys f g = (f.0, none_append a xs ys f.1 g)

apart_append : (xs ys : List Site) → AreApart xs → AreApart ys → AreClear xs ys → AreApart (xs ++ ys)
apart_append [] ys f g c = g
apart_append (x ∷ xs) ys f g c = (none_append x.at xs ys f.0 c.0, apart_append xs ys f.1 g c.1)

-- at the one location, or from one number up to another
abbrev pub Spot : ℕ → ℕ → ℕ → ℕ → Type 0
Spot a n m y = (y ≡ a) ⊎ ((n ≤ y) × (y < m))

abbrev Any : ℕ → Type 0
Any y = Unit {0}

none_lies : (P : ℕ → Type 0) (a : ℕ) (ys : List Site) → AllLie P Any ys → ((y : ℕ) → P y → ¬ (y ≡ a)) → NoneAt a ys
none_lies P a [] h d = tt
none_lies P a (y ∷ ys) h d = (d y.at h.0.0, none_lies P a ys h.1 d)

clear_lies : (P R : ℕ → Type 0) (xs ys : List Site) → AllLie P Any xs → AllLie R Any ys → ((x y : ℕ) → P x → R y → ¬ (y ≡ x)) → AreClear xs ys
clear_lies P R [] ys f g d = tt
clear_lies P R (x ∷ xs) ys f g d = (none_lies R x.at ys g (λ y r. d x.at y f.0.0 r), clear_lies P R xs ys f.1 g d)

-- the sites of a statement stand where it begins, or at locations that are made for it
site_spots : (place : Place) (k : StmtKind) (a z next : ℕ) → AllLie (Spot a next (next + inner k)) Any (sites place k a z next)
site_spots place k a z next = sites_lie (Spot a next (next + inner k)) Any place k a z next (inl refl) tt tt (λ y l r. inr (l, r)) (λ y l r. tt)

-- those of a block stand where it starts or at locations that are made for it
abbrev BlockSpot : ℕ → ℕ → ℕ → ℕ → ℕ → Type 0
BlockSpot first n i m y = ((first ≤ y) × (y < n)) ⊎ ((i ≤ y) × (y < m))

block_spots : {n : _} (row : Row_of-Stmt n) (z first next : ℕ) →
    AllLie (BlockSpot first (first + opened row) next (next + inner_all row)) Any (sites_all row (start_location row z first) z next)
block_spots row z first next =
    all_lie (BlockSpot first (first + opened row) next (next + inner_all row)) Any row z first next tt (λ y l r. inl (l, r)) (λ y l r. tt) (λ y l r. inr (l, r)) (λ y l r. tt)

mutual
  pub apart : (place : Place) (k : StmtKind) (a z next : ℕ) → a < next → AreApart (sites place k a z next)
  apart place (Assign x s) a z next h = (tt, tt)
  apart place (Havoc x) a z next h = (tt, tt)
  apart place (Assume c) a z next h = (tt, tt)
  apart place (Assert c) a z next h = (tt, tt)
  apart place Skip a z next h = (tt, tt)
  apart place (Atomic' n b) a z next h = (tt, tt)
  apart place (If' t i held j failed) a z next h = (
    none_append a
        (sites_all held (start_location held z next) z (next + (opened held + opened failed)))
        (sites_all failed (start_location failed z (next + opened held)) z ((next + (opened held + opened failed)) + inner_all held))
        (none_lies _ a _ (block_spots held z next (next + (opened held + opened failed))) (λ y s e. grind arith))
        (none_lies _ a _ (block_spots failed z (next + opened held) ((next + (opened held + opened failed)) + inner_all held)) (λ y s e. grind arith)),
    apart_append
        (sites_all held (start_location held z next) z (next + (opened held + opened failed)))
        (sites_all failed (start_location failed z (next + opened held)) z ((next + (opened held + opened failed)) + inner_all held))
        (apart_all held z next (next + (opened held + opened failed)) (omega arith))
        (apart_all failed z (next + opened held) ((next + (opened held + opened failed)) + inner_all held) (omega arith))
        (clear_lies _ _ _ _ (block_spots held z next (next + (opened held + opened failed)))
        (block_spots failed z (next + opened held) ((next + (opened held + opened failed)) + inner_all held))
        (λ x y s r e. grind arith)),
  )
  apart place (While' t i block) a z next h = (
    none_lies _ a _ (block_spots block a next (next + opened block)) (λ y s e. grind arith),
    apart_all block a next (next + opened block) (omega arith),
  )

  pub apart_all : {n : _} (row : Row_of-Stmt n) (z first next : ℕ) → first + opened row ≤ next → AreApart (sites_all row (start_location row z first) z next)
  apart_all end_of-Stmt z first next h = tt
  apart_all (more_of-Stmt place k rest) z first next h =
      apart_append (sites place k first (start_location rest z next) (next + opened rest))
      (sites_all rest (start_location rest z next) z ((next + opened rest) + inner k))
      (apart place k first (start_location rest z next) (next + opened rest) (omega (arith, h)))
      (apart_all rest z next ((next + opened rest) + inner k) (omega arith))
      (clear_lies _ _ _ _ (site_spots place k first (start_location rest z next) (next + opened rest))
      (block_spots rest z next ((next + opened rest) + inner k))
      (λ x y s r e. grind arith))

-- ---- lists of statements

pub list_lie : (P Q : ℕ → Type 0) (rest : List Stmt) (z first next : ℕ) → Q z →
    Between P first (first + opened_of rest) → Between Q first (first + opened_of rest) →
    Between P next (next + inner_of rest) → Between Q next (next + inner_of rest) → AllLie P Q (sites_of rest (block_start rest z first) z next)
list_lie P Q [] z first next qz fp fq bp bq = tt
list_lie P Q (s ∷ rest) z first next qz fp fq bp bq =
    lie_append P Q (sites s.place s.kind first (block_start rest z next) (next + opened_of rest))
    (sites_of rest (block_start rest z next) z ((next + opened_of rest) + inner s.kind))
    (sites_lie P Q s.place s.kind first (block_start rest z next) (next + opened_of rest) (fp first (omega arith) (omega arith)) (fq first (omega arith) (omega arith))
    (start_lies rest (λ y l r. bq y l (omega (arith, r))))
    (λ y l r. bp y (omega (arith, l)) (omega (arith, r)))
    (λ y l r. bq y (omega (arith, l)) (omega (arith, r))))
    (list_lie P Q rest z next ((next + opened_of rest) + inner s.kind) qz
    (λ y l r. bp y l (omega (arith, r)))
    (λ y l r. bq y l (omega (arith, r)))
    (λ y l r. bp y (omega (arith, l)) (omega (arith, r)))
    (λ y l r. bq y (omega (arith, l)) (omega (arith, r))))
  where
    start_lies : (rs : List Stmt) → Between Q next (next + opened_of rs) → Q (block_start rs z next)
    start_lies [] b = qz
    start_lies (_ ∷ _) b = b next (omega arith) (omega arith)

list_spots : (rest : List Stmt) (z first next : ℕ) →
    AllLie (BlockSpot first (first + opened_of rest) next (next + inner_of rest)) Any (sites_of rest (block_start rest z first) z next)
list_spots rest z first next =
    list_lie (BlockSpot first (first + opened_of rest) next (next + inner_of rest)) Any rest z first next tt (λ y l r. inl (l, r)) (λ y l r. tt) (λ y l r. inr (l, r)) (λ y l r. tt)

pub list_apart : (rest : List Stmt) (z first next : ℕ) → first + opened_of rest ≤ next → AreApart (sites_of rest (block_start rest z first) z next)
list_apart [] z first next h = tt
list_apart (s ∷ rest) z first next h =
    apart_append (sites s.place s.kind first (block_start rest z next) (next + opened_of rest))
    (sites_of rest (block_start rest z next) z ((next + opened_of rest) + inner s.kind))
    (apart s.place s.kind first (block_start rest z next) (next + opened_of rest) (omega (arith, h)))
    (list_apart rest z next ((next + opened_of rest) + inner s.kind) (omega arith))
    (clear_lies _ _ _ _ (site_spots s.place s.kind first (block_start rest z next) (next + opened_of rest))
    (list_spots rest z next ((next + opened_of rest) + inner s.kind))
    (λ x y f g e. grind arith))

-- the sites of a body stand apart
pub body_apart : (body : List Stmt) (entry next : ℕ) → entry < next → AreApart (body_sites body entry next)
body_apart [] entry next h = tt
body_apart (s ∷ rest) entry next h = list_apart (s ∷ rest) next entry (next + 1) (omega (arith, h))

-- no statement stands at the end of a body
pub none_at_end : (body : List Stmt) (entry next : ℕ) → entry < next → NoneAt (end_of_body body entry next) (body_sites body entry next)
none_at_end [] entry next h = tt
none_at_end (s ∷ rest) entry next h = none_lies _ next _ (list_spots (s ∷ rest) next entry (next + 1)) (λ y f e. grind arith)
