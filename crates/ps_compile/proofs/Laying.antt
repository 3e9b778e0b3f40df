-- A body that is laid out begins at its entry.
use Rattle.std.proofs.Common.{◌≡◌, Bool, true, false, ◌==◌, refl, sym, ◌∙◌, ap, subst, ℕ, ◌+◌, ◌<◌, List, [], ◌∷◌, ◌++◌, map, inl, inr, arith, eq-eqb, cond}
use Rattle.std.proofs.lemmas.Bool.{eqb-true}
use Rattle.std.specs.List.{AllByRecursion}
use Rattle.ps_command.specs.declared.command.Command.{Command}
use Rattle.ps_graph.proofs.Members.{in_right}
use Rattle.ps_compile.proofs.Spots.{NoneAt, AreApart}
use Rattle.ps_compile.proofs.Worth.{says_ops}
use Rattle.ps_compile.specs.Compiled.{IsEdge, AreEdges}
use Rattle.ps_graph.proofs.Members.{IsIn}
use Rattle.ps_graph.specs.Follows.{SaysOps, AreRealised, leaving, StmtConnects, BlockConnects, RestBeginsAt}
use Rattle.ps_compile.specs.Layout.{Site, Planned, planned_at, all_planned, start_location, opened, inner, inner_all, sites, sites_all, block_start, opened_of, sites_of, end_of_body, body_sites}
use Rattle.ps_graph.specs.Paths.{Act}
use Rattle.ps_graph.specs.declared.edge.Edge.{Edge}
use Rattle.ps_tree.specs.declared.stmt.Stmt.{Stmt}
use Rattle.ps_tree.specs.declared.stmt.StmtKind.{StmtKind, Assign, Havoc, Assume, Assert, Skip, Atomic', If', While', Row_of-Stmt, end_of-Stmt, more_of-Stmt}
use Rattle.ps_token.specs.declared.place.Place.{Place}

-- ---- the edges of each site

-- edges one by one, of ways one list after another
pub record Split (commands : List Command) (us ws : List Planned) (es : List Edge) : Type 0 where
  pub first : List Edge
  pub second : List Edge
  pub is : es ≡ first ++ second
  pub left : AreEdges commands us first
  pub right : AreEdges commands ws second

pub split : (commands : List Command) (us ws : List Planned) (es : List Edge) → AreEdges commands (us ++ ws) es → Split commands us ws es
split commands [] ws es h = record { first = []; second = es; is = refl; left = tt; right = h }
split commands (u ∷ us) ws [] h = absurd h
split commands (u ∷ us) ws (e ∷ es) h = at (split commands us ws es h.1)
  where
    at : Split commands us ws es → Split commands (u ∷ us) ws (e ∷ es)
    at s = record { first = e ∷ s.first; second = s.second; is = ap (λ (l : List Edge). e ∷ l) s.is; left = (h.0, s.left); right = s.right }

leaving_append : (a : ℕ) (xs ys : List Edge) → leaving a (xs ++ ys) ≡ leaving a xs ++ leaving a ys
leaving_append a [] ys = refl
leaving_append a (x ∷ xs) ys = at (x.source == a) (leaving_append a xs ys)
  where
    at : (t : Bool) → leaving a (xs ++ ys) ≡ leaving a xs ++ leaving a ys →
        cond t (x ∷ leaving a (xs ++ ys)) (leaving a (xs ++ ys)) ≡ cond t (x ∷ leaving a xs) (leaving a xs) ++ leaving a ys
    at true e = ap (λ (l : List Edge). x ∷ l) e
    at false e = e

leaves : (a : ℕ) (e : Edge) (es : List Edge) → e.source ≡ a → leaving a (e ∷ es) ≡ e ∷ leaving a es
leaves a e es h = at (e.source == a) (eq-eqb e.source a h)
  where
    at : (t : Bool) → t ≡ true → cond t (e ∷ leaving a es) (leaving a es) ≡ e ∷ leaving a es
    at true h = refl
    at false h = let no_such : false ≡ true = h in cc

leaves_not : (a : ℕ) (e : Edge) (es : List Edge) → ¬ (e.source ≡ a) → leaving a (e ∷ es) ≡ leaving a es
leaves_not a e es h = at (e.source == a) refl
  where
    at : (t : Bool) → (e.source == a) ≡ t → cond t (e ∷ leaving a es) (leaving a es) ≡ leaving a es
    at true t = absurd (h (eqb-true e.source a t))
    at false t = refl

-- the edges of a site leave it, and realise its paths
one_site : (commands : List Command) (a : ℕ) (ps : List (List Act × ℕ)) (es : List Edge) →
    AreEdges commands (map (λ (p : List Act × ℕ). let w : Planned = record { source = a; path = p.0; goal = p.1 } in w) ps) es →
    (leaving a es ≡ es) × AreRealised commands a ps es
one_site commands a [] [] h = (refl, tt)
one_site commands a [] (e ∷ es) h = absurd h
one_site commands a (p ∷ ps) [] h = absurd h
one_site commands a (p ∷ ps) (e ∷ es) h = at h.0 (one_site commands a ps es h.1)
  where
    at : IsEdge commands (record { source = a; path = p.0; goal = p.1 }) e → (leaving a es ≡ es) × AreRealised commands a ps es →
        (leaving a (e ∷ es) ≡ e ∷ es) × AreRealised commands a (p ∷ ps) (e ∷ es)
    at d rest = (
      leaves a e es d.source ∙ ap (λ (l : List Edge). e ∷ l) rest.0,
      (record { source = d.source; target = d.target; ops = subst (λ l. SaysOps p.0 l) (sym d.ops) (says_ops p.0); picks = d.picks }, rest.1),
    )

other_site : (commands : List Command) (a b : ℕ) (ps : List (List Act × ℕ)) (es : List Edge) → ¬ (b ≡ a) →
    AreEdges commands (map (λ (p : List Act × ℕ). let w : Planned = record { source = b; path = p.0; goal = p.1 } in w) ps) es →
    leaving a es ≡ []
other_site commands a b [] [] n h = refl
other_site commands a b [] (e ∷ es) n h = absurd h
other_site commands a b (p ∷ ps) [] n h = absurd h
other_site commands a b (p ∷ ps) (e ∷ es) n h = at h.0 (other_site commands a b ps es n h.1)
  where
    at : IsEdge commands (record { source = b; path = p.0; goal = p.1 }) e → leaving a es ≡ [] → leaving a (e ∷ es) ≡ []
    at d rest = leaves_not a e es (λ s. n (sym d.source ∙ s)) ∙ rest

-- no edge leaves where no site stands
pub none_leaves : (commands : List Command) (a : ℕ) (ss : List Site) (es : List Edge) → NoneAt a ss →
    AreEdges commands (all_planned ss) es → leaving a es ≡ []
none_leaves commands a [] [] n h = refl
none_leaves commands a [] (e ∷ es) n h = absurd h
none_leaves commands a (s ∷ ss) es n h = at (split commands (planned_at s) (all_planned ss) es h) (λ fs r. none_leaves commands a ss fs n.1 r)
  where
    at : Split commands (planned_at s) (all_planned ss) es → ((fs : List Edge) → AreEdges commands (all_planned ss) fs → leaving a fs ≡ []) → leaving a es ≡ []
    at d rest = ap (leaving a) d.is ∙ leaving_append a d.first d.second
        ∙ ap (λ (l : List Edge). l ++ leaving a d.second) (other_site commands a s.at s.paths d.first n.0 d.left)
        ∙ rest d.second d.right

append_nil : (xs : List Edge) → xs ++ [] ≡ xs
append_nil [] = refl
append_nil (x ∷ xs) = ap (λ (l : List Edge). x ∷ l) (append_nil xs)

-- the edges that leave where a site stands realise its paths
pub realised_at : (commands : List Command) (ss : List Site) (es : List Edge) → AreApart ss → AreEdges commands (all_planned ss) es →
    (s : Site) → IsIn s ss → AreRealised commands s.at s.paths (leaving s.at es)
realised_at commands [] es f h s i = absurd i
realised_at commands (t ∷ ss) es f h s (inl same) = at (split commands (planned_at t) (all_planned ss) es h)
  where
    at : Split commands (planned_at t) (all_planned ss) es → AreRealised commands s.at s.paths (leaving s.at es)
    at d = subst (λ (u : Site). AreRealised commands u.at u.paths (leaving u.at es)) (sym same)
        (subst (λ (l : List Edge). AreRealised commands t.at t.paths l) (sym all) one.1)
      where
        one : (leaving t.at d.first ≡ d.first) × AreRealised commands t.at t.paths d.first
        one = one_site commands t.at t.paths d.first d.left

        all : leaving t.at es ≡ d.first
        all = ap (leaving t.at) d.is ∙ leaving_append t.at d.first d.second
            ∙ ap (λ (l : List Edge). leaving t.at d.first ++ l) (none_leaves commands t.at ss d.second f.0 d.right)
            ∙ append_nil (leaving t.at d.first) ∙ one.0
realised_at commands (t ∷ ss) es f h s (inr i) = at (split commands (planned_at t) (all_planned ss) es h) (λ fs r. realised_at commands ss fs f.1 r s i)
  where
    at : Split commands (planned_at t) (all_planned ss) es → ((fs : List Edge) → AreEdges commands (all_planned ss) fs → AreRealised commands s.at s.paths (leaving s.at fs)) →
        AreRealised commands s.at s.paths (leaving s.at es)
    at d rest = subst (λ (l : List Edge). AreRealised commands s.at s.paths l) (sym all) (rest d.second d.right)
      where
        apart_of : (us : List Site) → NoneAt t.at us → IsIn s us → ¬ (t.at ≡ s.at)
        apart_of [] n j = absurd j
        apart_of (u ∷ us) n (inl e) = λ q. n.0 (ap (λ (r : Site). r.at) (sym e) ∙ sym q)
        apart_of (u ∷ us) n (inr j) = apart_of us n.1 j

        all : leaving s.at es ≡ leaving s.at d.second
        all = ap (leaving s.at) d.is ∙ leaving_append s.at d.first d.second
            ∙ ap (λ (l : List Edge). l ++ leaving s.at d.second) (other_site commands s.at t.at t.paths d.first (apart_of ss f.0 i) d.left)

-- ---- each statement connects its locations

abbrev pub AllIn : List Site → List Site → Type 0
AllIn xs all = AllByRecursion (λ (s : Site). IsIn s all) xs

in_first : (xs ys all : List Site) → AllIn (xs ++ ys) all → AllIn xs all
in_first [] ys all h = tt
in_first (x ∷ xs) ys all h = (h.0, in_first xs ys all h.1)

in_second : (xs ys all : List Site) → AllIn (xs ++ ys) all → AllIn ys all
in_second [] ys all h = h
in_second (x ∷ xs) ys all h = in_second xs ys all h.1

pub all_in : (done all : List Site) → AllIn all (done ++ all)
all_in done [] = tt
all_in done (s ∷ ss) = (in_right s done (s ∷ ss) (inl refl), subst (λ (l : List Site). AllIn ss l) (one_more done) (all_in (done ++ s ∷ []) ss))
  where
    one_more : (l : List Site) → (l ++ s ∷ []) ++ ss ≡ l ++ s ∷ ss
    one_more [] = refl
    one_more (x ∷ l) = ap (λ (m : List Site). x ∷ m) (one_more l)

module _ (commands : List Command) (edges : List Edge) (all : List Site) (realise : (s : Site) → IsIn s all → AreRealised commands s.at s.paths (leaving s.at edges)) where
  mutual
    pub connects : (place : Place) (k : StmtKind) (a z next : ℕ) → 1 < next → AllIn (sites place k a z next) all → StmtConnects commands edges k a z
    connects place (Assign x s) a z next l h = realise _ h.0
    connects place (Havoc x) a z next l h = realise _ h.0
    connects place (Assume c) a z next l h = realise _ h.0
    connects place (Assert c) a z next l h = realise _ h.0
    connects place Skip a z next l h = realise _ h.0
    connects place (Atomic' n b) a z next l h = realise _ h.0
    connects place (If' t i held j failed) a z next l h = (
      start_location held z next,
      start_location failed z (next + opened held),
      realise _ h.0,
      all_connect held z next (next + (opened held + opened failed)) (omega (arith, l)) (omega (arith, l))
          (in_first (sites_all held (start_location held z next) z (next + (opened held + opened failed)))
          (sites_all failed (start_location failed z (next + opened held)) z ((next + (opened held + opened failed)) + inner_all held)) all h.1),
      all_connect failed z (next + opened held) ((next + (opened held + opened failed)) + inner_all held) (omega (arith, l)) (omega (arith, l))
          (in_second (sites_all held (start_location held z next) z (next + (opened held + opened failed)))
          (sites_all failed (start_location failed z (next + opened held)) z ((next + (opened held + opened failed)) + inner_all held)) all h.1),
    )
    connects place (While' t i block) a z next l h =
        (start_location block a next, realise _ h.0, all_connect block a next (next + opened block) (omega (arith, l)) (omega (arith, l)) h.1)

    pub all_connect : {n : _} (row : Row_of-Stmt n) (z first next : ℕ) → ¬ (first ≡ 1) → 1 < next →
        AllIn (sites_all row (start_location row z first) z next) all → BlockConnects commands edges row (start_location row z first) z
    all_connect end_of-Stmt z first next n l h = refl
    all_connect (more_of-Stmt place k rest) z first next n l h = (
      start_location rest z next,
      n,
      connects place k first (start_location rest z next) (next + opened rest) (omega (arith, l))
          (in_first (sites place k first (start_location rest z next) (next + opened rest)) (sites_all rest (start_location rest z next) z ((next + opened rest) + inner k)) all h),
      all_connect rest z next ((next + opened rest) + inner k) (omega (arith, l)) (omega (arith, l))
          (in_second (sites place k first (start_location rest z next) (next + opened rest)) (sites_all rest (start_location rest z next) z ((next + opened rest) + inner k)) all h),
    )

  -- a rest of statements begins where it starts, where no edge leaves its end
  pub list_begins : (rest : List Stmt) (z first next : ℕ) → ¬ (first ≡ 1) → 1 < next → ¬ (z ≡ 1) → leaving z edges ≡ [] →
      AllIn (sites_of rest (block_start rest z first) z next) all → RestBeginsAt commands edges rest (block_start rest z first)
  list_begins [] z first next n l nz none h = (nz, none)
  list_begins (s ∷ rest) z first next n l nz none h = (
    block_start rest z next,
    n,
    connects s.place s.kind first (block_start rest z next) (next + opened_of rest) (omega (arith, l))
        (in_first (sites s.place s.kind first (block_start rest z next) (next + opened_of rest)) (sites_of rest (block_start rest z next) z ((next + opened_of rest) + inner s.kind)) all h),
    list_begins rest z next ((next + opened_of rest) + inner s.kind) (omega (arith, l)) (omega (arith, l)) nz none
        (in_second (sites s.place s.kind first (block_start rest z next) (next + opened_of rest)) (sites_of rest (block_start rest z next) z ((next + opened_of rest) + inner s.kind)) all h),
  )

-- a body begins at its entry, where no edge leaves its end
pub body_begins : (commands : List Command) (edges : List Edge) (all : List Site) →
    ((s : Site) → IsIn s all → AreRealised commands s.at s.paths (leaving s.at edges)) →
    (body : List Stmt) (entry next : ℕ) → ¬ (entry ≡ 1) → 1 < next → leaving (end_of_body body entry next) edges ≡ [] →
    AllIn (body_sites body entry next) all → RestBeginsAt commands edges body entry
body_begins commands edges all realise [] entry next n l none h = (n, none)
body_begins commands edges all realise (s ∷ rest) entry next n l none h =
    list_begins commands edges all realise (s ∷ rest) next entry (next + 1) n (omega (arith, l)) (λ e. (let no_such : ⊥ = omega (arith, e, l) in no_such)) none h
