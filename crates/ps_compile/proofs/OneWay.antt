-- Two paths of one statement that both run with the same choices come to the same, at the same location.
use Rattle.std.proofs.Common.{◌≡◌, Bool, true, false, refl, sym, ◌∙◌, ap, subst, ℕ, ◌+◌, ℤ, List, [], ◌∷◌, ◌++◌, ◌⊎◌, inl, inr, if◌then◌else◌}
use Rattle.std.specs.Prelude.{Option, Some, None}
use Rattle.std.specs.List.{AllByRecursion}
use Rattle.std.proofs.lemmas.Option.{same_Some}
use Rattle.ps_command.specs.Values.{Values}
use Rattle.ps_command.specs.declared.command.Command.{Command}
use Rattle.ps_graph.proofs.Agreement.{gives, Agree, came, agrees, ways_agree, NotFailing, never_fails, NotNormal, never_normal}
use Rattle.ps_graph.proofs.Choices.{used, after_realised}
use Rattle.ps_compile.proofs.Laying.{split, Split, realised_at}
use Rattle.ps_graph.proofs.Members.{IsIn, in_of_contains, in_either, in_leaving, of_going, path_of, sound_path}
use Rattle.ps_compile.proofs.Spots.{AreApart}
use Rattle.ps_compile.specs.Compiled.{AreEdges}
use Rattle.ps_graph.specs.Facts.{after_edge, IsDeterministic}
use Rattle.ps_graph.specs.Follows.{Realises, going_to, leaving}
use Rattle.ps_compile.specs.Layout.{Site, planned_at, all_planned, start_location, opened, inner, inner_all, sites, sites_all, block_start, opened_of, sites_of}
use Rattle.ps_graph.specs.Paths.{Act, is_failing, paths, ways}
use Rattle.ps_graph.specs.Step.{Completion, Normal, Failing, Blocked, decided, step_within}
use Rattle.ps_graph.specs.declared.edge.Edge.{Edge}
use Rattle.ps_tree.specs.declared.cond.Test.{Test}
use Rattle.ps_tree.specs.declared.stmt.Stmt.{Stmt}
use Rattle.ps_tree.specs.declared.stmt.StmtKind.{StmtKind, Assign, Havoc, Assume, Assert, Skip, Atomic', If', While', Row_of-Stmt, end_of-Stmt, more_of-Stmt}
use Rattle.ps_token.specs.declared.place.Place.{Place}

-- the location to which a path leads
abbrev pub lands : List Act × ℕ → ℕ
lands p = if is_failing p.0 then 1 else p.1

-- two of the paths that run with the same choices lead to one location, with the same values
abbrev pub IsOneWay : List (List Act × ℕ) → Type 0
IsOneWay ps = (p q : List Act × ℕ) → IsIn p ps → IsIn q ps → (v w x : Values) (cs : List ℤ) →
    used (gives p.0 v cs) ≡ Some w → used (gives q.0 v cs) ≡ Some x → (lands p ≡ lands q) × (w ≡ x)

-- the outcome is a failed assertion
abbrev broke : Completion → Bool
broke (Failing _ _) = true
broke _ = false

-- a path that runs leads to the error exactly where its outcome is a failed assertion
breaks_where : (p : List Act) (v w : Values) (cs : List ℤ) → used (gives p v cs) ≡ Some w → is_failing p ≡ broke (gives p v cs)
breaks_where p v w cs u = at (is_failing p) refl (gives p v cs) refl u
  where
    at : (f : Bool) → is_failing p ≡ f → (o : Completion) → gives p v cs ≡ o → used o ≡ Some w → is_failing p ≡ broke o
    at true f (Normal x ds) g u = absurd (subst NotNormal g (never_normal p v cs f))
    at true f (Failing x ds) g u = f
    at true f Blocked g u = cc
    at false f (Normal x ds) g u = f
    at false f (Failing x ds) g u = absurd (subst NotFailing g (never_fails p v cs f))
    at false f Blocked g u = cc

-- a path that runs gives the outcome on which the paths agree
runs_to : (p : List Act) (v w : Values) (cs : List ℤ) (o : Completion) → used (gives p v cs) ≡ Some w →
    (gives p v cs ≡ Blocked) ⊎ (gives p v cs ≡ o) → gives p v cs ≡ o
runs_to p v w cs o u (inl e) = let no_such : None ≡ Some w = sym (ap used e) ∙ u in cc
runs_to p v w cs o u (inr e) = e

same_way : (p q : List Act × ℕ) (v w x : Values) (cs : List ℤ) (o : Completion) → used (gives p.0 v cs) ≡ Some w → used (gives q.0 v cs) ≡ Some x →
    gives p.0 v cs ≡ o → gives q.0 v cs ≡ o → p.1 ≡ q.1 → (lands p ≡ lands q) × (w ≡ x)
same_way p q v w x cs o u t g h e = (
  landing (is_failing p.0) (is_failing q.0) (breaks_where p.0 v w cs u ∙ ap broke (g ∙ sym h) ∙ sym (breaks_where q.0 v x cs t)),
  same_Some w x (sym u ∙ ap used (g ∙ sym h) ∙ t),
)
  where
    landing : (a b : Bool) → a ≡ b → (if a then 1 else p.1) ≡ (if b then 1 else q.1)
    landing true true s = refl
    landing true false s = cc
    landing false true s = cc
    landing false false s = e

-- paths that agree on one outcome, all of which go on to one location
agreed_way : (z : ℕ) (ps : List (List Act)) (o : Values → List ℤ → Completion) → ((v : Values) (cs : List ℤ) → Agree ps v cs (o v cs)) → IsOneWay (going_to z ps)
agreed_way z ps o agree p q i j v w x cs u t =
    let a : IsIn p.0 ps × (p.1 ≡ z) = of_going z p ps i in
    let b : IsIn q.0 ps × (q.1 ≡ z) = of_going z q ps j in
    same_way p q v w x cs (o v cs) u t
    (runs_to p.0 v w cs (o v cs) u (sound_path ps v cs (o v cs) p.0 (agree v cs).sound a.0))
    (runs_to q.0 v x cs (o v cs) t (sound_path ps v cs (o v cs) q.0 (agree v cs).sound b.0))
    (a.1 ∙ sym b.1)

-- a path of a test that holds and one of a test that fails don't both run
apart_ways : (d : Option (Bool × List ℤ)) (v w x : Values) → used (came true d v) ≡ Some w → used (came false d v) ≡ Some x → ⊥
apart_ways None v w x u t = cc
apart_ways (Some (true, cs)) v w x u t = cc
apart_ways (Some (false, cs)) v w x u t = cc

test_way : (b c : ℕ) (t : Test) → IsOneWay (going_to b (ways true t) ++ going_to c (ways false t))
test_way b c t p q i j v w x cs u s =
    at (in_either p (going_to b (ways true t)) (going_to c (ways false t)) i) (in_either q (going_to b (ways true t)) (going_to c (ways false t)) j)
  where
    came_of : (h : Bool) (g : ℕ) (r : List Act × ℕ) (y : Values) → IsIn r (going_to g (ways h t)) → used (gives r.0 v cs) ≡ Some y →
        used (came h (decided t v cs) v) ≡ Some y
    came_of h g r y k e =
        ap used (sym (runs_to r.0 v y cs (came h (decided t v cs) v) e
        (sound_path (ways h t) v cs (came h (decided t v cs) v) r.0 (ways_agree h t v cs).sound (of_going g r (ways h t) k).0))) ∙ e

    at : IsIn p (going_to b (ways true t)) ⊎ IsIn p (going_to c (ways false t)) → IsIn q (going_to b (ways true t)) ⊎ IsIn q (going_to c (ways false t)) →
        (lands p ≡ lands q) × (w ≡ x)
    at (inl f) (inl g) = agreed_way b (ways true t) (λ v cs. came true (decided t v cs) v) (λ v cs. ways_agree true t v cs) p q f g v w x cs u s
    at (inr f) (inr g) = agreed_way c (ways false t) (λ v cs. came false (decided t v cs) v) (λ v cs. ways_agree false t v cs) p q f g v w x cs u s
    at (inl f) (inr g) = absurd (apart_ways (decided t v cs) v w x (came_of true b p w f u) (came_of false c q x g s))
    at (inr f) (inl g) = absurd (apart_ways (decided t v cs) v x w (came_of true b q x g s) (came_of false c p w f u))

abbrev pub AllOneWay : List Site → Type 0
AllOneWay ss = AllByRecursion (λ (s : Site). IsOneWay s.paths) ss

one_way_append : (xs ys : List Site) → AllOneWay xs → AllOneWay ys → AllOneWay (xs ++ ys)
one_way_append [] ys a b = b
one_way_append (x ∷ xs) ys a b = (a.0, one_way_append xs ys a.1 b)

simple_way : (k : StmtKind) (z : ℕ) → IsOneWay (going_to z (paths k))
simple_way k z = agreed_way z (paths k) (step_within k) (λ v cs. agrees k v cs)

mutual
  pub one_way : (place : Place) (k : StmtKind) (a z next : ℕ) → AllOneWay (sites place k a z next)
  one_way place (Assign x s) a z next = (simple_way (Assign x s) z, tt)
  one_way place (Havoc x) a z next = (simple_way (Havoc x) z, tt)
  one_way place (Assume c) a z next = (simple_way (Assume c) z, tt)
  one_way place (Assert c) a z next = (simple_way (Assert c) z, tt)
  one_way place Skip a z next = (simple_way Skip z, tt)
  one_way place (Atomic' n b) a z next = (simple_way (Atomic' n b) z, tt)
  one_way place (If' t i held j failed) a z next = (
    test_way (start_location held z next) (start_location failed z (next + opened held)) t,
    one_way_append
        (sites_all held (start_location held z next) z (next + (opened held + opened failed)))
        (sites_all failed (start_location failed z (next + opened held)) z ((next + (opened held + opened failed)) + inner_all held))
        (all_one_way held (start_location held z next) z (next + (opened held + opened failed)))
        (all_one_way failed (start_location failed z (next + opened held)) z ((next + (opened held + opened failed)) + inner_all held)),
  )
  one_way place (While' t i block) a z next =
      (test_way (start_location block a next) z t, all_one_way block (start_location block a next) a (next + opened block))

  pub all_one_way : {n : _} (row : Row_of-Stmt n) (a z next : ℕ) → AllOneWay (sites_all row a z next)
  all_one_way end_of-Stmt a z next = tt
  all_one_way (more_of-Stmt place k rest) a z next =
      one_way_append (sites place k a (start_location rest z next) (next + opened rest)) (sites_all rest (start_location rest z next) z ((next + opened rest) + inner k))
      (one_way place k a (start_location rest z next) (next + opened rest))
      (all_one_way rest (start_location rest z next) z ((next + opened rest) + inner k))

pub list_one_way : (rest : List Stmt) (a z next : ℕ) → AllOneWay (sites_of rest a z next)
list_one_way [] a z next = tt
list_one_way (s ∷ rest) a z next =
    one_way_append (sites s.place s.kind a (block_start rest z next) (next + opened_of rest)) (sites_of rest (block_start rest z next) z ((next + opened_of rest) + inner s.kind))
    (one_way s.place s.kind a (block_start rest z next) (next + opened_of rest))
    (list_one_way rest (block_start rest z next) z ((next + opened_of rest) + inner s.kind))

-- ---- the graph is deterministic

-- each edge leaves a site
site_of_edge : (commands : List Command) (ss : List Site) (es : List Edge) → AreEdges commands (all_planned ss) es → (e : Edge) → IsIn e es →
    (s : Site) × IsIn s ss × (e.source ≡ s.at)
site_of_edge commands [] [] h e i = absurd i
site_of_edge commands [] (d ∷ es) h e i = absurd h
site_of_edge commands (s ∷ ss) es h e i = at (split commands (planned_at s) (all_planned ss) es h) (λ fs r j. site_of_edge commands ss fs r e j)
  where
    leaves : (ps : List (List Act × ℕ)) (ds : List Edge) → AreEdges commands (planned_at (record s { paths = ps })) ds → IsIn e ds → e.source ≡ s.at
    leaves [] [] h j = absurd j
    leaves [] (d ∷ ds) h j = absurd h
    leaves (p ∷ ps) [] h j = absurd h
    leaves (p ∷ ps) (d ∷ ds) h (inl same) = ap (λ (f : Edge). f.source) same ∙ h.0.source
    leaves (p ∷ ps) (d ∷ ds) h (inr j) = leaves ps ds h.1 j

    at : Split commands (planned_at s) (all_planned ss) es → ((fs : List Edge) → AreEdges commands (all_planned ss) fs → IsIn e fs → (t : Site) × IsIn t ss × (e.source ≡ t.at)) →
        (t : Site) × IsIn t (s ∷ ss) × (e.source ≡ t.at)
    at d rest = elim (in_either e d.first d.second (subst (λ (l : List Edge). IsIn e l) d.is i)) [
      | inl j ↦ (s, inl refl, leaves s.paths d.first d.left j)
      | inr j ↦ later (rest d.second d.right j)
    ]
      where
        later : (t : Site) × IsIn t ss × (e.source ≡ t.at) → (t : Site) × IsIn t (s ∷ ss) × (e.source ≡ t.at)
        later (t, k, h) = (t, inr k, h)

way_of_site : (ss : List Site) → AllOneWay ss → (s : Site) → IsIn s ss → IsOneWay s.paths
way_of_site [] h s i = absurd i
way_of_site (t ∷ ss) h s (inl e) = subst (λ (u : Site). IsOneWay u.paths) (sym e) h.0
way_of_site (t ∷ ss) h s (inr i) = way_of_site ss h.1 s i

pub deterministic : (commands : List Command) (ss : List Site) (es : List Edge) → AreApart ss → AllOneWay ss → AreEdges commands (all_planned ss) es →
    IsDeterministic commands es
unfolding IsDeterministic
deterministic commands ss es apart way h = λ d e i j same v w x cs r t.
    let k : IsIn d es = in_of_contains d es i in
    at d e k (in_of_contains e es j) same v w x cs r t (site_of_edge commands ss es h d k)
  where
    at : (d e : Edge) → IsIn d es → IsIn e es → d.source ≡ e.source → (v w x : Values) (cs : List ℤ) → after_edge commands d v cs ≡ Some w →
        after_edge commands e v cs ≡ Some x → (s : Site) × IsIn s ss × (d.source ≡ s.at) → (d.target ≡ e.target) × (w ≡ x)
    at d e i j same v w x cs r t (s, k, a) = both
        (path_of commands s.at d s.paths (leaving s.at es) (realised_at commands ss es apart h s k) (in_leaving s.at d es i a))
        (path_of commands s.at e s.paths (leaving s.at es) (realised_at commands ss es apart h s k) (in_leaving s.at e es j (sym same ∙ a)))
      where
        both : (p : List Act × ℕ) × IsIn p s.paths × Realises commands s.at p.0 p.1 d → (q : List Act × ℕ) × IsIn q s.paths × Realises commands s.at q.0 q.1 e →
            (d.target ≡ e.target) × (w ≡ x)
        both (p, f, m) (q, g, n) =
            let o : (lands p ≡ lands q) × (w ≡ x) = way_of_site ss way s k p q f g v w x cs
            (sym (after_realised commands s.at p.0 p.1 d m v cs) ∙ r) (sym (after_realised commands s.at q.0 q.1 e n v cs) ∙ t) in
            (m.target ∙ o.0 ∙ sym n.target, o.1)
