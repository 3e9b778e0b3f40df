-- Paths one after another are routes one after another.
use Rattle.std.proofs.Common.{◌≡◌, Bool, true, false, refl, sym, ◌∙◌, ap, ap₂, ℕ, suc, ◌-◌, ◌<◌, List, [], ◌∷◌, ◌++◌, map, length, drop, get_or, drop-cons, arith, if◌then◌else◌}
use Rattle.std.proofs.lemmas.List.{map-append}
use Rattle.ps_command.specs.declared.op.Op.{Op}
use Rattle.ps_command.specs.declared.op.Op.TheVariants as op
use Rattle.ps_graph.specs.declared.edge.Pick.TheVariants as pick
use Rattle.ps_compile.specs.inner.Counts.{paths_of}
use Rattle.ps_compile.specs.Ops.{bound_row, sum_term}
use Rattle.ps_graph.specs.Paths.{Act, Guards, Assigns, Havocs, Chooses, Fails, is_failing, followed, guarded_by, paths, ways}
use Rattle.ps_graph.specs.declared.edge.Pick.{Pick}
use Rattle.ps_compile.proofs.Counting.{if_is}
use Rattle.ps_graph.specs.Alternatives.{Bound, alternatives}
use Rattle.ps_tree.specs.declared.cond.Cond.{Cond}
use Rattle.ps_tree.specs.declared.cond.Test.{Test}
use Rattle.ps_tree.specs.declared.stmt.Stmt.{Stmt}
use Rattle.ps_tree.specs.declared.stmt.StmtKind.{StmtKind}
use Rattle.ps_tree.specs.declared.stmt.StmtKind.TheVariants.{If}
use Rattle.ps_compile.specs.inner.Drafts.{draft_from, draft_of, route_of}
use Rattle.ps_compile.specs.declared.draft.Draft.{Draft}
use Rattle.ps_graph.specs.Follows.{going_to}
use Rattle.ps_compile.specs.Layout.{planned_from}
use Rattle.ps_compile.specs.inner.Routes.{cond_paths, guarded_route, join, after_all}
use Rattle.ps_compile.specs.declared.route.Route.{Route}

abbrev with_op : Op → Route → Route
with_op o r = record r { command = record { ops = o ∷ r.command.ops } }

abbrev with_pick : Pick → Route → Route
with_pick o r = record r { picks = o ∷ r.picks }

-- a path after one that doesn't fail
pub joins : (p q : List Act) → is_failing p ≡ false → route_of (p ++ q) ≡ join (route_of p) (route_of q)
joins [] q e = refl
joins (Guards b ∷ p) q e = ap (with_op (op.Assume (bound_row b))) (joins p q e)
joins (Assigns x s ∷ p) q e = ap (with_op (op.Assign x (sum_term s))) (joins p q e)
joins (Havocs x ∷ p) q e = ap (λ (r : Route). with_pick pick.Value (with_op (op.Havoc x) r)) (joins p q e)
joins (Chooses b ∷ p) q e = ap (with_pick (pick.Star b)) (joins p q e)
joins (Fails ∷ p) q e = cc

-- the routes of conditions
guarded_is : (bs : List Bound) → guarded_route false (map bound_row bs) ≡ route_of (guarded_by bs)
guarded_is [] = refl
guarded_is (b ∷ bs) = ap (with_op (op.Assume (bound_row b))) (guarded_is bs)

failed_is : (bs : List Bound) → guarded_route true (map bound_row bs) ≡ route_of (guarded_by bs ++ Fails ∷ [])
failed_is [] = refl
failed_is (b ∷ bs) = ap (with_op (op.Assume (bound_row b))) (failed_is bs)

pub guarded_are : (holds fails : Bool) (c : Cond) → map (guarded_route fails) (map (map bound_row) (alternatives holds c)) ≡ map route_of (cond_paths holds fails c)
guarded_are holds true c = each (alternatives holds c)
  where
    each : (alts : List (List Bound)) → map (guarded_route true) (map (map bound_row) alts) ≡ map route_of (map (λ (bs : List Bound). guarded_by bs ++ Fails ∷ []) alts)
    each [] = refl
    each (bs ∷ alts) = ap₂ (λ (r : Route) (rs : List Route). r ∷ rs) (failed_is bs) (each alts)
guarded_are holds false c = each (alternatives holds c)
  where
    each : (alts : List (List Bound)) → map (guarded_route false) (map (map bound_row) alts) ≡ map route_of (map guarded_by alts)
    each [] = refl
    each (bs ∷ alts) = ap₂ (λ (r : Route) (rs : List Route). r ∷ rs) (guarded_is bs) (each alts)

one_joins : (p : List Act) (qs : List (List Act)) → is_failing p ≡ false → map route_of (map (λ (q : List Act). p ++ q) qs) ≡ map (join (route_of p)) (map route_of qs)
one_joins p [] e = refl
one_joins p (q ∷ qs) e = ap₂ (λ (r : Route) (rs : List Route). r ∷ rs) (joins p q e) (one_joins p qs e)

pub follows : (ps qs : List (List Act)) → map route_of (followed ps qs) ≡ after_all (map route_of ps) (map route_of qs)
follows [] qs = refl
follows (p ∷ ps) qs =
    map-append route_of (if is_failing p then p ∷ [] else map (λ (q : List Act). p ++ q) qs) (followed ps qs)
    ∙ ap₂ (λ (x y : List Route). x ++ y) (at (is_failing p) refl) (follows ps qs)
  where
    at : (t : Bool) → is_failing p ≡ t → map route_of (if t then p ∷ [] else map (λ (q : List Act). p ++ q) qs) ≡ (if t then route_of p ∷ [] else map (join (route_of p)) (map route_of qs))
    at true e = refl
    at false e = one_joins p qs e

pub routes_step : (new first all sf sa : List Route) (s : Stmt) (block : List Stmt) (i : ℕ) → 0 < i → i - 1 < length block → s ≡ get_or block (i - 1) s →
    first ≡ map route_of (paths s.kind) → all ≡ map route_of (paths_of (drop i block)) → sf ≡ first → sa ≡ all → new ≡ after_all sf sa →
    new ≡ map route_of (paths_of (drop (i - 1) block))
routes_step new first all sf sa s block i pos lt is ef ea es et en =
    en ∙ ap₂ after_all (es ∙ ef) (et ∙ ea) ∙ sym (follows (paths s.kind) (paths_of (drop i block)))
    ∙ ap (λ (b : List Stmt). map route_of (paths_of b)) (sym here)
  where
    here : drop (i - 1) block ≡ s ∷ drop i block
    here = drop-cons block (i - 1) s lt ∙ ap₂ (λ (x : Stmt) (k : ℕ). x ∷ drop k block) (sym is) (let e : suc (i - 1) ≡ i = omega (arith, pos) in e)

pub if_routes : (k : StmtKind) (t : Test) (x y bx by : List Stmt) (new all others h hs f fs first firsts second seconds : List Route) → k ≡ If t x y → bx ≡ x → by ≡ y →
    h ≡ map route_of (ways true t) → hs ≡ h → first ≡ map route_of (paths_of bx) → firsts ≡ first → all ≡ after_all hs firsts →
    f ≡ map route_of (ways false t) → fs ≡ f → second ≡ map route_of (paths_of by) → seconds ≡ second → others ≡ after_all fs seconds →
    new ≡ all ++ others → new ≡ map route_of (paths k)
if_routes k t x y bx by new all others h hs f fs first firsts second seconds e ex ey eh ehs ef efs ea eg egs es ess eo en =
    en ∙ ap₂ (λ (i j : List Route). i ++ j)
    (ea ∙ ap₂ after_all (ehs ∙ eh) (efs ∙ ef ∙ ap (λ (b : List Stmt). map route_of (paths_of b)) ex) ∙ sym (follows (ways true t) (paths_of x)))
    (eo ∙ ap₂ after_all (egs ∙ eg) (ess ∙ es ∙ ap (λ (b : List Stmt). map route_of (paths_of b)) ey) ∙ sym (follows (ways false t) (paths_of y)))
    ∙ sym (map-append route_of (followed (ways true t) (paths_of x)) (followed (ways false t) (paths_of y)))
    ∙ ap (map route_of) (sym (if_is t x y) ∙ ap paths (sym e))

-- the edges of paths that go on to one location
pub drafts_are : (a goal : ℕ) (ps : List (List Act)) → map draft_of (planned_from a (going_to goal ps)) ≡ map (draft_from a goal) (map route_of ps)
drafts_are a goal [] = refl
drafts_are a goal (p ∷ ps) = ap (λ (l : List Draft). draft_of (record { source = a; path = p; goal = goal }) ∷ l) (drafts_are a goal ps)

pub drafts_both : (a b c : ℕ) (ps qs : List (List Act)) → map draft_of (planned_from a (going_to b ps ++ going_to c qs)) ≡ map (draft_from a b) (map route_of ps) ++ map (draft_from a c) (map route_of qs)
drafts_both a b c [] qs = drafts_are a c qs
drafts_both a b c (p ∷ ps) qs = ap (λ (l : List Draft). draft_of (record { source = a; path = p; goal = b }) ∷ l) (drafts_both a b c ps qs)
