-- The layout of statements with blocks, with their blocks as lists.
use Rattle.std.proofs.Common.{◌≡◌, true, false, refl, sym, ◌∙◌, ap, ap₂, subst, ℕ, suc, ◌+◌, ◌<◌, List, [], ◌∷◌, ◌++◌, map, length, replicate, Option, Some, arith, length-append, append_assoc, Result, drop, get_or, drop-cons}
use Rattle.std.proofs.lemmas.List.{length-replicate, replicate-append-replicate}
use Rattle.ps_compile.specs.Checks.{NoneIsExceeded, alternatives_checks, paths_checks, edges_checks, inner_checks, checks}
use Rattle.ps_graph.specs.Follows.{going_to}
use Rattle.ps_compile.specs.Layout.{Site, planned_from, all_planned, own_site, start_location, opened, inner, inner_all, sites, sites_all, block_start, opened_of, inner_of, sites_of}
use Rattle.ps_graph.specs.Paths.{ways}
use Rattle.ps_tree.specs.declared.cond.Test.{Test}
use Rattle.ps_tree.specs.declared.stmt.Stmt.{Stmt}
use Rattle.ps_tree.specs.declared.stmt.StmtKind.{StmtKind, Row_of-Stmt, end_of-Stmt, more_of-Stmt, items-the_row-Stmt}
use Rattle.ps_tree.specs.declared.stmt.StmtKind.TheVariants.{If, While}
use Rattle.ps_tree.specs.declared.stmt.StmtKind.TheBlock.{hidden-the_row-Stmt-0, items_hidden-the_row-Stmt-0}
use Rattle.ps_token.specs.declared.place.Place.{Place}
use Rattle.ps_compile.specs.Ends.{IsCompileEnd}
use Rattle.ps_compile.specs.inner.Drafts.{if_site, while_site, draft_of, commands_on, Grows, Lays, OpensIf, OpensWhile}
use Rattle.ps_compile.specs.declared.draft.Draft.{Draft}
use Rattle.ps_compile.specs.declared.plan.Plan.{Plan}
use Rattle.ps_compile.specs.declared.compile_end.CompileEnd.{CompileEnd}
use Rattle.ps_compile.proofs.Testing.{Laying, laying_more, laying_end, StillTests, site_grows, site_finishes, end_first, end_second, grows_both, lays_after}

-- ---- rows are lists

start_row : {n : _} (row : Row_of-Stmt n) (z next : ℕ) → start_location row z next ≡ block_start (items-the_row-Stmt n row) z next
start_row end_of-Stmt z next = refl
start_row (more_of-Stmt _ _ _) z next = refl

opened_row : {n : _} (row : Row_of-Stmt n) → opened row ≡ opened_of (items-the_row-Stmt n row)
opened_row end_of-Stmt = refl
opened_row (more_of-Stmt _ _ _) = refl

inner_row : {n : _} (row : Row_of-Stmt n) → inner_all row ≡ inner_of (items-the_row-Stmt n row)
inner_row end_of-Stmt = refl
inner_row (more_of-Stmt _ k rest) = ap₂ (λ (a b : ℕ). a + (inner k + b)) (opened_row rest) (inner_row rest)

sites_row : {n : _} (row : Row_of-Stmt n) (a z next : ℕ) → sites_all row a z next ≡ sites_of (items-the_row-Stmt n row) a z next
sites_row end_of-Stmt a z next = refl
sites_row {n} (more_of-Stmt place k rest) a z next =
    ap₂ (λ (b o : ℕ). sites place k a b (next + o) ++ sites_all rest b z ((next + o) + inner k)) (start_row rest z next) (opened_row rest)
    ∙ ap (λ (l : List Site). sites place k a (block_start (items-the_row-Stmt _ rest) z next) (next + opened_of (items-the_row-Stmt _ rest)) ++ l)
    (sites_row rest (block_start (items-the_row-Stmt _ rest) z next) z ((next + opened_of (items-the_row-Stmt _ rest)) + inner k))

start_list : (b : List Stmt) (z next : ℕ) → start_location (hidden-the_row-Stmt-0 b) z next ≡ block_start b z next
start_list b z next = start_row (hidden-the_row-Stmt-0 b) z next ∙ ap (λ (l : List Stmt). block_start l z next) (items_hidden-the_row-Stmt-0 b)

opened_list : (b : List Stmt) → opened (hidden-the_row-Stmt-0 b) ≡ opened_of b
opened_list b = opened_row (hidden-the_row-Stmt-0 b) ∙ ap opened_of (items_hidden-the_row-Stmt-0 b)

inner_list : (b : List Stmt) → inner_all (hidden-the_row-Stmt-0 b) ≡ inner_of b
inner_list b = inner_row (hidden-the_row-Stmt-0 b) ∙ ap inner_of (items_hidden-the_row-Stmt-0 b)

sites_list : (b : List Stmt) (a z next : ℕ) → sites_all (hidden-the_row-Stmt-0 b) a z next ≡ sites_of b a z next
sites_list b a z next = sites_row (hidden-the_row-Stmt-0 b) a z next ∙ ap (λ (l : List Stmt). sites_of l a z next) (items_hidden-the_row-Stmt-0 b)

-- ---- the equations

abbrev pub if_sites : Place → Test → List Stmt → List Stmt → ℕ → ℕ → ℕ → List Site
if_sites place t held failed a z next =
    own_site place (If t held failed) a (next + (opened_of held + opened_of failed))
    (going_to (block_start held z next) (ways true t) ++ going_to (block_start failed z (next + opened_of held)) (ways false t))
    ∷ (sites_of held (block_start held z next) z (next + (opened_of held + opened_of failed))
    ++ sites_of failed (block_start failed z (next + opened_of held)) z ((next + (opened_of held + opened_of failed)) + inner_of held))

same_five : {X : Type 0} (f : ℕ → ℕ → ℕ → ℕ → ℕ → X) (a a2 b b2 c c2 d d2 e e2 : ℕ) → a ≡ a2 → b ≡ b2 → c ≡ c2 → d ≡ d2 → e ≡ e2 → f a b c d e ≡ f a2 b2 c2 d2 e2
same_five f a a2 b b2 c c2 d d2 e e2 p q r s t =
    ap (λ (x : ℕ). f x b c d e) p ∙ (ap (λ (x : ℕ). f a2 x c d e) q ∙ (ap (λ (x : ℕ). f a2 b2 x d e) r ∙ (ap (λ (x : ℕ). f a2 b2 c2 x e) s ∙ ap (λ (x : ℕ). f a2 b2 c2 d2 x) t)))

pub if_is : (place : Place) (t : Test) (held failed : List Stmt) (a z next : ℕ) → sites place (If t held failed) a z next ≡ if_sites place t held failed a z next
if_is place t held failed a z next =
    same_five (λ (oh of ih sh sf : ℕ).
    own_site place (If t held failed) a (next + (oh + of)) (going_to sh (ways true t) ++ going_to sf (ways false t))
    ∷ (sites_all (hidden-the_row-Stmt-0 held) sh z (next + (oh + of)) ++ sites_all (hidden-the_row-Stmt-0 failed) sf z ((next + (oh + of)) + ih)))
    _ (opened_of held) _ (opened_of failed) _ (inner_of held) _ (block_start held z next) _ (block_start failed z (next + opened_of held))
    (opened_list held) (opened_list failed) (inner_list held) (start_list held z next)
    (ap (λ (o : ℕ). start_location (hidden-the_row-Stmt-0 failed) z (next + o)) (opened_list held) ∙ start_list failed z (next + opened_of held))
    ∙ ap₂ (λ (x y : List Site).
    own_site place (If t held failed) a (next + (opened_of held + opened_of failed))
    (going_to (block_start held z next) (ways true t) ++ going_to (block_start failed z (next + opened_of held)) (ways false t)) ∷ (x ++ y))
    (sites_list held (block_start held z next) z (next + (opened_of held + opened_of failed)))
    (sites_list failed (block_start failed z (next + opened_of held)) z ((next + (opened_of held + opened_of failed)) + inner_of held))

pub if_inner : (t : Test) (held failed : List Stmt) → inner (If t held failed) ≡ (opened_of held + opened_of failed) + (inner_of held + inner_of failed)
if_inner t held failed =
    ap₂ (λ (a b : ℕ). a + b) (ap₂ (λ (a b : ℕ). a + b) (opened_list held) (opened_list failed)) (ap₂ (λ (a b : ℕ). a + b) (inner_list held) (inner_list failed))

abbrev pub while_sites : Place → Test → List Stmt → ℕ → ℕ → ℕ → List Site
while_sites place t block a z next =
    own_site place (While t block) a (next + opened_of block) (going_to (block_start block a next) (ways true t) ++ going_to z (ways false t))
    ∷ sites_of block (block_start block a next) a (next + opened_of block)

pub while_is : (place : Place) (t : Test) (block : List Stmt) (a z next : ℕ) → sites place (While t block) a z next ≡ while_sites place t block a z next
while_is place t block a z next =
    ap₂ (λ (o s : ℕ). own_site place (While t block) a (next + o) (going_to s (ways true t) ++ going_to z (ways false t)) ∷ sites_all (hidden-the_row-Stmt-0 block) s a (next + o))
    (opened_list block) (start_list block a next)
    ∙ ap (λ (l : List Site). own_site place (While t block) a (next + opened_of block) (going_to (block_start block a next) (ways true t) ++ going_to z (ways false t)) ∷ l)
    (sites_list block (block_start block a next) a (next + opened_of block))

pub while_inner : (t : Test) (block : List Stmt) → inner (While t block) ≡ opened_of block + inner_of block
while_inner t block = ap₂ (λ (a b : ℕ). a + b) (opened_list block) (inner_list block)

-- ---- one statement of a block

owners_more : (body : ℕ) (a b : Plan) (m : ℕ) → b.owners.items ≡ a.owners.items ++ replicate m (Some body) → length b.owners.items ≡ length a.owners.items + m
owners_more body a b m e = ap (λ (l : List (Option ℕ)). length l) e ∙ length-append a.owners.items (replicate m (Some body)) ∙ ap (λ (n : ℕ). length a.owners.items + n) (length-replicate m (Some body))

-- the target of a statement was made
pub laying_open : (body : ℕ) (first now mid : Plan) (left all : List Site) (k m n : ℕ) → Laying body first now left all (k + m) n →
    mid.drafts.items ≡ now.drafts.items → mid.owners.items ≡ now.owners.items ++ replicate k (Some body) → Laying body first mid left all m n
laying_open body first now mid left all k m n l drafts owners = record {
  tests = subst (λ (ls : List Draft). StillTests (checks (length ls) left) (checks (length first.drafts.items) all)) (sym drafts) l.tests;
  drafts = ap (λ (ls : List Draft). ls ++ map draft_of (all_planned left)) drafts ∙ l.drafts;
  owners = ap (λ (os : List (Option ℕ)). os ++ replicate m (Some body)) owners
      ∙ append_assoc now.owners.items (replicate k (Some body)) (replicate m (Some body))
      ∙ ap (λ (os : List (Option ℕ)). now.owners.items ++ os) (replicate-append-replicate k m (Some body)) ∙ l.owners;
}

pub laying_step : (body : ℕ) (first now mid next : Plan) (s : Stmt) (rest : List Stmt) (from to z : ℕ) (all : List Site) (n : ℕ) →
    Laying body first now (sites_of (s ∷ rest) from z (length now.owners.items)) all (inner_of (s ∷ rest)) n →
    to ≡ block_start rest z (length now.owners.items) → mid.drafts.items ≡ now.drafts.items → mid.owners.items ≡ now.owners.items ++ replicate (opened_of rest) (Some body) →
    Grows body mid next (sites s.place s.kind from to (length mid.owners.items)) (inner s.kind) →
    Laying body first next (sites_of rest to z (length next.owners.items)) all (inner_of rest) n
laying_step body first now mid next s rest from to z all n l is drafts owners g =
    laying_more body first mid next (sites s.place s.kind from to (length mid.owners.items)) (sites_of rest to z (length next.owners.items)) all (inner s.kind) (inner_of rest) n
    (subst (λ (ss : List Site). Laying body first mid ss all (inner s.kind + inner_of rest) n) same
    (laying_open body first now mid (sites_of (s ∷ rest) from z (length now.owners.items)) all (opened_of rest) (inner s.kind + inner_of rest) n l drafts owners))
    g
  where
    same : sites_of (s ∷ rest) from z (length now.owners.items) ≡ sites s.place s.kind from to (length mid.owners.items) ++ sites_of rest to z (length next.owners.items)
    same =
        ap₂ (λ (i j : ℕ). sites s.place s.kind from i j ++ sites_of rest i z (j + inner s.kind)) (sym is) (sym (owners_more body now mid (opened_of rest) owners))
        ∙ ap (λ (i : ℕ). sites s.place s.kind from to (length mid.owners.items) ++ sites_of rest to z i) (sym (owners_more body mid next (inner s.kind) g.owners))

pub laying_fails : (body : ℕ) (first now mid : Plan) (s : Stmt) (rest : List Stmt) (from to z : ℕ) (all : List Site) (n : ℕ) →
    Laying body first now (sites_of (s ∷ rest) from z (length now.owners.items)) all (inner_of (s ∷ rest)) n →
    to ≡ block_start rest z (length now.owners.items) → mid.drafts.items ≡ now.drafts.items → mid.owners.items ≡ now.owners.items ++ replicate (opened_of rest) (Some body) →
    (end : CompileEnd) → IsCompileEnd (checks (length mid.drafts.items) (sites s.place s.kind from to (length mid.owners.items))) end → IsCompileEnd (checks (length first.drafts.items) all) end
laying_fails body first now mid s rest from to z all n l is drafts owners end h =
    laying_end body first mid (sites s.place s.kind from to (length mid.owners.items)) (sites_of rest to z (length mid.owners.items + inner s.kind)) all (inner s.kind + inner_of rest) n
    (subst (λ (ss : List Site). Laying body first mid ss all (inner s.kind + inner_of rest) n)
    (ap₂ (λ (i j : ℕ). sites s.place s.kind from i j ++ sites_of rest i z (j + inner s.kind)) (sym is) (sym (owners_more body now mid (opened_of rest) owners)))
    (laying_open body first now mid (sites_of (s ∷ rest) from z (length now.owners.items)) all (opened_of rest) (inner s.kind + inner_of rest) n l drafts owners))
    end h

-- the statement of this number, and those after it
pub at_drop : (block : List Stmt) (i : ℕ) (s : Stmt) → i < length block → s ≡ get_or block i s → drop i block ≡ s ∷ drop (i + 1) block
at_drop block i s l e = drop-cons block i s l ∙ ap₂ (λ (x : Stmt) (k : ℕ). x ∷ drop k block) (sym e) (let f : suc i ≡ i + 1 = omega arith in f)

-- the same at a place of the block
pub block_fails : (body : ℕ) (first now mid : Plan) (s : Stmt) (block rest : List Stmt) (i from to z : ℕ) (all : List Site) (n : ℕ) (end : CompileEnd) →
    i < length block → s ≡ get_or block i s → rest ≡ drop (i + 1) block →
    Laying body first now (sites_of (drop i block) from z (length now.owners.items)) all (inner_of (drop i block)) n →
    to ≡ block_start rest z (length now.owners.items) → mid.drafts.items ≡ now.drafts.items → mid.owners.items ≡ now.owners.items ++ replicate (opened_of rest) (Some body) →
    IsCompileEnd (checks (length mid.drafts.items) (sites s.place s.kind from to (length mid.owners.items))) end → IsCompileEnd (checks (length first.drafts.items) all) end
block_fails body first now mid s block rest i from to z all n end lt is tail l at drafts owners h =
    laying_fails body first now mid s rest from to z all n
    (subst (λ (b : List Stmt). Laying body first now (sites_of b from z (length now.owners.items)) all (inner_of b) n) (at_drop block i s lt is ∙ ap (λ (b : List Stmt). s ∷ b) (sym tail)) l)
    at drafts owners end h

pub block_steps : (body : ℕ) (first now mid next : Plan) (s : Stmt) (block rest : List Stmt) (i from to z : ℕ) (all : List Site) (n : ℕ) →
    i < length block → s ≡ get_or block i s → rest ≡ drop (i + 1) block →
    Laying body first now (sites_of (drop i block) from z (length now.owners.items)) all (inner_of (drop i block)) n →
    to ≡ block_start rest z (length now.owners.items) → mid.drafts.items ≡ now.drafts.items → mid.owners.items ≡ now.owners.items ++ replicate (opened_of rest) (Some body) →
    Grows body mid next (sites s.place s.kind from to (length mid.owners.items)) (inner s.kind) →
    Laying body first next (sites_of (drop (i + 1) block) to z (length next.owners.items)) all (inner_of (drop (i + 1) block)) n
block_steps body first now mid next s block rest i from to z all n lt is tail l at drafts owners g =
    subst (λ (b : List Stmt). Laying body first next (sites_of b to z (length next.owners.items)) all (inner_of b) n) tail
    (laying_step body first now mid next s rest from to z all n
    (subst (λ (b : List Stmt). Laying body first now (sites_of b from z (length now.owners.items)) all (inner_of b) n) (at_drop block i s lt is ∙ ap (λ (b : List Stmt). s ∷ b) (sym tail)) l)
    at drafts owners g)

-- ---- if

owners_twice : (body : ℕ) (a b c : Plan) (m n : ℕ) → b.owners.items ≡ a.owners.items ++ replicate m (Some body) → c.owners.items ≡ b.owners.items ++ replicate n (Some body) →
    c.owners.items ≡ a.owners.items ++ replicate (m + n) (Some body)
owners_twice body a b c m n e f =
    f ∙ ap (λ (os : List (Option ℕ)). os ++ replicate n (Some body)) e ∙ append_assoc a.owners.items (replicate m (Some body)) (replicate n (Some body))
    ∙ ap (λ (os : List (Option ℕ)). a.owners.items ++ os) (replicate-append-replicate m n (Some body))

if_due : (body : ℕ) (old o1 : Plan) (t : Test) (held failed : List Stmt) (a b first second : ℕ) (due : List Draft) →
    first ≡ block_start held b (length old.owners.items) → o1.owners.items ≡ old.owners.items ++ replicate (opened_of held) (Some body) →
    second ≡ block_start failed b (length o1.owners.items) →
    due ≡ map draft_of (planned_from a (going_to first (ways true t) ++ going_to second (ways false t))) →
    due ≡ map draft_of (planned_from a (going_to (block_start held b (length old.owners.items)) (ways true t) ++ going_to (block_start failed b (length old.owners.items + opened_of held)) (ways false t)))
if_due body old o1 t held failed a b first second due f owners s is =
    is ∙ ap₂ (λ (i j : ℕ). map draft_of (planned_from a (going_to i (ways true t) ++ going_to j (ways false t)))) f
    (s ∙ ap (block_start failed b) (owners_more body old o1 (opened_of held) owners))

pub opens_if : (body : ℕ) (old o1 mid new : Plan) (place : Place) (k : StmtKind) (t : Test) (held failed : List Stmt) (a b first second : ℕ) (due : List Draft) →
    NoneIsExceeded (alternatives_checks place k ++ paths_checks place k) →
    first ≡ block_start held b (length old.owners.items) → o1.owners.items ≡ old.owners.items ++ replicate (opened_of held) (Some body) → o1.drafts.items ≡ old.drafts.items →
    second ≡ block_start failed b (length o1.owners.items) → mid.owners.items ≡ o1.owners.items ++ replicate (opened_of failed) (Some body) → mid.drafts.items ≡ o1.drafts.items →
    due ≡ map draft_of (planned_from a (going_to first (ways true t) ++ going_to second (ways false t))) →
    NoneIsExceeded (edges_checks place (length mid.drafts.items) (length mid.owners.items) (commands_on due) ++ inner_checks k) →
    new.drafts.items ≡ mid.drafts.items ++ due → new.owners.items ≡ mid.owners.items → OpensIf body old new place k t held failed a b (first, second)
opens_if body old o1 mid new place k t held failed a b first second due none f owners drafts s owners2 drafts2 is tested added kept = record {
  first = f;
  second = s ∙ ap (block_start failed b) (owners_more body old o1 (opened_of held) owners);
  grows = site_grows body old mid new (if_site place k t held failed a b (length old.owners.items)) (opened_of held + opened_of failed) due none (drafts2 ∙ drafts)
      (owners_twice body old o1 mid (opened_of held) (opened_of failed) owners owners2)
      (sym (owners_more body old mid (opened_of held + opened_of failed) (owners_twice body old o1 mid (opened_of held) (opened_of failed) owners owners2)))
      (if_due body old o1 t held failed a b first second due f owners s is) tested added kept;
}

pub if_ends : (body : ℕ) (old o1 mid : Plan) (place : Place) (k : StmtKind) (t : Test) (held failed : List Stmt) (a b first second : ℕ) (due : List Draft) (end : CompileEnd) →
    NoneIsExceeded (alternatives_checks place k ++ paths_checks place k) →
    first ≡ block_start held b (length old.owners.items) → o1.owners.items ≡ old.owners.items ++ replicate (opened_of held) (Some body) → o1.drafts.items ≡ old.drafts.items →
    second ≡ block_start failed b (length o1.owners.items) → mid.owners.items ≡ o1.owners.items ++ replicate (opened_of failed) (Some body) → mid.drafts.items ≡ o1.drafts.items →
    due ≡ map draft_of (planned_from a (going_to first (ways true t) ++ going_to second (ways false t))) →
    IsCompileEnd (edges_checks place (length mid.drafts.items) (length mid.owners.items) (commands_on due) ++ inner_checks k) end →
    IsCompileEnd (checks (length old.drafts.items) (if_site place k t held failed a b (length old.owners.items) ∷ [])) end
if_ends body old o1 mid place k t held failed a b first second due end none f owners drafts s owners2 drafts2 is tested =
    site_finishes old mid (if_site place k t held failed a b (length old.owners.items)) due end none (drafts2 ∙ drafts)
    (sym (owners_more body old mid (opened_of held + opened_of failed) (owners_twice body old o1 mid (opened_of held) (opened_of failed) owners owners2)))
    (if_due body old o1 t held failed a b first second due f owners s is) tested

if_split : (place : Place) (k : StmtKind) (t : Test) (held failed : List Stmt) (a b next : ℕ) → k ≡ If t held failed →
    sites place k a b next ≡ (if_site place k t held failed a b next ∷ []) ++
    (sites_of held (block_start held b next) b (next + (opened_of held + opened_of failed))
    ++ sites_of failed (block_start failed b (next + opened_of held)) b ((next + (opened_of held + opened_of failed)) + inner_of held))
if_split place k t held failed a b next e =
    ap (λ (j : StmtKind). sites place j a b next) e ∙ if_is place t held failed a b next
    ∙ ap (λ (j : StmtKind). (if_site place j t held failed a b next ∷ []) ++
    (sites_of held (block_start held b next) b (next + (opened_of held + opened_of failed))
    ++ sites_of failed (block_start failed b (next + opened_of held)) b ((next + (opened_of held + opened_of failed)) + inner_of held))) (sym e)

pub if_err : (place : Place) (k : StmtKind) (t : Test) (held failed : List Stmt) (a b n next : ℕ) (end : CompileEnd) → k ≡ If t held failed →
    IsCompileEnd (checks n (if_site place k t held failed a b next ∷ [])) end → IsCompileEnd (checks n (sites place k a b next)) end
if_err place k t held failed a b n next end e h =
    subst (λ (ss : List Site). IsCompileEnd (checks n ss) end) (sym (if_split place k t held failed a b next e)) (end_first n (if_site place k t held failed a b next ∷ [])
    (sites_of held (block_start held b next) b (next + (opened_of held + opened_of failed))
    ++ sites_of failed (block_start failed b (next + opened_of held)) b ((next + (opened_of held + opened_of failed)) + inner_of held)) end h)

-- where the blocks are laid out
held_moved : (body : ℕ) (o0 o1 : Plan) (place : Place) (k : StmtKind) (t : Test) (held failed : List Stmt) (a b : ℕ) (starts : ℕ × ℕ) → OpensIf body o0 o1 place k t held failed a b starts →
    sites_of held starts.0 b (length o1.owners.items) ≡ sites_of held (block_start held b (length o0.owners.items)) b (length o0.owners.items + (opened_of held + opened_of failed))
held_moved body o0 o1 place k t held failed a b starts o =
    ap₂ (λ (i j : ℕ). sites_of held i b j) o.first (owners_more body o0 o1 (opened_of held + opened_of failed) o.grows.owners)

pub if_err_held : (body : ℕ) (o0 o1 : Plan) (place : Place) (k : StmtKind) (t : Test) (held failed : List Stmt) (a b : ℕ) (starts : ℕ × ℕ) (end : CompileEnd) → k ≡ If t held failed →
    OpensIf body o0 o1 place k t held failed a b starts → IsCompileEnd (checks (length o1.drafts.items) (sites_of held starts.0 b (length o1.owners.items))) end →
    IsCompileEnd (checks (length o0.drafts.items) (sites place k a b (length o0.owners.items))) end
if_err_held body o0 o1 place k t held failed a b starts end e o h =
    subst (λ (ss : List Site). IsCompileEnd (checks (length o0.drafts.items) ss) end) (sym (if_split place k t held failed a b (length o0.owners.items) e))
    (end_second body o0 o1 (if_site place k t held failed a b (length o0.owners.items) ∷ [])
    (sites_of held (block_start held b (length o0.owners.items)) b (length o0.owners.items + (opened_of held + opened_of failed))
    ++ sites_of failed (block_start failed b (length o0.owners.items + opened_of held)) b ((length o0.owners.items + (opened_of held + opened_of failed)) + inner_of held))
    (opened_of held + opened_of failed) end o.grows
    (end_first (length o1.drafts.items)
    (sites_of held (block_start held b (length o0.owners.items)) b (length o0.owners.items + (opened_of held + opened_of failed)))
    (sites_of failed (block_start failed b (length o0.owners.items + opened_of held)) b ((length o0.owners.items + (opened_of held + opened_of failed)) + inner_of held)) end (subst (λ (ss : List Site). IsCompileEnd (checks (length o1.drafts.items) ss) end) (held_moved body o0 o1 place k t held failed a b starts o) h)))

pub if_lays : {T : Type 0} (r : Result T CompileEnd) (body : ℕ) (o0 o1 o2 o3 : Plan) (place : Place) (k : StmtKind) (t : Test) (held failed : List Stmt) (a b : ℕ) (starts : ℕ × ℕ) →
    k ≡ If t held failed → OpensIf body o0 o1 place k t held failed a b starts →
    Grows body o1 o2 (sites_of held starts.0 b (length o1.owners.items)) (inner_of held) →
    Lays r body o2 o3 (sites_of failed starts.1 b (length o2.owners.items)) (inner_of failed) →
    Lays r body o0 o3 (sites place k a b (length o0.owners.items)) (inner k)
if_lays r body o0 o1 o2 o3 place k t held failed a b starts e o g h =
    subst (λ (ss : List Site). Lays r body o0 o3 ss (inner k)) (sym (if_split place k t held failed a b (length o0.owners.items) e))
    (subst (λ (n : ℕ). Lays r body o0 o3 ((if_site place k t held failed a b (length o0.owners.items) ∷ []) ++ (H ++ F)) n) size
    (subst (λ (ss : List Site). Lays r body o0 o3 ss (((opened_of held + opened_of failed) + inner_of held) + inner_of failed)) (append_assoc (if_site place k t held failed a b (length o0.owners.items) ∷ []) H F)
    (lays_after r body o0 o2 o3 ((if_site place k t held failed a b (length o0.owners.items) ∷ []) ++ H) F ((opened_of held + opened_of failed) + inner_of held) (inner_of failed)
    (grows_both body o0 o1 o2 (if_site place k t held failed a b (length o0.owners.items) ∷ []) H (opened_of held + opened_of failed) (inner_of held) o.grows g2)
    (subst (λ (ss : List Site). Lays r body o2 o3 ss (inner_of failed)) failed_moved h))))
  where
    H : List Site
    H = sites_of held (block_start held b (length o0.owners.items)) b (length o0.owners.items + (opened_of held + opened_of failed))

    F : List Site
    F = sites_of failed (block_start failed b (length o0.owners.items + opened_of held)) b ((length o0.owners.items + (opened_of held + opened_of failed)) + inner_of held)

    g2 : Grows body o1 o2 (sites_of held (block_start held b (length o0.owners.items)) b (length o0.owners.items + (opened_of held + opened_of failed))) (inner_of held)
    g2 = subst (λ (ss : List Site). Grows body o1 o2 ss (inner_of held)) (held_moved body o0 o1 place k t held failed a b starts o) g

    failed_moved : sites_of failed starts.1 b (length o2.owners.items)
        ≡ sites_of failed (block_start failed b (length o0.owners.items + opened_of held)) b ((length o0.owners.items + (opened_of held + opened_of failed)) + inner_of held)
    failed_moved = ap₂ (λ (i j : ℕ). sites_of failed i b j) o.second
        (owners_more body o1 o2 (inner_of held) g.owners ∙ ap (λ (n : ℕ). n + inner_of held) (owners_more body o0 o1 (opened_of held + opened_of failed) o.grows.owners))

    size : ((opened_of held + opened_of failed) + inner_of held) + inner_of failed ≡ inner k
    size = (let f : ((opened_of held + opened_of failed) + inner_of held) + inner_of failed ≡ (opened_of held + opened_of failed) + (inner_of held + inner_of failed) = omega arith in f)
        ∙ sym (if_inner t held failed) ∙ ap inner (sym e)

-- ---- while

pub opens_while : (body : ℕ) (old mid new : Plan) (place : Place) (k : StmtKind) (t : Test) (block : List Stmt) (a b first : ℕ) (due : List Draft) →
    NoneIsExceeded (alternatives_checks place k ++ paths_checks place k) →
    first ≡ block_start block a (length old.owners.items) → mid.owners.items ≡ old.owners.items ++ replicate (opened_of block) (Some body) → mid.drafts.items ≡ old.drafts.items →
    due ≡ map draft_of (planned_from a (going_to first (ways true t) ++ going_to b (ways false t))) →
    NoneIsExceeded (edges_checks place (length mid.drafts.items) (length mid.owners.items) (commands_on due) ++ inner_checks k) →
    new.drafts.items ≡ mid.drafts.items ++ due → new.owners.items ≡ mid.owners.items → OpensWhile body old new place k t block a b first
opens_while body old mid new place k t block a b first due none f owners drafts is tested added kept = record {
  start = f;
  grows = site_grows body old mid new (while_site place k t block a b (length old.owners.items)) (opened_of block) due none drafts owners
      (sym (owners_more body old mid (opened_of block) owners))
      (is ∙ ap (λ (i : ℕ). map draft_of (planned_from a (going_to i (ways true t) ++ going_to b (ways false t)))) f) tested added kept;
}

pub while_ends : (body : ℕ) (old mid : Plan) (place : Place) (k : StmtKind) (t : Test) (block : List Stmt) (a b first : ℕ) (due : List Draft) (end : CompileEnd) →
    NoneIsExceeded (alternatives_checks place k ++ paths_checks place k) →
    first ≡ block_start block a (length old.owners.items) → mid.owners.items ≡ old.owners.items ++ replicate (opened_of block) (Some body) → mid.drafts.items ≡ old.drafts.items →
    due ≡ map draft_of (planned_from a (going_to first (ways true t) ++ going_to b (ways false t))) →
    IsCompileEnd (edges_checks place (length mid.drafts.items) (length mid.owners.items) (commands_on due) ++ inner_checks k) end →
    IsCompileEnd (checks (length old.drafts.items) (while_site place k t block a b (length old.owners.items) ∷ [])) end
while_ends body old mid place k t block a b first due end none f owners drafts is tested =
    site_finishes old mid (while_site place k t block a b (length old.owners.items)) due end none drafts (sym (owners_more body old mid (opened_of block) owners))
    (is ∙ ap (λ (i : ℕ). map draft_of (planned_from a (going_to i (ways true t) ++ going_to b (ways false t)))) f) tested

while_split : (place : Place) (k : StmtKind) (t : Test) (block : List Stmt) (a b next : ℕ) → k ≡ While t block →
    sites place k a b next ≡ (while_site place k t block a b next ∷ []) ++ sites_of block (block_start block a next) a (next + opened_of block)
while_split place k t block a b next e =
    ap (λ (j : StmtKind). sites place j a b next) e ∙ while_is place t block a b next
    ∙ ap (λ (j : StmtKind). (while_site place j t block a b next ∷ []) ++ sites_of block (block_start block a next) a (next + opened_of block)) (sym e)

pub while_err : (place : Place) (k : StmtKind) (t : Test) (block : List Stmt) (a b n next : ℕ) (end : CompileEnd) → k ≡ While t block →
    IsCompileEnd (checks n (while_site place k t block a b next ∷ [])) end → IsCompileEnd (checks n (sites place k a b next)) end
while_err place k t block a b n next end e h =
    subst (λ (ss : List Site). IsCompileEnd (checks n ss) end) (sym (while_split place k t block a b next e)) (end_first n (while_site place k t block a b next ∷ []) (sites_of block (block_start block a next) a (next + opened_of block)) end h)

pub while_lays : {T : Type 0} (r : Result T CompileEnd) (body : ℕ) (o0 o1 o2 : Plan) (place : Place) (k : StmtKind) (t : Test) (block : List Stmt) (a b first : ℕ) → k ≡ While t block →
    OpensWhile body o0 o1 place k t block a b first → Lays r body o1 o2 (sites_of block first a (length o1.owners.items)) (inner_of block) →
    Lays r body o0 o2 (sites place k a b (length o0.owners.items)) (inner k)
while_lays r body o0 o1 o2 place k t block a b first e o h =
    subst (λ (ss : List Site). Lays r body o0 o2 ss (inner k)) (sym (while_split place k t block a b (length o0.owners.items) e))
    (subst (λ (n : ℕ). Lays r body o0 o2 ((while_site place k t block a b (length o0.owners.items) ∷ []) ++ B) n) (sym (while_inner t block) ∙ ap inner (sym e))
    (lays_after r body o0 o1 o2 (while_site place k t block a b (length o0.owners.items) ∷ []) B (opened_of block) (inner_of block) o.grows
    (subst (λ (ss : List Site). Lays r body o1 o2 ss (inner_of block)) (ap₂ (λ (i j : ℕ). sites_of block i a j) o.start (owners_more body o0 o1 (opened_of block) o.grows.owners)) h)))
  where
    B : List Site
    B = sites_of block (block_start block a (length o0.owners.items)) a (length o0.owners.items + opened_of block)
