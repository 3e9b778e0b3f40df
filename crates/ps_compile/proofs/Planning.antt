-- The plan of a whole body, and what its edges keep.
use Rattle.std.proofs.Common.{◌≡◌, Bool, true, false, sym, ◌∙◌, ap, ap₂, subst, ℕ, suc, ◌+◌, ◌<◌, ◌^◌, List, [], ◌∷◌, ◌++◌, map, length, replicate, arith, if◌then◌else◌, Option, Some, None}
use Rattle.std.specs.List.{AllByRecursion}
use Rattle.ps_command.specs.Form.{FormFits}
use Rattle.std.proofs.lemmas.List.{length-replicate, map-append, replicate-append-replicate}
use Rattle.ps_compile.proofs.Declaring.{all_joined}
use Rattle.ps_compile.proofs.Facts.{Ours, body_lies}
use Rattle.ps_compile.specs.Checks.{Check, NoneIsExceeded, alternatives_checks, paths_checks, rows_checks, numbers_checks, edges_checks, commands_of, inner_checks, site_checks, checks}
use Rattle.ps_compile.specs.Compiled.{one_owner}
use Rattle.ps_compile.specs.Ends.{IsCompileEnd}
use Rattle.ps_compile.specs.Layout.{Site, planned_from, planned_at, all_planned, block_start, opened_of, inner_of, sites_of, body_sites, body_size}
use Rattle.ps_compile.specs.Ops.{ops_on}
use Rattle.ps_compile.specs.declared.compile_end.CompileEnd.{CompileEnd}
use Rattle.ps_compile.specs.declared.draft.Draft.{Draft}
use Rattle.ps_compile.specs.declared.plan.Plan.{Plan}
use Rattle.ps_compile.specs.inner.Drafts.{Grows, draft_of}
use Rattle.ps_compile.specs.inner.Numbered.{FitsEdge}
use Rattle.ps_compile.specs.inner.Plans.{IsPlanOf}
use Rattle.ps_graph.specs.Paths.{Act, is_failing}
use Rattle.ps_tree.specs.declared.stmt.Stmt.{Stmt}

-- ---- the plan

-- where the body is laid out from
laid_from : (body : List Stmt) (o0 o1 : Plan) (end : ℕ) → o0.owners.items ≡ Some 0 ∷ None ∷ [] → end ≡ block_start body 0 (length o0.owners.items) →
    o1.owners.items ≡ o0.owners.items ++ replicate (opened_of body) (Some 0) → sites_of body 0 end (length o1.owners.items) ≡ body_sites body 0 2
laid_from body o0 o1 end first e owners =
    ap₂ (λ (z n : ℕ). sites_of body 0 z n) (e ∙ ap (λ (l : List (Option ℕ)). block_start body 0 (length l)) first)
    (ap (λ (l : List (Option ℕ)). length l) (owners ∙ ap (λ (l : List (Option ℕ)). l ++ replicate (opened_of body) (Some 0)) first)
    ∙ (let f : suc (suc (length {A = Option ℕ} (replicate (opened_of body) (Some 0)))) ≡ 2 + opened_of body = omega (arith, length-replicate {A = Option ℕ} (opened_of body) (Some 0)) in f))

pub plan_made : (body : List Stmt) (o0 o1 o2 : Plan) (end : ℕ) → o0.owners.items ≡ Some 0 ∷ None ∷ [] → o0.drafts.items ≡ [] →
    end ≡ block_start body 0 (length o0.owners.items) → o1.owners.items ≡ o0.owners.items ++ replicate (opened_of body) (Some 0) → o1.drafts.items ≡ o0.drafts.items →
    Grows 0 o1 o2 (sites_of body 0 end (length o1.owners.items)) (inner_of body) → IsPlanOf body o2
plan_made body o0 o1 o2 end first none e owners drafts g = record {
  free = subst (λ (ss : List Site). NoneIsExceeded (checks 0 ss)) (laid_from body o0 o1 end first e owners)
      (subst (λ (ds : List Draft). NoneIsExceeded (checks (length ds) (sites_of body 0 end (length o1.owners.items)))) (drafts ∙ none) g.free);
  drafts = g.drafts ∙ ap₂ (λ (ds : List Draft) (ss : List Site). ds ++ map draft_of (all_planned ss)) (drafts ∙ none) (laid_from body o0 o1 end first e owners);
  owners = g.owners ∙ ap (λ (l : List (Option ℕ)). l ++ replicate (inner_of body) (Some 0)) (owners ∙ ap (λ (l : List (Option ℕ)). l ++ replicate (opened_of body) (Some 0)) first)
      ∙ ap (λ (l : List (Option ℕ)). Some 0 ∷ None ∷ l) (replicate-append-replicate (opened_of body) (inner_of body) (Some 0));
}

pub plan_fails : (body : List Stmt) (o0 o1 : Plan) (end : ℕ) (why : CompileEnd) → o0.owners.items ≡ Some 0 ∷ None ∷ [] → o0.drafts.items ≡ [] →
    end ≡ block_start body 0 (length o0.owners.items) → o1.owners.items ≡ o0.owners.items ++ replicate (opened_of body) (Some 0) → o1.drafts.items ≡ o0.drafts.items →
    IsCompileEnd (checks (length o1.drafts.items) (sites_of body 0 end (length o1.owners.items))) why → IsCompileEnd (checks 0 (body_sites body 0 2)) why
plan_fails body o0 o1 end why first none e owners drafts h =
    subst (λ (ss : List Site). IsCompileEnd (checks 0 ss) why) (laid_from body o0 o1 end first e owners)
    (subst (λ (ds : List Draft). IsCompileEnd (checks (length ds) (sites_of body 0 end (length o1.owners.items))) why) (drafts ∙ none) h)

-- ---- what holds of each edge

-- of the edges of each site
pub each_site : (P : Draft → Type 0) (Q : Site → Type 0) → ((s : Site) → Q s → AllByRecursion P (map draft_of (planned_at s))) → (ss : List Site) → AllByRecursion Q ss →
    AllByRecursion P (map draft_of (all_planned ss))
each_site P Q f [] h = tt
each_site P Q f (s ∷ ss) h =
    subst (AllByRecursion P) (sym (map-append draft_of (planned_at s) (all_planned ss)))
    (all_joined P (map draft_of (planned_at s)) (map draft_of (all_planned ss)) (f s h.0) (each_site P Q f ss h.1))

-- locations fit
places_fit : (body : List Stmt) (size : ℕ) → size < 2 ^ 32 → 2 + body_size body ≡ size → AllByRecursion FitsEdge (map draft_of (all_planned (body_sites body 0 2)))
places_fit body size l e = each_site FitsEdge (λ (s : Site). Ours (body_size body) s.at × AllByRecursion (λ (p : List Act × ℕ). Ours (body_size body) p.1) s.paths) of_site (body_sites body 0 2) (body_lies body)
  where
    of_paths : (a : ℕ) (ps : List (List Act × ℕ)) → Ours (body_size body) a → AllByRecursion (λ (p : List Act × ℕ). Ours (body_size body) p.1) ps →
        AllByRecursion FitsEdge (map draft_of (planned_from a ps))
    of_paths a [] h g = tt
    of_paths a (p ∷ ps) h g = ((omega (arith, h.0, l, e), target (is_failing p.0)), of_paths a ps h g.1)
      where
        target : (b : Bool) → (if b then 1 else p.1) < 2 ^ 32
        target true = omega arith
        target false = omega (arith, g.0.0, l, e)

    of_site : (s : Site) → Ours (body_size body) s.at × AllByRecursion (λ (p : List Act × ℕ). Ours (body_size body) p.1) s.paths → AllByRecursion FitsEdge (map draft_of (planned_at s))
    of_site s h = of_paths s.at s.paths h.0 h.1

owners_counted : (size : ℕ) → length (one_owner size) ≡ 2 + size
owners_counted size = omega (arith, length-replicate {A = Option ℕ} size (Some 0))

pub plan_fits : (body : List Stmt) (plan : Plan) → IsPlanOf body plan → length plan.owners.items < 2 ^ 32 → AllByRecursion FitsEdge plan.drafts.items
plan_fits body plan p l =
    subst (AllByRecursion FitsEdge) (sym p.drafts)
    (places_fit body (length plan.owners.items) l (sym (owners_counted (body_size body)) ∙ ap (λ (os : List (Option ℕ)). length os) (sym p.owners)))

pub plan_counted : (body : List Stmt) (plan : Plan) → IsPlanOf body plan → length plan.owners.items ≡ 2 + body_size body
plan_counted body plan p = ap (λ (os : List (Option ℕ)). length os) p.owners ∙ owners_counted (body_size body)

-- symbolic forms fit

none_left : (xs ys : List Check) → NoneIsExceeded (xs ++ ys) → NoneIsExceeded xs
none_left [] ys h = tt
none_left (x ∷ xs) ys h = (h.0, none_left xs ys h.1)

none_right : (xs ys : List Check) → NoneIsExceeded (xs ++ ys) → NoneIsExceeded ys
none_right [] ys h = h
none_right (x ∷ xs) ys h = none_right xs ys h.1

abbrev HasForm : Draft → Type 0
HasForm d = ¬ (¬ FormFits d.route.command.ops)

site_has_forms : (n : ℕ) (s : Site) → NoneIsExceeded (site_checks n s) → AllByRecursion HasForm (map draft_of (planned_at s))
site_has_forms n s h = of_paths s.at s.paths (none_left (numbers_checks s.place (commands_of s)) _ (none_right (rows_checks s.place (commands_of s)) _
    (none_left (edges_checks s.place n s.locations (commands_of s)) (inner_checks s.kind)
    (none_right (paths_checks s.place s.kind) _ (none_right (alternatives_checks s.place s.kind) _ h)))))
  where
    of_paths : (a : ℕ) (ps : List (List Act × ℕ)) → NoneIsExceeded (numbers_checks s.place (map (λ (p : List Act × ℕ). ops_on p.0) ps)) →
        AllByRecursion HasForm (map draft_of (planned_from a ps))
    of_paths a [] g = tt
    of_paths a (p ∷ ps) g = (g.0, of_paths a ps g.1)

have_forms : (n : ℕ) (ss : List Site) → NoneIsExceeded (checks n ss) → AllByRecursion HasForm (map draft_of (all_planned ss))
have_forms n [] h = tt
have_forms n (s ∷ ss) h =
    subst (AllByRecursion HasForm) (sym (map-append draft_of (planned_at s) (all_planned ss)))
    (all_joined HasForm (map draft_of (planned_at s)) (map draft_of (all_planned ss)) (site_has_forms n s (none_left (site_checks n s) (checks (n + length s.paths) ss) h))
    (have_forms (n + length s.paths) ss (none_right (site_checks n s) (checks (n + length s.paths) ss) h)))

pub plan_has_forms : (body : List Stmt) (plan : Plan) → IsPlanOf body plan → AllByRecursion (λ (d : Draft). ¬ (¬ FormFits d.route.command.ops)) plan.drafts.items
plan_has_forms body plan p = subst (AllByRecursion HasForm) (sym p.drafts) (have_forms 0 (body_sites body 0 2) p.free)
