-- Tests one after another, and sites one after another.
use Rattle.std.proofs.Common.{◌≡◌, refl, sym, ◌∙◌, ap, ap₂, subst, ℕ, ◌+◌, List, [], ◌∷◌, ◌++◌, map, length, replicate, inl, inr, arith, Option, Some, Result, Ok, Err, length-append, append_assoc, append-nil}
use Rattle.std.proofs.lemmas.List.{length-map, map-append, replicate-append-replicate}
use Rattle.ps_command.specs.declared.op.Op.{Op}
use Rattle.ps_compile.specs.Checks.{Check, NoneIsExceeded, IsFirstExceeded, alternatives_checks, paths_checks, edges_checks, commands_of, site_checks, inner_checks, checks}
use Rattle.ps_compile.specs.Layout.{Site, Planned, planned_from, planned_at, all_planned}
use Rattle.ps_compile.specs.Ops.{ops_on}
use Rattle.ps_graph.specs.Paths.{Act}
use Rattle.ps_tree.specs.declared.limit_name.LimitName.{LimitName}
use Rattle.ps_token.specs.declared.place.Place.{Place}
use Rattle.ps_compile.specs.Ends.{IsCompileEnd}
use Rattle.ps_compile.specs.inner.Drafts.{draft_of, commands_on, Grows, Lays}
use Rattle.ps_compile.specs.declared.draft.Draft.{Draft}
use Rattle.ps_compile.specs.declared.plan.Plan.{Plan}
use Rattle.ps_compile.specs.declared.compile_end.CompileEnd.{CompileEnd}
use Rattle.ps_compile.specs.declared.compile_end.CompileEnd.TheVariants.{Limit, Memory}

pub none_append : (xs ys : List Check) → NoneIsExceeded xs → NoneIsExceeded ys → NoneIsExceeded (xs ++ ys)
none_append [] ys f g = g
none_append (x ∷ xs) ys f g = (f.0, none_append xs ys f.1 g)

pub first_left : (place : Place) (name : LimitName) (xs ys : List Check) → IsFirstExceeded place name xs → IsFirstExceeded place name (xs ++ ys)
first_left place name [] ys f = absurd f
first_left place name (x ∷ xs) ys (inl e) = inl e
first_left place name (x ∷ xs) ys (inr (n, f)) = inr (n, first_left place name xs ys f)

pub first_right : (place : Place) (name : LimitName) (xs ys : List Check) → NoneIsExceeded xs → IsFirstExceeded place name ys → IsFirstExceeded place name (xs ++ ys)
first_right place name [] ys n f = f
first_right place name (x ∷ xs) ys n f = inr (n.0, first_right place name xs ys n.1 f)

pub end_left : (xs ys : List Check) (end : CompileEnd) → IsCompileEnd xs end → IsCompileEnd (xs ++ ys) end
end_left xs ys (Limit place name) h = first_left place name xs ys h
end_left xs ys (Memory _) h = tt

pub end_right : (xs ys : List Check) (end : CompileEnd) → NoneIsExceeded xs → IsCompileEnd ys end → IsCompileEnd (xs ++ ys) end
end_right xs ys (Limit place name) n h = first_right place name xs ys n h
end_right xs ys (Memory _) n h = tt

-- what is left to test decides all
pub record StillTests (left all : List Check) : Type 0 where
  pub none : NoneIsExceeded left → NoneIsExceeded all
  pub end : (end : CompileEnd) → IsCompileEnd left end → IsCompileEnd all end

pub still_all : (all : List Check) → StillTests all all
still_all all = record { none = λ n. n; end = λ e h. h }

pub still_more : (done left all : List Check) → StillTests (done ++ left) all → NoneIsExceeded done → StillTests left all
still_more done left all s n = record {
  none = λ m. s.none (none_append done left n m);
  end = λ e h. s.end e (end_right done left e n h);
}

pub still_end : (done left all : List Check) → StillTests (done ++ left) all → (end : CompileEnd) → IsCompileEnd done end → IsCompileEnd all end
still_end done left all s end h = s.end end (end_left done left end h)

-- ---- sites one after another

planned_append : (ss ts : List Site) → all_planned (ss ++ ts) ≡ all_planned ss ++ all_planned ts
planned_append [] ts = refl
planned_append (s ∷ ss) ts = ap (λ (l : List Planned). planned_at s ++ l) (planned_append ss ts) ∙ sym (append_assoc (planned_at s) (all_planned ss) (all_planned ts))

abbrev edges_in : List Site → ℕ
edges_in ss = length (map draft_of (all_planned ss))

edges_cons : (s : Site) (ss : List Site) → edges_in (s ∷ ss) ≡ length s.paths + edges_in ss
edges_cons s ss =
    ap (λ (l : List Draft). length l) (map-append draft_of (planned_at s) (all_planned ss))
    ∙ length-append (map draft_of (planned_at s)) (map draft_of (all_planned ss))
    ∙ ap (λ (n : ℕ). n + edges_in ss) (length-map (planned_at s) draft_of ∙ length-map s.paths (λ (p : List Act × ℕ). let w : Planned = record { source = s.at; path = p.0; goal = p.1 } in w))

pub checks_append : (n : ℕ) (ss ts : List Site) → checks n (ss ++ ts) ≡ checks n ss ++ checks (n + edges_in ss) ts
checks_append n [] ts = ap (λ (m : ℕ). checks m ts) (let e : n ≡ n + 0 = omega arith in e)
checks_append n (s ∷ ss) ts =
    ap (λ (l : List Check). site_checks n s ++ l)
    (checks_append (n + length s.paths) ss ts
    ∙ ap (λ (m : ℕ). checks (n + length s.paths) ss ++ checks m ts) (more (edges_in ss) (edges_in (s ∷ ss)) (edges_cons s ss)))
    ∙ sym (append_assoc (site_checks n s) (checks (n + length s.paths) ss) (checks (n + edges_in (s ∷ ss)) ts))
  where
    more : (m k : ℕ) → k ≡ length s.paths + m → (n + length s.paths) + m ≡ n + k
    more m k e = omega (arith, e)

-- the drafts are as many more as the edges of the sites
grown : (body : ℕ) (a b : Plan) (ss : List Site) (m : ℕ) → Grows body a b ss m → length b.drafts.items ≡ length a.drafts.items + edges_in ss
grown body a b ss m g = ap (λ (l : List Draft). length l) g.drafts ∙ length-append a.drafts.items (map draft_of (all_planned ss))

pub grows_both : (body : ℕ) (a b c : Plan) (ss ts : List Site) (m n : ℕ) → Grows body a b ss m → Grows body b c ts n → Grows body a c (ss ++ ts) (m + n)
grows_both body a b c ss ts m n g h = record {
  free = subst NoneIsExceeded (sym (checks_append (length a.drafts.items) ss ts))
      (none_append (checks (length a.drafts.items) ss) (checks (length a.drafts.items + edges_in ss) ts) g.free
      (subst (λ (k : ℕ). NoneIsExceeded (checks k ts)) (grown body a b ss m g) h.free));
  drafts = h.drafts ∙ ap (λ (l : List Draft). l ++ map draft_of (all_planned ts)) g.drafts
      ∙ append_assoc a.drafts.items (map draft_of (all_planned ss)) (map draft_of (all_planned ts))
      ∙ ap (λ (l : List Draft). a.drafts.items ++ l) (sym (map-append draft_of (all_planned ss) (all_planned ts)))
      ∙ ap (λ (l : List Planned). a.drafts.items ++ map draft_of l) (sym (planned_append ss ts));
  owners = h.owners ∙ ap (λ (l : List (Option ℕ)). l ++ replicate n (Some body)) g.owners
      ∙ append_assoc a.owners.items (replicate m (Some body)) (replicate n (Some body))
      ∙ ap (λ (l : List (Option ℕ)). a.owners.items ++ l) (replicate-append-replicate m n (Some body));
}

pub end_first : (n : ℕ) (ss ts : List Site) (end : CompileEnd) → IsCompileEnd (checks n ss) end → IsCompileEnd (checks n (ss ++ ts)) end
end_first n ss ts end h = subst (λ (l : List Check). IsCompileEnd l end) (sym (checks_append n ss ts)) (end_left (checks n ss) (checks (n + edges_in ss) ts) end h)

pub end_second : (body : ℕ) (a b : Plan) (ss ts : List Site) (m : ℕ) (end : CompileEnd) → Grows body a b ss m → IsCompileEnd (checks (length b.drafts.items) ts) end →
    IsCompileEnd (checks (length a.drafts.items) (ss ++ ts)) end
end_second body a b ss ts m end g h =
    subst (λ (l : List Check). IsCompileEnd l end) (sym (checks_append (length a.drafts.items) ss ts))
    (end_right (checks (length a.drafts.items) ss) (checks (length a.drafts.items + edges_in ss) ts) end g.free
    (subst (λ (k : ℕ). IsCompileEnd (checks k ts) end) (grown body a b ss m g) h))

-- ---- a loop over a block

-- what is laid out, with what is left, is all
pub record Laying (body : ℕ) (first now : Plan) (left all : List Site) (m n : ℕ) : Type 0 where
  pub tests : StillTests (checks (length now.drafts.items) left) (checks (length first.drafts.items) all)
  pub drafts : now.drafts.items ++ map draft_of (all_planned left) ≡ first.drafts.items ++ map draft_of (all_planned all)
  pub owners : now.owners.items ++ replicate m (Some body) ≡ first.owners.items ++ replicate n (Some body)

pub laying_all : (body : ℕ) (plan : Plan) (all : List Site) (n : ℕ) → Laying body plan plan all all n n
laying_all body plan all n = record { tests = still_all (checks (length plan.drafts.items) all); drafts = refl; owners = refl }

pub laying_done : (body : ℕ) (first now : Plan) (all : List Site) (n : ℕ) → Laying body first now [] all 0 n → Grows body first now all n
laying_done body first now all n l = record {
  free = l.tests.none tt;
  drafts = sym (append-nil now.drafts.items) ∙ l.drafts;
  owners = sym (append-nil now.owners.items) ∙ l.owners;
}

pub laying_more : (body : ℕ) (first now next : Plan) (done left all : List Site) (k m n : ℕ) → Laying body first now (done ++ left) all (k + m) n →
    Grows body now next done k → Laying body first next left all m n
laying_more body first now next done left all k m n l g = record {
  tests = subst (λ (i : ℕ). StillTests (checks i left) (checks (length first.drafts.items) all)) (sym (grown body now next done k g))
      (still_more (checks (length now.drafts.items) done) (checks (length now.drafts.items + edges_in done) left) (checks (length first.drafts.items) all)
      (subst (λ (c : List Check). StillTests c (checks (length first.drafts.items) all)) (checks_append (length now.drafts.items) done left) l.tests) g.free);
  drafts = ap (λ (i : List Draft). i ++ map draft_of (all_planned left)) g.drafts
      ∙ append_assoc now.drafts.items (map draft_of (all_planned done)) (map draft_of (all_planned left))
      ∙ ap (λ (i : List Draft). now.drafts.items ++ i) (sym (map-append draft_of (all_planned done) (all_planned left)))
      ∙ ap (λ (i : List Planned). now.drafts.items ++ map draft_of i) (sym (planned_append done left)) ∙ l.drafts;
  owners = ap (λ (i : List (Option ℕ)). i ++ replicate m (Some body)) g.owners
      ∙ append_assoc now.owners.items (replicate k (Some body)) (replicate m (Some body))
      ∙ ap (λ (i : List (Option ℕ)). now.owners.items ++ i) (replicate-append-replicate k m (Some body)) ∙ l.owners;
}

pub laying_end : (body : ℕ) (first now : Plan) (done left all : List Site) (m n : ℕ) → Laying body first now (done ++ left) all m n →
    (end : CompileEnd) → IsCompileEnd (checks (length now.drafts.items) done) end → IsCompileEnd (checks (length first.drafts.items) all) end
laying_end body first now done left all m n l end h = l.tests.end end (end_first (length now.drafts.items) done left end h)

-- ---- one site

site_is : (n : ℕ) (s : Site) → site_checks n s
    ≡ (alternatives_checks s.place s.kind ++ paths_checks s.place s.kind) ++ (edges_checks s.place n s.locations (commands_of s) ++ inner_checks s.kind)
site_is n s = sym (append_assoc (alternatives_checks s.place s.kind) (paths_checks s.place s.kind) (edges_checks s.place n s.locations (commands_of s) ++ inner_checks s.kind))

commands_are : (a : ℕ) (ps : List (List Act × ℕ)) → commands_on (map draft_of (planned_from a ps)) ≡ map (λ (p : List Act × ℕ). ops_on p.0) ps
commands_are a [] = refl
commands_are a (p ∷ ps) = ap (λ (l : List (List Op)). ops_on p.0 ∷ l) (commands_are a ps)

same_edges : (old mid : Plan) (s : Site) (due : List Draft) → mid.drafts.items ≡ old.drafts.items → s.locations ≡ length mid.owners.items → due ≡ map draft_of (planned_at s) →
    edges_checks s.place (length mid.drafts.items) (length mid.owners.items) (commands_on due) ++ inner_checks s.kind
    ≡ edges_checks s.place (length old.drafts.items) s.locations (commands_of s) ++ inner_checks s.kind
same_edges old mid s due drafts locations is =
    ap₂ (λ (l : List Draft) (n : ℕ). edges_checks s.place (length l) n (commands_on due) ++ inner_checks s.kind) drafts (sym locations)
    ∙ ap (λ (cs : List (List Op)). edges_checks s.place (length old.drafts.items) s.locations cs ++ inner_checks s.kind) (ap commands_on is ∙ commands_are s.at s.paths)

-- a test that is passed before the edges, or after
pub site_begins : (n : ℕ) (s : Site) (end : CompileEnd) → IsCompileEnd (alternatives_checks s.place s.kind ++ paths_checks s.place s.kind) end → IsCompileEnd (checks n (s ∷ [])) end
site_begins n s end h = end_left (site_checks n s) [] end (subst (λ (l : List Check). IsCompileEnd l end) (sym (site_is n s))
    (end_left (alternatives_checks s.place s.kind ++ paths_checks s.place s.kind) (edges_checks s.place n s.locations (commands_of s) ++ inner_checks s.kind) end h))

pub site_finishes : (old mid : Plan) (s : Site) (due : List Draft) (end : CompileEnd) → NoneIsExceeded (alternatives_checks s.place s.kind ++ paths_checks s.place s.kind) →
    mid.drafts.items ≡ old.drafts.items → s.locations ≡ length mid.owners.items → due ≡ map draft_of (planned_at s) →
    IsCompileEnd (edges_checks s.place (length mid.drafts.items) (length mid.owners.items) (commands_on due) ++ inner_checks s.kind) end →
    IsCompileEnd (checks (length old.drafts.items) (s ∷ [])) end
site_finishes old mid s due end first drafts locations is h =
    end_left (site_checks (length old.drafts.items) s) [] end (subst (λ (l : List Check). IsCompileEnd l end) (sym (site_is (length old.drafts.items) s))
    (end_right (alternatives_checks s.place s.kind ++ paths_checks s.place s.kind) (edges_checks s.place (length old.drafts.items) s.locations (commands_of s) ++ inner_checks s.kind) end first
    (subst (λ (l : List Check). IsCompileEnd l end) (same_edges old mid s due drafts locations is) h)))

-- a site whose tests passed and whose edges were added
pub site_grows : (body : ℕ) (old mid new : Plan) (s : Site) (size : ℕ) (due : List Draft) →
    NoneIsExceeded (alternatives_checks s.place s.kind ++ paths_checks s.place s.kind) →
    mid.drafts.items ≡ old.drafts.items → mid.owners.items ≡ old.owners.items ++ replicate size (Some body) → s.locations ≡ length mid.owners.items →
    due ≡ map draft_of (planned_at s) →
    NoneIsExceeded (edges_checks s.place (length mid.drafts.items) (length mid.owners.items) (commands_on due) ++ inner_checks s.kind) →
    new.drafts.items ≡ mid.drafts.items ++ due → new.owners.items ≡ mid.owners.items → Grows body old new (s ∷ []) size
site_grows body old mid new s size due first drafts owners locations is second added kept = record {
  free = none_append (site_checks (length old.drafts.items) s) [] all tt;
  drafts = added ∙ ap₂ (λ (l m : List Draft). l ++ m) drafts (is ∙ sym (ap (map draft_of) (append-nil (planned_at s))));
  owners = kept ∙ owners;
}
  where
    all : NoneIsExceeded (site_checks (length old.drafts.items) s)
    all = subst NoneIsExceeded (sym (site_is (length old.drafts.items) s))
        (none_append (alternatives_checks s.place s.kind ++ paths_checks s.place s.kind) _ first
        (subst NoneIsExceeded (same_edges old mid s due drafts locations is) second))

-- ---- sites after sites, where the second part answers

pub lays_after : {T : Type 0} (r : Result T CompileEnd) (body : ℕ) (a b c : Plan) (ss ts : List Site) (m n : ℕ) → Grows body a b ss m → Lays r body b c ts n → Lays r body a c (ss ++ ts) (m + n)
lays_after (Ok x) body a b c ss ts m n g h = grows_both body a b c ss ts m n g h
lays_after (Err e) body a b c ss ts m n g h = end_second body a b ss ts m e g h

pub commands_count : (drafts : List Draft) → length (commands_on drafts) ≡ length drafts
commands_count drafts = length-map drafts (λ (l : Draft). l.route.command.ops)
