-- A body that is laid out gives the parts of a graph that keep its facts.
use Rattle.std.proofs.Common.{◌≡◌, Bool, true, false, not, ◌&&◌, ◌||◌, ◌==◌, nat_lt, refl, sym, ◌∙◌, ap, ap₂, subst, ℕ, zero, suc, ◌+◌, ◌<◌, ◌≤◌, List, [], ◌∷◌, ◌++◌, map, length, replicate, ◌⊎◌, inl, inr, arith, eq-eqb, if◌then◌else◌, IsTrue, Option, Some, None, slice_index_or}
use Rattle.std.specs.List.{AllByRecursion, list_all}
use Rattle.std.proofs.lemmas.Bool.{eqb-true}
use Rattle.std.proofs.lemmas.Bool.Decides.{nat_tests}
use Rattle.ps_command.specs.Run.{havocs_in}
use Rattle.ps_command.specs.declared.command.Command.{Command}
use Rattle.ps_compile.proofs.Laying.{split, Split}
use Rattle.ps_compile.proofs.Spots.{AllLie, list_lie, body_apart}
use Rattle.ps_compile.proofs.OneWay.{deterministic, list_one_way}
use Rattle.ps_compile.specs.Compiled.{AreEdges, AreInOrder, IsLaidOut, one_owner}
use Rattle.ps_compile.specs.Kept.{KeepsFacts}
use Rattle.ps_command.specs.Commands.{ops_of}
use Rattle.ps_graph.specs.Facts.{owner_of, is_below, is_same_body, names_exist, entries_owned, error_is_final, picks_fit, stay_in_bodies, IsDeterministic}
use Rattle.ps_compile.specs.Layout.{Site, Planned, planned_at, all_planned, opened_of, end_of_body, body_sites, body_size}
use Rattle.ps_compile.specs.Ops.{ops_on}
use Rattle.ps_graph.specs.Paths.{Act, Guards, Assigns, Havocs, Chooses, Fails, is_failing, picks_of}
use Rattle.ps_graph.specs.Picks.{values_in}
use Rattle.ps_graph.specs.declared.edge.Edge.{Edge}
use Rattle.ps_tree.specs.declared.stmt.Stmt.{Stmt}

-- every member passes the test
pub all_pass : {X : Type 0} → (test : X → Bool) (xs : List X) → AllByRecursion (λ (x : X). test x ≡ true) xs → list_all test xs ≡ true
all_pass test [] h = refl
all_pass test (x ∷ xs) h = ap₂ (λ (a b : Bool). a && b) h.0 (all_pass test xs h.1)

pub each : {X : Type 0} → (P Q : X → Type 0) → ((x : X) → P x → Q x) → (xs : List X) → AllByRecursion P xs → AllByRecursion Q xs
each P Q f [] h = tt
each P Q f (x ∷ xs) h = (f x h.0, each P Q f xs h.1)

-- a path has as many values among its picks as havocs among its ops
pub path_fits : (p : List Act) → values_in (picks_of p) ≡ havocs_in (ops_on p)
path_fits [] = refl
path_fits (Guards b ∷ p) = path_fits p
path_fits (Assigns x s ∷ p) = path_fits p
path_fits (Havocs x ∷ p) = ap (λ (n : ℕ). 1 + n) (path_fits p)
path_fits (Chooses b ∷ p) = path_fits p
path_fits (Fails ∷ p) = refl

pub picks_fit_edges : (commands : List Command) (planned : List Planned) (es : List Edge) → AreEdges commands planned es → IsTrue (picks_fit commands es)
unfolding picks_fit
picks_fit_edges commands planned es h = all_pass (λ (e : Edge). values_in e.picks == havocs_in (ops_of commands e.command)) es (each_fits planned es h)
  where
    each_fits : (planned : List Planned) (es : List Edge) → AreEdges commands planned es →
        AllByRecursion (λ (e : Edge). (values_in e.picks == havocs_in (ops_of commands e.command)) ≡ true) es
    each_fits [] [] h = tt
    each_fits [] (e ∷ es) h = absurd h
    each_fits (w ∷ ws) [] h = absurd h
    each_fits (w ∷ ws) (e ∷ es) h = (
      eq-eqb (values_in e.picks) (havocs_in (ops_of commands e.command))
          (ap values_in h.0.picks ∙ path_fits w.path ∙ sym (ap havocs_in h.0.ops)),
      each_fits ws es h.1,
    )

-- what holds of sites and of where their paths go on to holds of edges
pub edges_lie : (P Q : ℕ → Type 0) (commands : List Command) (ss : List Site) (es : List Edge) → AllLie P Q ss → AreEdges commands (all_planned ss) es →
    AllByRecursion (λ (e : Edge). P e.source × ((e.target ≡ 1) ⊎ Q e.target)) es
edges_lie P Q commands [] [] l h = tt
edges_lie P Q commands [] (e ∷ es) l h = absurd h
edges_lie P Q commands (s ∷ ss) es l h = at (split commands (planned_at s) (all_planned ss) es h) (λ fs r. edges_lie P Q commands ss fs l.1 r)
  where
    of_site : (ps : List (List Act × ℕ)) (ds : List Edge) → AllByRecursion (λ (p : List Act × ℕ). Q p.1) ps →
        AreEdges commands (planned_at (record s { paths = ps })) ds → AllByRecursion (λ (e : Edge). P e.source × ((e.target ≡ 1) ⊎ Q e.target)) ds
    of_site [] [] g d = tt
    of_site [] (e ∷ ds) g d = absurd d
    of_site (p ∷ ps) [] g d = absurd d
    of_site (p ∷ ps) (e ∷ ds) g d = (
      (subst P (sym d.0.source) l.0.0, lands (is_failing p.0) d.0.target),
      of_site ps ds g.1 d.1,
    )
      where
        lands : (t : Bool) → e.target ≡ (if t then 1 else p.1) → (e.target ≡ 1) ⊎ Q e.target
        lands true q = inl q
        lands false q = inr (subst Q (sym q) g.0)

    joined : (xs ys : List Edge) → AllByRecursion (λ (e : Edge). P e.source × ((e.target ≡ 1) ⊎ Q e.target)) xs →
        AllByRecursion (λ (e : Edge). P e.source × ((e.target ≡ 1) ⊎ Q e.target)) ys →
        AllByRecursion (λ (e : Edge). P e.source × ((e.target ≡ 1) ⊎ Q e.target)) (xs ++ ys)
    joined [] ys f g = g
    joined (x ∷ xs) ys f g = (f.0, joined xs ys f.1 g)

    at : Split commands (planned_at s) (all_planned ss) es →
        ((fs : List Edge) → AreEdges commands (all_planned ss) fs → AllByRecursion (λ (e : Edge). P e.source × ((e.target ≡ 1) ⊎ Q e.target)) fs) →
        AllByRecursion (λ (e : Edge). P e.source × ((e.target ≡ 1) ⊎ Q e.target)) es
    at d rest = subst (λ (fs : List Edge). AllByRecursion (λ (e : Edge). P e.source × ((e.target ≡ 1) ⊎ Q e.target)) fs) (sym d.is)
        (joined d.first d.second (of_site s.paths d.first l.0.1 d.left) (rest d.second d.right))

-- ---- the facts of a graph of one body

-- a location of the body
abbrev pub Ours : ℕ → ℕ → Type 0
Ours size y = (y < 2 + size) × ¬ (y ≡ 1)

pub body_lies : (body : List Stmt) → AllLie (Ours (body_size body)) (Ours (body_size body)) (body_sites body 0 2)
body_lies [] = tt
body_lies (s ∷ rest) =
    list_lie (Ours (body_size (s ∷ rest))) (Ours (body_size (s ∷ rest))) (s ∷ rest) 2 0 3
    (omega arith, λ e. (let no : ⊥ = omega (arith, e) in no))
    (λ y l r. (omega (arith, r), λ e. (let no : ⊥ = omega (arith, e, r) in no)))
    (λ y l r. (omega (arith, r), λ e. (let no : ⊥ = omega (arith, e, r) in no)))
    (λ y l r. (omega (arith, r), λ e. (let no : ⊥ = omega (arith, e, l) in no)))
    (λ y l r. (omega (arith, r), λ e. (let no : ⊥ = omega (arith, e, l) in no)))

own_body : (size y : ℕ) → Ours size y → owner_of (one_owner size) y ≡ Some 0
own_body size zero h = refl
own_body size (suc zero) h = absurd (h.1 refl)
own_body size (suc (suc n)) h = at size n (omega (arith, h.0))
  where
    at : (m n : ℕ) → n < m → slice_index_or {A = Option ℕ} (replicate m (Some 0)) n None ≡ Some 0
    at zero n l = (let no : ⊥ = omega (arith, l) in absurd no)
    at (suc m) zero l = refl
    at (suc m) (suc n) l = at m n (omega (arith, l))

pub body_stays : (commands : List Command) (body : List Stmt) (es : List Edge) → AreEdges commands (all_planned (body_sites body 0 2)) es →
    IsTrue (stay_in_bodies (one_owner (body_size body)) es)
unfolding stay_in_bodies
body_stays commands body es h =
    all_pass (λ (e : Edge). e.target == 1 || is_same_body (owner_of (one_owner (body_size body)) e.source) (owner_of (one_owner (body_size body)) e.target)) es
    (each _ _ stays es (edges_lie (Ours (body_size body)) (Ours (body_size body)) commands (body_sites body 0 2) es (body_lies body) h))
  where
    stays : (e : Edge) → Ours (body_size body) e.source × ((e.target ≡ 1) ⊎ Ours (body_size body) e.target) →
        (e.target == 1 || is_same_body (owner_of (one_owner (body_size body)) e.source) (owner_of (one_owner (body_size body)) e.target)) ≡ true
    stays e (s, inl t) = ap (λ (b : Bool). b || is_same_body (owner_of (one_owner (body_size body)) e.source) (owner_of (one_owner (body_size body)) e.target)) (eq-eqb e.target 1 t)
    stays e (s, inr t) =
        ap₂ (λ (m n : Option ℕ). e.target == 1 || is_same_body m n) (own_body (body_size body) e.source s) (own_body (body_size body) e.target t)
        ∙ or_true (e.target == 1)
      where
        or_true : (b : Bool) → (b || true) ≡ true
        or_true true = refl
        or_true false = refl

pub body_error_final : (commands : List Command) (body : List Stmt) (es : List Edge) → AreEdges commands (all_planned (body_sites body 0 2)) es →
    IsTrue (error_is_final (one_owner (body_size body)) es)
unfolding error_is_final
body_error_final commands body es h =
    all_pass (λ (e : Edge). not (e.source == 1)) es
    (each _ _ leaves es (edges_lie (Ours (body_size body)) (Ours (body_size body)) commands (body_sites body 0 2) es (body_lies body) h))
  where
    leaves : (e : Edge) → Ours (body_size body) e.source × ((e.target ≡ 1) ⊎ Ours (body_size body) e.target) → not (e.source == 1) ≡ true
    leaves e (s, t) = at (e.source == 1) refl
      where
        at : (b : Bool) → (e.source == 1) ≡ b → not b ≡ true
        at true q = absurd (s.1 (eqb-true e.source 1 q))
        at false q = refl

-- numbers in order of first appearance are below how many there are
pub in_order_below : (n : ℕ) (ns : List ℕ) (all : ℕ) → AreInOrder n ns all → (n ≤ all) × AllByRecursion (λ (k : ℕ). k < all) ns
in_order_below n [] all h = (omega (arith, h), tt)
in_order_below n (k ∷ ns) all (inl h) = let r : (n ≤ all) × AllByRecursion (λ (k : ℕ). k < all) ns = in_order_below n ns all h.1 in (r.0, (omega (arith, h.0, r.0), r.1))
in_order_below n (k ∷ ns) all (inr h) = let r : (suc n ≤ all) × AllByRecursion (λ (k : ℕ). k < all) ns = in_order_below (suc n) ns all h.1 in (omega (arith, r.0), (omega (arith, h.0, r.0), r.1))

all_below : (commands : List Command) (es : List Edge) → AllByRecursion (λ (k : ℕ). k < length commands) (map (λ (e : Edge). e.command) es) →
    AllByRecursion (λ (e : Edge). e.command < length commands) es
all_below commands [] h = tt
all_below commands (e ∷ es) h = (h.0, all_below commands es h.1)

below_yes : (m n : ℕ) → m < n → nat_lt m n ≡ true
below_yes m n h = grind (arith, nat_tests)

owners_below : (m : ℕ) → list_all (is_below 1) (replicate {A = Option ℕ} m (Some 0)) ≡ true
owners_below zero = refl
owners_below (suc m) = owners_below m

owners_counted : (m : ℕ) → length {A = Option ℕ} (replicate m (Some 0)) ≡ m
owners_counted zero = refl
owners_counted (suc m) = ap suc (owners_counted m)

-- the numbers of a graph name things
pub body_names : (commands : List Command) (body : List Stmt) (es : List Edge) → AreEdges commands (all_planned (body_sites body 0 2)) es →
    AreInOrder 0 (map (λ (e : Edge). e.command) es) (length commands) →
    IsTrue (names_exist (2 + body_size body) es (0 ∷ []) None (one_owner (body_size body)) commands)
unfolding names_exist
body_names commands body es h o =
    ap₂ (λ (a b : Bool). a && b)
    (ap₂ (λ (a b : Bool). a && b)
    (ap (λ (a : Bool). a && true)
    (ap₂ (λ (a b : Bool). a && b)
    (ap₂ (λ (a b : Bool). a && b) (below_yes 1 (2 + body_size body) (omega arith)) (all_pass _ es (both es
    (edges_lie (Ours (body_size body)) (Ours (body_size body)) commands (body_sites body 0 2) es (body_lies body) h)
    (all_below commands es (in_order_below 0 (map (λ (e : Edge). e.command) es) (length commands) o).1))))
    (ap (λ (a : Bool). a && true) (below_yes 0 (2 + body_size body) (omega arith)))))
    (owners_below (body_size body)))
    (eq-eqb (length (one_owner (body_size body))) (2 + body_size body) (omega (arith, owners_counted (body_size body))))
  where
    both : (es : List Edge) → AllByRecursion (λ (e : Edge). Ours (body_size body) e.source × ((e.target ≡ 1) ⊎ Ours (body_size body) e.target)) es →
        AllByRecursion (λ (e : Edge). e.command < length commands) es →
        AllByRecursion (λ (e : Edge). (nat_lt e.source (2 + body_size body) && nat_lt e.target (2 + body_size body) && nat_lt e.command (length commands)) ≡ true) es
    both [] f g = tt
    both (e ∷ es) f g = (
      ap₂ (λ (a b : Bool). a && b)
          (ap₂ (λ (a b : Bool). a && b) (below_yes e.source (2 + body_size body) f.0.0.0) (below_yes e.target (2 + body_size body) (target f.0.1)))
          (below_yes e.command (length commands) g.0),
      both es f.1 g.1,
    )
      where
        target : (e.target ≡ 1) ⊎ Ours (body_size body) e.target → e.target < 2 + body_size body
        target (inl t) = omega (arith, t)
        target (inr t) = t.0

pub body_entries : (size : ℕ) → IsTrue (entries_owned (one_owner size) (0 ∷ []))
unfolding entries_owned
body_entries size = refl

-- all facts, of a body that is laid out
pub facts_kept : (body : List Stmt) (locations : ℕ) (commands : List Command) (edges : List Edge) → IsLaidOut body locations commands edges →
    KeepsFacts (body_size body) locations commands edges
facts_kept body locations commands edges h = record {
  names = subst (λ (n : ℕ). IsTrue (names_exist n edges (0 ∷ []) None (one_owner (body_size body)) commands)) (sym h.counted)
      (body_names commands body edges h.planned h.numbered.in_order);
  entries = body_entries (body_size body);
  error = body_error_final commands body edges h.planned;
  picks = picks_fit_edges commands (all_planned (body_sites body 0 2)) edges h.planned;
  bodies = body_stays commands body edges h.planned;
}

pub choices_agree : (body : List Stmt) (locations : ℕ) (commands : List Command) (edges : List Edge) → IsLaidOut body locations commands edges →
    IsDeterministic commands edges
choices_agree body locations commands edges h =
    deterministic commands (body_sites body 0 2) edges (body_apart body 0 2 (omega arith)) (list_one_way body 0 (end_of_body body 0 2) (2 + opened_of body)) h.planned
