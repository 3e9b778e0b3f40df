-- What the tests of a step tell, and its locations in order.
use Rattle.std.proofs.Common.{◌≡◌, ◌≢◌, ◌<◌, ℕ, Bool, true, false, not, ◌&&◌, ◌||◌, ◌==◌, ltb, List, [], ◌∷◌, ◌++◌, map, refl, sym, ap, ap₂, ◌∙◌, subst, inl, inr, ◌⊎◌, Contains, Option, Some, None, arith}
use Rattle.std.specs.List.{AllByRecursion, filter, list_any}
use Rattle.std.specs.List.Sorted.{IsStrictlyIncreasing, IsStrictlySortedBy}
use Rattle.std.specs.Ordering.{nat_cmp}
use Rattle.std.specs.declared.cmp.Ordering.{Ordering}
use Rattle.std.specs.declared.cmp.Ordering.TheVariants.{Less}
use Rattle.std.specs.Cmp.{nat_cmp_is}
use Rattle.std.proofs.lemmas.Bool.{and_from, and_parts, both_ways, cases_lt, eq-eqb, eqb-true, false≢true, lt-ltb, ltb-true, or_cases, or_left, or_right}
use Rattle.std.proofs.lemmas.List.Kept.{IsStrictlySortedBy-filter}
use Rattle.std.proofs.lemmas.List.Elements.{Contains-append_left, Contains-append_right, Contains-append_cases}
use Rattle.std.proofs.lemmas.Map.Keys.{IsStrictlyIncreasing-from_sorted, sorted_from_strictly_increasing}
use Rattle.ps_config.specs.Configurations.{Configuration, IsAt}
use Rattle.ps_config.specs.Forms.{IsConfig}
use Rattle.ps_list.proofs.Mapped.{from_kept, kept}
use Rattle.ps_config.proofs.Tested.{all_from, all_to, any_from, any_to}
use Rattle.ps_graph.specs.Facts.{owner_of}
use Rattle.ps_graph.specs.declared.edge.Edge.{Edge}
use Rattle.ps_graph.specs.declared.graph.Graph.{Graph}
use Rattle.ps_list.proofs.Members.{cons_cases, here, there}
use Rattle.ps_step.specs.Places.{IsStepTo, located}
use Rattle.ps_step.specs.Steps.{HasOneInOnce, IsDue, IsMovedTo, IsNowhere}
use Rattle.ps_step.specs.inner.Going.{are_alone, is_only_thread, is_body, may_move, of_once}
use Rattle.ps_step.proofs.Counter.{only}
use Rattle.ps_step.proofs.Expanding.{sorted_append}
use Rattle.ps_step.proofs.Moved.{pair_is}

-- ---- the body that at most one thread runs

body_is : (body : ℕ) (owner : Option ℕ) → is_body body owner ≡ true → owner ≡ Some body
body_is body None h = absurd (false≢true h)
body_is body (Some n) h = ap (λ (m : ℕ). let o : Option ℕ = Some m in o) (eqb-true n body h)

is_once : (graph : Graph) (once owner : Option ℕ) → of_once once owner ≡ true → (body : ℕ) × (once ≡ Some body) × (owner ≡ Some body)
is_once graph None owner h = absurd (false≢true h)
is_once graph (Some body) owner h = (body, refl, body_is body owner h)

once_is : (once owner : Option ℕ) (body : ℕ) → once ≡ Some body → owner ≡ Some body → of_once once owner ≡ true
once_is once owner body e f = ap₂ of_once e f ∙ eq-eqb body body refl

-- implication of two tests
implied : (a b : Bool) → (not a || b) ≡ true → a ≡ true → b ≡ true
implied true b h e = h
implied false b h e = absurd (false≢true e)

implies : (a b : Bool) → (a ≡ true → b ≡ true) → (not a || b) ≡ true
implies true b h = h refl
implies false b h = refl

pub alone_is : (graph : Graph) (at : List (ℕ × ℕ)) (c : Configuration) → c.at ≡ at → are_alone graph at ≡ true → HasOneInOnce graph c
alone_is graph at c e h s t l m hs ht ol om =
    let p : ℕ × ℕ = (s, l) in
    let q : ℕ × ℕ = (t, m) in
    let first : is_only_thread graph at s ≡ true = implied (of_once graph.once (owner_of graph.owner l)) (is_only_thread graph at s)
    (all_from (λ (p : ℕ × ℕ). not (of_once graph.once (owner_of graph.owner p.1)) || is_only_thread graph at p.0) at h p (subst (λ (ps : List (ℕ × ℕ)). Contains ps p) e hs))
    (once_is graph.once (owner_of graph.owner l) ol.0 ol.1 ol.2) in
    let second : (t == s) ≡ true = implied (of_once graph.once (owner_of graph.owner m)) (t == s)
    (all_from (λ (p : ℕ × ℕ). not (of_once graph.once (owner_of graph.owner p.1)) || p.0 == s) at first q (subst (λ (ps : List (ℕ × ℕ)). Contains ps q) e ht))
    (once_is graph.once (owner_of graph.owner m) om.0 om.1 om.2) in
    sym (eqb-true t s second)

pub is_alone_of : (graph : Graph) (at : List (ℕ × ℕ)) (c : Configuration) → ((t l : ℕ) → Contains at (t, l) → IsAt c t l) → HasOneInOnce graph c → are_alone graph at ≡ true
is_alone_of graph at c in_c one =
    all_to (λ (p : ℕ × ℕ). not (of_once graph.once (owner_of graph.owner p.1)) || is_only_thread graph at p.0) at (λ p hp. implies (of_once graph.once (owner_of graph.owner p.1)) (is_only_thread graph at p.0)
    (λ op. all_to (λ (q : ℕ × ℕ). not (of_once graph.once (owner_of graph.owner q.1)) || q.0 == p.0) at (λ q hq. implies (of_once graph.once (owner_of graph.owner q.1)) (q.0 == p.0)
    (λ oq. eq-eqb q.0 p.0 (one q.0 p.0 q.1 p.1 (in_c q.0 q.1 hq) (in_c p.0 p.1 hp) (is_once graph graph.once (owner_of graph.owner q.1) oq) (is_once graph graph.once (owner_of graph.owner p.1) op))))))

-- ---- where the mover was

pub moves : (from : Configuration) (at : List (ℕ × ℕ)) (thread target : ℕ) → at ≡ from.at → may_move at thread target ≡ true → IsAt from thread target ⊎ IsNowhere from thread
moves from at thread target e h = elim (or_cases (list_any (λ (p : ℕ × ℕ). p.0 == thread && p.1 == target) at) (not (list_any (λ (p : ℕ × ℕ). p.0 == thread) at)) h) [
  | inl stands ↦
      let w = any_from (λ (p : ℕ × ℕ). p.0 == thread && p.1 == target) at stands in
      let both = and_parts (w.0.0 == thread) (w.0.1 == target) w.2 in
      inl (subst (λ (ps : List (ℕ × ℕ)). Contains ps (thread, target)) e
      (subst (λ (p : ℕ × ℕ). Contains at p) (pair_is w.0.0 w.0.1 thread target (eqb-true w.0.0 thread both.0) (eqb-true w.0.1 target both.1)) w.1))
  | inr nowhere ↦ inr (λ l has. (let p : ℕ × ℕ = (thread, l) in
      let found : list_any (λ (p : ℕ × ℕ). p.0 == thread) at ≡ true = any_to (λ (p : ℕ × ℕ). p.0 == thread) at p (subst (λ (ps : List (ℕ × ℕ)). Contains ps p) (sym e) has) (eq-eqb thread thread refl) in
      both_ways (not (list_any (λ (p : ℕ × ℕ). p.0 == thread) at)) (ap not found) nowhere))
]

pub moving : (from : Configuration) (at : List (ℕ × ℕ)) (thread target : ℕ) → at ≡ from.at → IsAt from thread target ⊎ IsNowhere from thread → may_move at thread target ≡ true
moving from at thread target e (inl has) =
    or_left (list_any (λ (p : ℕ × ℕ). p.0 == thread && p.1 == target) at) (not (list_any (λ (p : ℕ × ℕ). p.0 == thread) at))
    (any_to (λ (p : ℕ × ℕ). p.0 == thread && p.1 == target) at (thread, target) (subst (λ (ps : List (ℕ × ℕ)). Contains ps (thread, target)) (sym e) has) (and_from (thread == thread) (target == target) (eq-eqb thread thread refl) (eq-eqb target target refl)))
moving from at thread target e (inr nowhere) =
    or_right (list_any (λ (p : ℕ × ℕ). p.0 == thread && p.1 == target) at) (not (list_any (λ (p : ℕ × ℕ). p.0 == thread) at)) (none_at (list_any (λ (p : ℕ × ℕ). p.0 == thread) at) refl)
  where
    none_at : (b : Bool) → list_any (λ (p : ℕ × ℕ). p.0 == thread) at ≡ b → not b ≡ true
    none_at true found =
        let w = any_from (λ (p : ℕ × ℕ). p.0 == thread) at found in
        absurd (nowhere w.0.1 (subst (λ (ps : List (ℕ × ℕ)). Contains ps (thread, w.0.1)) e (subst (λ (p : ℕ × ℕ). Contains at p) (pair_is w.0.0 w.0.1 thread w.0.1 (eqb-true w.0.0 thread w.2) refl) w.1)))
    none_at false found = refl

-- ---- the locations in order

abbrev pub in_order : List (ℕ × ℕ) → ℕ → ℕ → List (ℕ × ℕ)
in_order at thread location = filter (λ (p : ℕ × ℕ). ltb p.0 thread) at ++ (thread, location) ∷ filter (λ (p : ℕ × ℕ). ltb thread p.0) at

in_order_is : (from : Configuration) (thread location : ℕ) → IsMovedTo from thread location (located (in_order from.at thread location))
in_order_is from thread location t l = (forth, back)
  where
    below : List (ℕ × ℕ)
    below = filter (λ (p : ℕ × ℕ). ltb p.0 thread) from.at

    above : List (ℕ × ℕ)
    above = filter (λ (p : ℕ × ℕ). ltb thread p.0) from.at

    forth : Contains (below ++ (thread, location) ∷ above) (t, l) → ((t ≡ thread) × (l ≡ location)) ⊎ ((t ≢ thread) × IsAt from t l)
    forth h = elim (Contains-append_cases below ((thread, location) ∷ above) (t, l) h) [
      | inl low ↦
          let w = from_kept (λ (p : ℕ × ℕ). ltb p.0 thread) from.at (t, l) low in
          let less : t < thread = ltb-true t thread w.1 in
          inr ((λ e. let f : ⊥ = omega (arith, less, e) in f), w.0)
      | inr rest ↦ elim (cons_cases (thread, location) above (t, l) rest) [
        | inl is ↦ inl (ap (λ (q : ℕ × ℕ). q.0) (sym is), ap (λ (q : ℕ × ℕ). q.1) (sym is))
        | inr high ↦
            let w = from_kept (λ (p : ℕ × ℕ). ltb thread p.0) from.at (t, l) high in
            let less : thread < t = ltb-true thread t w.1 in
            inr ((λ e. let f : ⊥ = omega (arith, less, e) in f), w.0)
      ]
    ]

    back : ((t ≡ thread) × (l ≡ location)) ⊎ ((t ≢ thread) × IsAt from t l) → Contains (below ++ (thread, location) ∷ above) (t, l)
    back (inl is) = Contains-append_right below ((thread, location) ∷ above) (t, l)
        (subst (λ (q : ℕ × ℕ). Contains ((thread, location) ∷ above) q) (pair_is thread location t l (sym is.0) (sym is.1)) (here (thread, location) above))
    back (inr other) = elim (cases_lt t thread) [
      | inl low ↦ Contains-append_left below ((thread, location) ∷ above) (t, l) (kept (λ (p : ℕ × ℕ). ltb p.0 thread) from.at (t, l) other.1 (lt-ltb t thread low))
      | inr high ↦ elim (cases_lt thread t) [
        | inl more ↦ Contains-append_right below ((thread, location) ∷ above) (t, l) (there (thread, location) above (t, l) (kept (λ (p : ℕ × ℕ). ltb thread p.0) from.at (t, l) other.1 (lt-ltb thread t more)))
        | inr less ↦ absurd (other.0 (let e : t ≡ thread = omega (arith, high, less) in e))
      ]
    ]

-- ---- the order of threads

abbrev pub thread_cmp : ℕ × ℕ → ℕ × ℕ → Ordering
thread_cmp p q = nat_cmp p.0 q.0

pub less_is : (m n : ℕ) → m < n → nat_cmp m n ≡ Less
less_is m n h = sym (nat_cmp_is m n Less h)

each_thread : (p : ℕ × ℕ) (at : List (ℕ × ℕ)) → AllByRecursion (λ y. nat_cmp p.0 y ≡ Less) (map (λ (p : ℕ × ℕ). p.0) at) → AllByRecursion (λ q. thread_cmp p q ≡ Less) at
each_thread p [] h = tt
each_thread p (q ∷ at) h = (h.0, each_thread p at h.1)

threads_up : (at : List (ℕ × ℕ)) → IsStrictlySortedBy nat_cmp (map (λ (p : ℕ × ℕ). p.0) at) → IsStrictlySortedBy thread_cmp at
unfolding IsStrictlySortedBy
threads_up [] h = tt
threads_up (p ∷ at) h = (each_thread p at h.0, threads_up at h.1)

of_each : (p : ℕ × ℕ) (at : List (ℕ × ℕ)) → AllByRecursion (λ q. thread_cmp p q ≡ Less) at → AllByRecursion (λ y. nat_cmp p.0 y ≡ Less) (map (λ (p : ℕ × ℕ). p.0) at)
of_each p [] h = tt
of_each p (q ∷ at) h = (h.0, of_each p at h.1)

of_threads : (at : List (ℕ × ℕ)) → IsStrictlySortedBy thread_cmp at → IsStrictlySortedBy nat_cmp (map (λ (p : ℕ × ℕ). p.0) at)
unfolding IsStrictlySortedBy
of_threads [] h = tt
of_threads (p ∷ at) h = (of_each p at h.0, of_threads at h.1)

pub located_up : (at : List (ℕ × ℕ)) → IsStrictlyIncreasing (map (λ (p : ℕ × ℕ). p.0) at) → IsStrictlySortedBy thread_cmp at
located_up at h = threads_up at (sorted_from_strictly_increasing (map (λ (p : ℕ × ℕ). p.0) at) h)

one_up : (p : ℕ × ℕ) → IsStrictlySortedBy thread_cmp (p ∷ [])
unfolding IsStrictlySortedBy
one_up p = (tt, tt)

in_order_up : (at : List (ℕ × ℕ)) (thread location : ℕ) → IsStrictlyIncreasing (map (λ (p : ℕ × ℕ). p.0) at) → IsStrictlyIncreasing (map (λ (p : ℕ × ℕ). p.0) (in_order at thread location))
in_order_up at thread location h =
    let below : List (ℕ × ℕ) = filter (λ (p : ℕ × ℕ). ltb p.0 thread) at in
    let above : List (ℕ × ℕ) = filter (λ (p : ℕ × ℕ). ltb thread p.0) at in
    let first : ℕ × ℕ = (thread, location) in
    let up : IsStrictlySortedBy thread_cmp at = located_up at h in
    let is_above : (q : ℕ × ℕ) → Contains above q → thread < q.0 = λ q c. ltb-true thread q.0 (from_kept (λ (p : ℕ × ℕ). ltb thread p.0) at q c).1 in
    let is_below : (q : ℕ × ℕ) → Contains below q → q.0 < thread = λ q c. ltb-true q.0 thread (from_kept (λ (p : ℕ × ℕ). ltb p.0 thread) at q c).1 in
    let rest : IsStrictlySortedBy thread_cmp (first ∷ above) = sorted_append thread_cmp (first ∷ []) above (one_up first) (IsStrictlySortedBy-filter thread_cmp (λ (p : ℕ × ℕ). ltb thread p.0) at up)
    (λ x y hx hy. less_is x.0 y.0 (subst (λ (q : ℕ × ℕ). q.0 < y.0) (only first x hx) (is_above y hy))) in
    let all : IsStrictlySortedBy thread_cmp (in_order at thread location) = sorted_append thread_cmp below (first ∷ above) (IsStrictlySortedBy-filter thread_cmp (λ (p : ℕ × ℕ). ltb p.0 thread) at up) rest
    (λ x y hx hy. less_is x.0 y.0 (let low : x.0 < thread = is_below x hx in elim (cons_cases first above y hy) [
      | inl is ↦ subst (λ (q : ℕ × ℕ). x.0 < q.0) is low
      | inr later ↦ (let high : thread < y.0 = is_above y later in omega (arith, low, high))
    ])) in
    IsStrictlyIncreasing-from_sorted (map (λ (p : ℕ × ℕ). p.0) (in_order at thread location)) (of_threads (in_order at thread location) all)

-- ---- the whole step

pub step_made : (graph : Graph) (from : Configuration) (e : Edge) (thread : ℕ) (at moved slice : List (ℕ × ℕ)) → IsConfig from → IsDue from e thread → at ≡ from.at → may_move at thread e.target ≡ true →
    (p : List (ℕ × ℕ)) → p ≡ from.at → moved ≡ in_order p thread e.source → slice ≡ moved → are_alone graph slice ≡ true → IsStepTo graph from e thread (Some moved)
step_made graph from e thread at moved slice form due is was p same made viewed alone =
    let is_made : moved ≡ in_order from.at thread e.source = made ∙ ap (λ (ps : List (ℕ × ℕ)). in_order ps thread e.source) same in (
      subst (λ (ps : List (ℕ × ℕ)). IsStrictlyIncreasing (map (λ (p : ℕ × ℕ). p.0) ps)) (sym is_made) (in_order_up from.at thread e.source form.located),
      record {
        due = due;
        was = moves from at thread e.target is was;
        is = subst (λ (ps : List (ℕ × ℕ)). IsMovedTo from thread e.source (located ps)) (sym is_made) (in_order_is from thread e.source);
        once = alone_is graph slice (located moved) (sym viewed) alone;
      },
    )

pub not_moving : (graph : Graph) (from : Configuration) (e : Edge) (thread : ℕ) (at : List (ℕ × ℕ)) → at ≡ from.at → may_move at thread e.target ≡ false → IsStepTo graph from e thread None
not_moving graph from e thread at is not_was to g = both_ways (may_move at thread e.target) not_was (moving from at thread e.target is g.was)

pub not_alone : (graph : Graph) (from : Configuration) (e : Edge) (thread : ℕ) (p moved slice : List (ℕ × ℕ)) → p ≡ from.at → moved ≡ in_order p thread e.source → slice ≡ moved → are_alone graph slice ≡ false → IsStepTo graph from e thread None
not_alone graph from e thread p moved slice same made viewed not_one to g =
    let is_made : slice ≡ in_order from.at thread e.source = viewed ∙ (made ∙ ap (λ (ps : List (ℕ × ℕ)). in_order ps thread e.source) same) in
    both_ways (are_alone graph slice) not_one (is_alone_of graph slice to (λ t l h. (g.is t l).1
    ((in_order_is from thread e.source t l).0 (subst (λ (ps : List (ℕ × ℕ)). Contains ps (t, l)) is_made h))) g.once)
