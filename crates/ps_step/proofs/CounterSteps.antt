-- Steps back of the counter, and its closed covering.
use Rattle.std.proofs.Common.{◌≡◌, ◌≢◌, ℕ, List, [], ◌∷◌, refl, sym, ap, ◌∙◌, subst, inl, inr, ◌⊎◌, Contains, Option, Some, None, arith}
use Rattle.std.specs.Prelude.{slice_get}
use Rattle.ps_atom.specs.declared.atom.Atom.{Atom}
use Rattle.ps_triple.specs.Examples.{bare, counter_entries}
use Rattle.ps_config.specs.Configurations.{Configuration, IsAt, Covers}
use Rattle.ps_config.specs.Forms.{start_configuration}
use Rattle.ps_graph.specs.Examples.Connections.{edge, counter_edges}
use Rattle.ps_graph.specs.Facts.{owner_of}
use Rattle.ps_graph.specs.declared.edge.Edge.{Edge}
use Rattle.ps_graph.specs.declared.graph.Graph.{Graph}
use Rattle.ps_list.proofs.Members.{nothing, cons_cases, here, there}
use Rattle.ps_step.specs.Closed.{IsCovered}
use Rattle.ps_step.specs.Examples.{IsCounterGraph, placed, asserting, entering, FromStart, FromAsserting, MoreThanSmallest, OneInOnce, WhichAccept, CounterIsClosed}
use Rattle.ps_step.specs.Steps.{IsDue, IsNowhere, IsOfOnce, HasOneInOnce, GoesBack, StandsBy, Stands, IsSmallest}
use Rattle.ps_step.proofs.Counter.{only, met, demand_met, one_covers, not_start, edge_cases, stands_by, stands, smallest, any_number, goes, not_initial, two_is_initial, finds, adds, passes, keeps, passes_too, has_finds, has_adds, has_passes, has_keeps, has_passes_too}
use Rattle.ps_step.proofs.Moved.{goes_same}
use Rattle.ps_triple.specs.Entries.{HasInitial}

three_not_one : (let n : ℕ = 3 in n ≢ 1)
three_not_one e = let f : ⊥ = omega (arith, e) in f

-- along an edge that doesn't enter the error
due_next : (location p : ℕ) (e : Edge) (thread : ℕ) → location ≢ 1 → e.target ≢ 1 → IsDue (placed ((0, location) ∷ []) (bare p ∷ [])) e thread
due_next location p e thread other target = inr (not_start location p other, target)

nowhere_else : (location p thread : ℕ) → thread ≢ 0 → IsNowhere (placed ((0, location) ∷ []) (bare p ∷ [])) thread
nowhere_else location p thread other l h = other (sym (ap (λ (q : ℕ × ℕ). q.0) (only (0, location) (thread, l) h)))

swapped : (a b p : ℕ × ℕ) → Contains (a ∷ b ∷ []) p → Contains (b ∷ a ∷ []) p
swapped a b p h = elim (cons_cases a (b ∷ []) p h) [
  | inl is ↦ there b (a ∷ []) p (subst (λ (q : ℕ × ℕ). Contains (a ∷ []) q) is (here a []))
  | inr later ↦ subst (λ (q : ℕ × ℕ). Contains (b ∷ a ∷ []) q) (only b p later) (here b (a ∷ []))
]

-- by another thread, which stands second
by_another : (graph : Graph) → IsCounterGraph None graph → (p source target command : ℕ) (atoms : List Atom) → target ≢ 1 →
    GoesBack graph (placed ((0, 3) ∷ []) (bare p ∷ [])) (edge source target command) 1 (placed ((0, 3) ∷ (1, source) ∷ []) atoms)
by_another graph is p source target command atoms other =
    let from : Configuration = placed ((0, 3) ∷ []) (bare p ∷ []) in
    let made : Configuration = placed ((1, source) ∷ (0, 3) ∷ []) atoms in
    let not_zero : (let n : ℕ = 1 in n ≢ 0) = λ e. (let f : ⊥ = omega (arith, e) in f) in
    goes_same graph from made (placed ((0, 3) ∷ (1, source) ∷ []) atoms) (edge source target command) 1
    (λ t l h. swapped (1, source) (0, 3) (t, l) h) (λ t l h. swapped (0, 3) (1, source) (t, l) h)
    (goes None graph is from (edge source target command) 1 atoms (due_next 3 p (edge source target command) 1 three_not_one other) (inr (nowhere_else 3 p 1 not_zero)) (any_number None graph is refl made))

-- ---- the steps

pub from_start : FromStart
from_start graph is = (
  smallest None graph is ((0, 1) ∷ []) ((0, 3) ∷ []) finds 3 1 2 0 refl has_finds
      (goes None graph is start_configuration (edge 3 1 2) 0 (bare 1 ∷ []) (inl (refl, refl, refl)) (inl (here (0, 1) [])) (any_number None graph is refl asserting)),
  λ thread to s. elim (stands_by None graph is start_configuration to 0 thread (edge 0 3 0) refl s).goes.due [
    | inl first ↦ three_not_one first.1
    | inr other ↦ other.0 refl
  ],
  λ thread to other s. elim (stands_by None graph is start_configuration to 2 thread (edge 3 1 2) refl s).goes.due [
    | inl first ↦ other first.2
    | inr elsewhere ↦ elsewhere.0 refl
  ],
  λ at s. nothing (bare 1) (demand_met ((0, 1) ∷ []) finds 0 (placed at []) has_finds (stands_by None graph is start_configuration (placed at []) 2 0 (edge 3 1 2) refl s).meets),
)

into_error : (graph : Graph) → IsCounterGraph None graph → (location p thread : ℕ) (to : Configuration) → location ≢ 1 → ¬ Stands graph counter_entries (placed ((0, location) ∷ []) (bare p ∷ [])) 2 thread to
into_error graph is location p thread to other s = elim (stands_by None graph is (placed ((0, location) ∷ []) (bare p ∷ [])) to 2 thread (edge 3 1 2) refl s).goes.due [
  | inl first ↦ not_start location p other first.0
  | inr elsewhere ↦ elsewhere.1 refl
]

adds_one : (how_many : Option ℕ) (graph : Graph) → IsCounterGraph how_many graph → HasOneInOnce graph entering → IsSmallest graph counter_entries asserting 0 0 entering
adds_one how_many graph is one = smallest how_many graph is ((0, 3) ∷ []) ((0, 0) ∷ []) adds 0 3 0 0 refl has_adds
    (goes how_many graph is asserting (edge 0 3 0) 0 (bare 2 ∷ []) (due_next 3 1 (edge 0 3 0) 0 three_not_one three_not_one) (inl (here (0, 3) [])) one)

two_not_one : (let n : ℕ = 2 in n ≢ 1)
two_not_one e = let f : ⊥ = omega (arith, e) in f

three_not_two : (let n : ℕ = 3 in n ≢ 2)
three_not_two e = let f : ⊥ = omega (arith, e) in f

pub from_asserting : FromAsserting
from_asserting graph is = (
  adds_one None graph is (any_number None graph is refl entering),
  smallest None graph is ((0, 3) ∷ []) ((0, 3) ∷ (1, 0) ∷ []) adds 0 3 0 1 refl has_adds (by_another graph is 1 0 3 0 (bare 2 ∷ []) three_not_one),
  smallest None graph is ((0, 3) ∷ []) ((0, 3) ∷ (1, 3) ∷ []) passes 3 2 1 1 refl has_passes (by_another graph is 1 3 2 1 (bare 1 ∷ []) two_not_one),
  λ to s. elim (stands_by None graph is asserting to 1 0 (edge 3 2 1) refl s).goes.was [
    | inl at ↦ three_not_two (ap (λ (q : ℕ × ℕ). q.1) (only (0, 3) (0, 2) at))
    | inr nowhere ↦ nowhere 3 (here (0, 3) [])
  ],
  λ thread to s. into_error graph is 3 1 thread to three_not_one s,
)

not_same_atom : (m n : ℕ) → m ≢ n → bare m ≢ bare n
not_same_atom m n other e = other (ap (λ (q : Atom). q.predicate) e)

pub more_than_smallest : MoreThanSmallest
more_than_smallest graph is =
    let both : List Atom = bare 1 ∷ bare 2 ∷ [] in
    let less : GoesBack graph asserting (edge 0 3 0) 0 (placed ((0, 0) ∷ []) (bare 2 ∷ [])) =
    goes None graph is asserting (edge 0 3 0) 0 (bare 2 ∷ []) (due_next 3 1 (edge 0 3 0) 0 three_not_one three_not_one) (inl (here (0, 3) [])) (any_number None graph is refl (placed ((0, 0) ∷ []) (bare 2 ∷ []))) in
    let more : GoesBack graph asserting (edge 0 3 0) 0 (placed ((0, 0) ∷ []) both) =
    goes None graph is asserting (edge 0 3 0) 0 both (due_next 3 1 (edge 0 3 0) 0 three_not_one three_not_one) (inl (here (0, 3) [])) (any_number None graph is refl (placed ((0, 0) ∷ []) both)) in (
      stands None graph is asserting (placed ((0, 0) ∷ []) both) 0 0 (edge 0 3 0) refl
          (record { goes = more; meets = met ((0, 3) ∷ []) adds 0 (placed ((0, 0) ∷ []) both) (there (bare 1) (bare 2 ∷ []) (bare 2) (here (bare 2) [])) }),
      λ s. not_same_atom 2 1 two_not_one (only (bare 2) (bare 1) (s.least (bare 2 ∷ []) (λ q h. there (bare 1) (bare 2 ∷ []) q h)
          (stands None graph is asserting (placed ((0, 0) ∷ []) (bare 2 ∷ [])) 0 0 (edge 0 3 0) refl
          (record { goes = less; meets = met ((0, 3) ∷ []) adds 0 (placed ((0, 0) ∷ []) (bare 2 ∷ [])) (here (bare 2) []) })) (bare 1) (here (bare 1) (bare 2 ∷ [])))),
      λ s. not_same_atom 2 1 two_not_one (sym (only (bare 1) (bare 2) (demand_met ((0, 3) ∷ []) adds 0 (placed ((0, 0) ∷ []) (bare 1 ∷ [])) has_adds
          (stands_by None graph is asserting (placed ((0, 0) ∷ []) (bare 1 ∷ [])) 0 0 (edge 0 3 0) refl s).meets))),
      λ s.
          let not_moved : (let n : ℕ = 0 in n ≢ 1) = λ e. (let f : ⊥ = omega (arith, e) in f) in
          let to : Configuration = placed ((1, 0) ∷ []) (bare 2 ∷ []) in
          let stays : IsAt to 0 3 = ((stands_by None graph is asserting to 0 1 (edge 0 3 0) refl s).goes.is 0 3).1 (inr (not_moved, here (0, 3) [])) in
          not_moved (sym (ap (λ (q : ℕ × ℕ). q.0) (only (1, 0) (0, 3) stays))),
    )

pub one_in_once : OneInOnce
one_in_once graph is = (
  adds_one (Some 0) graph is (λ s t l m hs ht _ _. sym (ap (λ (q : ℕ × ℕ). q.0) (only (0, 0) (s, l) hs)) ∙ ap (λ (q : ℕ × ℕ). q.0) (only (0, 0) (t, m) ht)),
  λ thread to other s.
      let g : GoesBack graph asserting (edge 0 3 0) thread to = (stands_by (Some 0) graph is asserting to 0 thread (edge 0 3 0) refl s).goes in
      let first : IsOfOnce graph 0 = (0, is.at_most_one, ap (λ (o : List (Option ℕ)). owner_of o 0) is.owner) in
      let second : IsOfOnce graph 3 = (0, is.at_most_one, ap (λ (o : List (Option ℕ)). owner_of o 3) is.owner) in
      other (g.once thread 0 0 3 ((g.is thread 0).1 (inl (refl, refl))) ((g.is 0 3).1 (inr ((λ e. other (sym e)), here (0, 3) []))) first second),
)

-- ---- accepting

at_entry : (graph : Graph) → IsCounterGraph None graph → (l : ℕ) → 0 ≡ l → Contains graph.entries l
at_entry graph is l e = subst (λ (es : List ℕ). Contains es l) (sym is.entries) (subst (λ (m : ℕ). Contains (0 ∷ []) m) e (here 0 []))

not_at_entry : (graph : Graph) → IsCounterGraph None graph → ¬ Contains graph.entries 3
not_at_entry graph is h = (let e : 0 ≡ 3 = only 0 3 (subst (λ (es : List ℕ). Contains es 3) is.entries h) in let f : ⊥ = omega (arith, e) in f)

pub which_accept : WhichAccept
which_accept graph is = (
  record {
    entered = λ t l h. at_entry graph is l (elim (cons_cases (0, 0) ((1, 0) ∷ []) (t, l) h) [
      | inl same ↦ ap (λ (q : ℕ × ℕ). q.1) same
      | inr later ↦ ap (λ (q : ℕ × ℕ). q.1) (only (1, 0) (t, l) later)
    ]);
    without = λ q h. absurd (nothing q h);
  },
  λ a. not_at_entry graph is (a.entered 1 3 (there (0, 0) ((1, 3) ∷ []) (1, 3) (here (1, 3) []))),
  λ a. a.without (bare 2) (here (bare 2) []) two_is_initial,
  record {
    entered = λ t l h. at_entry graph is l (ap (λ (q : ℕ × ℕ). q.1) (only (0, 0) (t, l) h));
    without = λ q h i. nothing _ i.1;
  },
  record {
    entered = λ t l h. at_entry graph is l (ap (λ (q : ℕ × ℕ). q.1) (only (0, 0) (t, l) h));
    without = λ q h. subst (λ (r : Atom). ¬ HasInitial counter_entries r.predicate) (only (bare 1) q h) (not_initial 1 (λ e. two_not_one (sym e)));
  },
)

-- ---- the covering

abbrev both_of : List Configuration
both_of = asserting ∷ entering ∷ []

by_asserting : (to : Configuration) → Covers asserting to → IsCovered both_of to
by_asserting to c = (asserting, here asserting (entering ∷ []), c)

by_entering : (to : Configuration) → Covers entering to → IsCovered both_of to
by_entering to c = (entering, there asserting (entering ∷ []) entering (here entering []), c)

-- the mover is at the source
moved : (graph : Graph) (from to : Configuration) (e : Edge) (thread : ℕ) → StandsBy graph counter_entries from e thread to → IsAt to thread e.source
moved graph from to e thread s = (s.goes.is thread e.source).1 (inl (refl, refl))

after_first : (graph : Graph) (e : Edge) (thread : ℕ) (to : Configuration) → (edge 0 3 0 ≡ e) ⊎ (edge 3 2 1 ≡ e) ⊎ (edge 3 1 2 ≡ e) → StandsBy graph counter_entries start_configuration e thread to → IsCovered both_of to
after_first graph e thread to (inl is) s = elim s.goes.due [
  | inl first ↦ absurd (three_not_one (ap (λ (f : Edge). f.target) is ∙ first.1))
  | inr other ↦ absurd (other.0 refl)
]
after_first graph e thread to (inr (inl is)) s = elim s.goes.due [
  | inl first ↦ absurd (two_not_one (ap (λ (f : Edge). f.target) is ∙ first.1))
  | inr other ↦ absurd (other.0 refl)
]
after_first graph e thread to (inr (inr is)) s =
    let t : StandsBy graph counter_entries start_configuration (edge 3 1 2) thread to = subst (λ (f : Edge). StandsBy graph counter_entries start_configuration f thread to) (sym is) s in
    by_asserting to (one_covers 3 1 to thread (moved graph start_configuration to (edge 3 1 2) thread t) (demand_met ((0, 1) ∷ []) finds thread to has_finds t.meets))

from_error : (graph : Graph) (location p thread : ℕ) (e : Edge) (to : Configuration) → location ≢ 1 → edge 3 1 2 ≡ e → ¬ StandsBy graph counter_entries (placed ((0, location) ∷ []) (bare p ∷ [])) e thread to
from_error graph location p thread e to other is s = elim s.goes.due [
  | inl first ↦ not_start location p other first.0
  | inr elsewhere ↦ elsewhere.1 (ap (λ (f : Edge). f.target) (sym is))
]

after_asserting : (graph : Graph) (e : Edge) (thread : ℕ) (to : Configuration) → (edge 0 3 0 ≡ e) ⊎ (edge 3 2 1 ≡ e) ⊎ (edge 3 1 2 ≡ e) → StandsBy graph counter_entries asserting e thread to → IsCovered both_of to
after_asserting graph e thread to (inl is) s =
    let t : StandsBy graph counter_entries asserting (edge 0 3 0) thread to = subst (λ (f : Edge). StandsBy graph counter_entries asserting f thread to) (sym is) s in
    by_entering to (one_covers 0 2 to thread (moved graph asserting to (edge 0 3 0) thread t) (demand_met ((0, 3) ∷ []) adds thread to has_adds t.meets))
after_asserting graph e thread to (inr (inl is)) s =
    let t : StandsBy graph counter_entries asserting (edge 3 2 1) thread to = subst (λ (f : Edge). StandsBy graph counter_entries asserting f thread to) (sym is) s in
    by_asserting to (one_covers 3 1 to thread (moved graph asserting to (edge 3 2 1) thread t) (demand_met ((0, 3) ∷ []) passes thread to has_passes t.meets))
after_asserting graph e thread to (inr (inr is)) s = absurd (from_error graph 3 1 thread e to three_not_one is s)

zero_not_one : (let n : ℕ = 0 in n ≢ 1)
zero_not_one e = let f : ⊥ = omega (arith, e) in f

after_entering : (graph : Graph) (e : Edge) (thread : ℕ) (to : Configuration) → (edge 0 3 0 ≡ e) ⊎ (edge 3 2 1 ≡ e) ⊎ (edge 3 1 2 ≡ e) → StandsBy graph counter_entries entering e thread to → IsCovered both_of to
after_entering graph e thread to (inl is) s =
    let t : StandsBy graph counter_entries entering (edge 0 3 0) thread to = subst (λ (f : Edge). StandsBy graph counter_entries entering f thread to) (sym is) s in
    by_entering to (one_covers 0 2 to thread (moved graph entering to (edge 0 3 0) thread t) (demand_met ((0, 0) ∷ []) keeps thread to has_keeps t.meets))
after_entering graph e thread to (inr (inl is)) s =
    let t : StandsBy graph counter_entries entering (edge 3 2 1) thread to = subst (λ (f : Edge). StandsBy graph counter_entries entering f thread to) (sym is) s in
    let other : 0 ≢ thread = λ same. elim t.goes.was [
      | inl at ↦ (let e : 0 ≡ 2 = ap (λ (q : ℕ × ℕ). q.1) (only (0, 0) (thread, 2) at) in let f : ⊥ = omega (arith, e) in f)
      | inr nowhere ↦ nowhere 0 (subst (λ (k : ℕ). IsAt entering k 0) same (here (0, 0) []))
    ] in
    by_entering to (one_covers 0 2 to 0 ((t.goes.is 0 0).1 (inr (other, here (0, 0) []))) (demand_met ((0, 0) ∷ []) passes_too thread to has_passes_too t.meets))
after_entering graph e thread to (inr (inr is)) s = absurd (from_error graph 0 2 thread e to zero_not_one is s)

is_edge_back : (graph : Graph) → IsCounterGraph None graph → (number : ℕ) → slice_get graph.edges number ≡ slice_get counter_edges number
is_edge_back graph is number = ap (λ (es : List Edge). slice_get es number) is.edges

next_covered : (graph : Graph) → IsCounterGraph None graph → (from : Configuration) → Contains both_of from → (number thread : ℕ) (to : Configuration) → Stands graph counter_entries from number thread to → IsCovered both_of to
next_covered graph is from within number thread to s =
    let cases : (edge 0 3 0 ≡ s.edge) ⊎ (edge 3 2 1 ≡ s.edge) ⊎ (edge 3 1 2 ≡ s.edge) = edge_cases number s.edge (sym (is_edge_back graph is number) ∙ s.is_edge) in
    elim (cons_cases asserting (entering ∷ []) from within) [
      | inl first ↦ after_asserting graph s.edge thread to cases (subst (λ (c : Configuration). StandsBy graph counter_entries c s.edge thread to) (sym first) s.stands)
      | inr later ↦ after_entering graph s.edge thread to cases (subst (λ (c : Configuration). StandsBy graph counter_entries c s.edge thread to) (sym (only entering from later)) s.stands)
    ]

pub counter_is_closed : CounterIsClosed
counter_is_closed graph is = (
  record {
    first = λ number thread to s. after_first graph s.edge thread to (edge_cases number s.edge (sym (is_edge_back graph is number) ∙ s.is_edge)) s.stands;
    next = next_covered graph is;
    never = λ c within a. elim (cons_cases asserting (entering ∷ []) c within) [
      | inl first ↦ not_at_entry graph is (a.entered 0 3 (subst (λ (d : Configuration). IsAt d 0 3) first (here (0, 3) [])))
      | inr later ↦ a.without (bare 2) (subst (λ (d : Configuration). Contains d.atoms (bare 2)) (only entering c later) (here (bare 2) [])) two_is_initial
    ];
  },
  λ closed.
      let w : IsCovered (asserting ∷ []) entering = closed.next asserting (here asserting []) 0 0 entering (adds_one None graph is (any_number None graph is refl entering)).stands in
      let c : Covers asserting entering = subst (λ (d : Configuration). Covers d entering) (sym (only asserting w.0 w.1)) w.2 in
      let e : 0 ≡ 3 = ap (λ (q : ℕ × ℕ). q.1) (only (0, 0) (c.0 0, 3) (c.1.located 0 3 (here (0, 3) []))) in
      let f : ⊥ = omega (arith, e) in f,
)
