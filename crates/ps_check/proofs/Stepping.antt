-- Steps back, thread by thread and edge by edge.
use Rattle.std.proofs.Common.{◌≡◌, ◌<◌, ◌≤◌, ◌+◌, ℕ, Bool, true, false, List, [], ◌∷◌, length, refl, sym, ap, subst, ◌∙◌, inl, inr, Contains, Option, Some, None, arith}
use Rattle.std.specs.Prelude.{MatchBool, slice_get}
use Rattle.std.proofs.lemmas.Bool.{cases_lt, false≢true}
use Rattle.std.proofs.lemmas.Option.{slice_get_within}
use Rattle.ps_atom.specs.declared.atom.Atom.{Atom}
use Rattle.ps_check.specs.Faults.{HasUncovered, IsMover, step_order, thread_order}
use Rattle.ps_check.specs.declared.steps.Step.{Step}
use Rattle.ps_check.specs.inner.Branches.{AreHitsCovered, HasUncoveredHit}
use Rattle.ps_check.specs.inner.Stages.{AreAllCovered, IsCoveredAlong, IsCoveredBy, IsFirstAlong, IsFirstUncovered, IsUncoveredBy}
use Rattle.ps_check.proofs.Below.{Below, below_is, is_below, last_below, not_below, rest_below}
use Rattle.ps_config.specs.Configurations.{Configuration, threads_at}
use Rattle.ps_config.specs.Forms.{IsFresh}
use Rattle.ps_config.specs.Next.{IsNextThread}
use Rattle.ps_config.proofs.Covering.{covers_more, covers_twice}
use Rattle.ps_demand.specs.Demands.{AreTied, demands}
use Rattle.ps_graph.specs.declared.edge.Edge.{Edge}
use Rattle.ps_graph.specs.declared.graph.Graph.{Graph}
use Rattle.ps_step.specs.Closed.{IsCovered}
use Rattle.ps_step.specs.Places.{IsStepTo, located}
use Rattle.ps_step.specs.Steps.{Stands, StandsBy}
use Rattle.ps_step.specs.Successors.{IsTried}
use Rattle.ps_step.proofs.Demanding.{hits_meets, meets_hits}
use Rattle.ps_step.proofs.Moved.{goes_same}
use Rattle.ps_step.proofs.Pulled.{by_any}
use Rattle.ps_step.proofs.Smallest.{at_edge}
use Rattle.ps_step.proofs.Turns.{fresh_is_one}
use Rattle.ps_triple.specs.declared.entry.Entry.{Entry}

pub told_true : (b : Bool) (P Q : Type 0) → MatchBool b P Q → b ≡ true → P
told_true true P Q h e = h
told_true false P Q h e = absurd (false≢true e)

pub told_false : (b : Bool) (P Q : Type 0) → MatchBool b P Q → b ≡ false → Q
told_false true P Q h e = absurd (false≢true (sym e))
told_false false P Q h e = h

pub told_more : (b : Bool) (P Q R S : Type 0) → (P → R) → (Q → S) → MatchBool b P Q → MatchBool b R S
told_more true P Q R S f g h = f h
told_more false P Q R S f g h = g h

module _ (graph : Graph) (entries : List Entry) (configurations : List Configuration) (from : Configuration) where
  -- ---- one step

  pub no_step_covered : (edge : Edge) (number thread : ℕ) → slice_get graph.edges number ≡ Some edge → IsStepTo graph from edge thread None → IsCoveredBy graph entries configurations from number thread
  no_step_covered edge number thread is none to s = absurd (none to (at_edge graph entries from to edge number thread is s).goes)

  module _ (edge : Edge) (number thread : ℕ) (at : List (ℕ × ℕ)) (atoms : List Atom) (sets : List (List Atom)) (tied : AreTied entries) (is : slice_get graph.edges number ≡ Some edge)
      (goes : IsStepTo graph from edge thread (Some at)) (viewed : atoms ≡ from.atoms) (are : sets ≡ demands entries atoms thread edge.command) where
    are_demands : sets ≡ demands entries from.atoms thread edge.command
    are_demands = are ∙ ap (λ (qs : List Atom). demands entries qs thread edge.command) viewed

    pub step_covered : AreHitsCovered configurations at sets → IsCoveredBy graph entries configurations from number thread
    step_covered all to s =
        let by : StandsBy graph entries from edge thread to = at_edge graph entries from to edge number thread is s in
        let hit : IsCovered configurations (record { at = at; atoms = to.atoms }) =
        all to.atoms (λ set h. meets_hits entries from to thread edge.command tied by.meets set (subst (λ (ss : List (List Atom)). Contains ss set) are_demands h)) in (
          hit.0,
          hit.1,
          covers_twice hit.0 (record { at = at; atoms = to.atoms }) to hit.2
              (covers_more (record { at = at; atoms = to.atoms }) to (λ t l h. (by.goes.is t l).1 ((goes.1.is t l).0 h)) (λ q h. h)),
        )

    pub step_uncovered : HasUncoveredHit configurations at sets → IsUncoveredBy graph entries configurations from number thread
    step_uncovered (hit, hits, not_covered) = (
      record { at = at; atoms = hit },
      record {
        edge = edge;
        is_edge = is;
        stands = record {
          goes = goes_same graph from (located at) (record { at = at; atoms = hit }) edge thread (λ t l h. h) (λ t l h. h) goes.1;
          meets = hits_meets entries from (record { at = at; atoms = hit }) thread edge.command tied (λ set h. hits set (subst (λ (ss : List (List Atom)). Contains ss set) (sym are_demands) h));
        };
      },
      not_covered,
    )

    pub step_judged : (covered : Bool) → MatchBool covered (AreHitsCovered configurations at sets) (HasUncoveredHit configurations at sets)
        → MatchBool covered (IsCoveredBy graph entries configurations from number thread) (IsUncoveredBy graph entries configurations from number thread)
    step_judged covered h =
        told_more covered (AreHitsCovered configurations at sets) (HasUncoveredHit configurations at sets) (IsCoveredBy graph entries configurations from number thread) (IsUncoveredBy graph entries configurations from number thread)
        step_covered step_uncovered h

  -- ---- the threads of one edge

  -- each that occurs below this one
  abbrev pub AreDone : ℕ → ℕ → Type 0
  AreDone edge least = (thread : ℕ) → Contains (threads_at from) thread → thread < least → IsCoveredBy graph entries configurations from edge thread

  pub none_done : (edge : ℕ) → AreDone edge 0
  none_done edge thread h less = absurd (let f : ⊥ = omega (arith, less) in f)

  pub more_done : (edge least thread later : ℕ) → AreDone edge least → IsNextThread (threads_at from) least (Some thread) → later ≡ thread + 1 → IsCoveredBy graph entries configurations from edge thread → AreDone edge later
  more_done edge least thread later done next is covered other h less = elim (cases_lt other least) [
    | inl below ↦ done other h below
    | inr past ↦
        let above : thread ≤ other = next.2 other h past in
        let same : thread ≡ other = omega (arith, above, less, is) in
        subst (λ (k : ℕ). IsCoveredBy graph entries configurations from edge k) same covered
  ]

  pub all_done : (edge least fresh : ℕ) → AreDone edge least → IsNextThread (threads_at from) least None → IsCoveredBy graph entries configurations from edge fresh → IsCoveredAlong graph entries configurations from fresh edge
  all_done edge least fresh done none covered thread (inl occurs) = done thread occurs (none thread occurs)
  all_done edge least fresh done none covered thread (inr is) = subst (λ (k : ℕ). IsCoveredBy graph entries configurations from edge k) (sym is) covered

  uncovered_not : (edge thread : ℕ) (mover : Option ℕ) → IsCoveredBy graph entries configurations from edge thread → (u : HasUncovered graph entries configurations from edge mover) → u.thread ≡ thread → ⊥
  uncovered_not edge thread mover covered u same = u.uncovered (covered u.to (subst (λ (k : ℕ). Stands graph entries from edge k u.to) same u.stands))

  pub first_thread : (edge least thread : ℕ) (step : Step) → AreDone edge least → IsNextThread (threads_at from) least (Some thread) → step.edge ≡ edge → step.thread ≡ Some thread
      → IsUncoveredBy graph entries configurations from edge thread → IsFirstAlong graph entries configurations from edge step
  first_thread edge least thread step done next along by u = record {
    along = along;
    has = subst (λ (mover : Option ℕ). HasUncovered graph entries configurations from edge mover) (sym by) (record { thread = thread; to = u.0; named = (refl, next.0); stands = u.1; uncovered = u.2 });
    before = λ mover less. earlier mover (subst (λ (m : Option ℕ). Below (thread_order mover) (thread_order m)) by (below_is (thread_order mover) (thread_order step.thread) less));
  }
    where
      earlier : (mover : Option ℕ) → Below (thread_order mover) (thread_order (Some thread)) → ¬ HasUncovered graph entries configurations from edge mover
      earlier (Some s) b v =
          let less : s < thread = last_below s thread (rest_below 0 (s ∷ []) (thread ∷ []) b) in
          let is : s ≡ v.thread = v.named.0 in
          elim (cases_lt v.thread least) [
            | inl below ↦ uncovered_not edge v.thread (Some s) (done v.thread v.named.1 below) v refl
            | inr past ↦ (let above : thread ≤ v.thread = next.2 v.thread v.named.1 past in omega (arith, above, less, is))
          ]
      earlier None b v = not_below 1 0 [] (thread ∷ []) (omega arith) b

  pub first_fresh : (edge least fresh : ℕ) (step : Step) → IsFresh from fresh → AreDone edge least → IsNextThread (threads_at from) least None → step.edge ≡ edge → step.thread ≡ None
      → IsUncoveredBy graph entries configurations from edge fresh → IsFirstAlong graph entries configurations from edge step
  first_fresh edge least fresh step is_fresh done none along by u = record {
    along = along;
    has = subst (λ (mover : Option ℕ). HasUncovered graph entries configurations from edge mover) (sym by) (record { thread = fresh; to = u.0; named = is_fresh; stands = u.1; uncovered = u.2 });
    before = λ mover less. earlier mover (subst (λ (m : Option ℕ). Below (thread_order mover) (thread_order m)) by (below_is (thread_order mover) (thread_order step.thread) less));
  }
    where
      earlier : (mover : Option ℕ) → Below (thread_order mover) (thread_order None) → ¬ HasUncovered graph entries configurations from edge mover
      earlier (Some s) b v = uncovered_not edge v.thread (Some s) (done v.thread v.named.1 (none v.thread v.named.1)) v refl
      earlier None b v = rest_below 1 [] [] b

  -- ---- the edges

  abbrev pub AreEdgesDone : ℕ → ℕ → Type 0
  AreEdgesDone fresh number = (edge : ℕ) → edge < number → IsCoveredAlong graph entries configurations from fresh edge

  pub no_edge_done : (fresh : ℕ) → AreEdgesDone fresh 0
  no_edge_done fresh edge less = absurd (let f : ⊥ = omega (arith, less) in f)

  pub more_edges_done : (fresh number : ℕ) → AreEdgesDone fresh number → IsCoveredAlong graph entries configurations from fresh number → AreEdgesDone fresh (number + 1)
  more_edges_done fresh number done along edge less = elim (cases_lt edge number) [
    | inl below ↦ done edge below
    | inr past ↦ (let same : number ≡ edge = omega (arith, less, past) in subst (λ (k : ℕ). IsCoveredAlong graph entries configurations from fresh k) same along)
  ]

  -- a thread that is named is tried
  tried : (fresh : ℕ) (mover : Option ℕ) (thread : ℕ) → IsFresh from fresh → IsMover from mover thread → IsTried from fresh thread
  tried fresh (Some s) thread is named = inl named.1
  tried fresh None thread is named = inr (fresh_is_one from thread fresh named is)

  pub first_edge : (fresh number : ℕ) (step : Step) → IsFresh from fresh → AreEdgesDone fresh number → IsFirstAlong graph entries configurations from number step → IsFirstUncovered graph entries configurations from step
  first_edge fresh number step is done first = record {
    has = subst (λ (k : ℕ). HasUncovered graph entries configurations from k step.thread) (sym first.along) first.has;
    before = λ edge mover less. earlier edge mover (subst (λ (k : ℕ). Below (step_order edge mover) (step_order k step.thread)) first.along (below_is (step_order edge mover) (step_order step.edge step.thread) less));
  }
    where
      earlier : (edge : ℕ) (mover : Option ℕ) → Below (step_order edge mover) (step_order number step.thread) → ¬ HasUncovered graph entries configurations from edge mover
      earlier edge mover (inl less) u = u.uncovered (done edge less u.thread (tried fresh mover u.thread is u.named) u.to u.stands)
      earlier edge mover (inr same) u =
          first.before mover (is_below (thread_order mover) (thread_order step.thread) same.1) (subst (λ (k : ℕ). HasUncovered graph entries configurations from k mover) same.0 u)

  -- what stands by any thread is covered by what stands by one that is tried
  pub all_edges_done : (fresh number : ℕ) → AreTied entries → IsFresh from fresh → AreEdgesDone fresh number → length graph.edges ≤ number → AreAllCovered graph entries configurations from
  all_edges_done fresh number tied is done past edge thread to s =
      let inside : edge < length graph.edges = slice_get_within graph.edges edge s.edge s.is_edge in
      let w = by_any graph entries from to s.edge thread fresh tied is.absent s.stands in
      let less : IsCovered configurations w.1 = done edge (omega (arith, inside, past)) w.0 w.2 w.1 (record { edge = s.edge; is_edge = s.is_edge; stands = w.3 }) in
      (less.0, less.1, covers_twice less.0 w.1 to less.2 w.4)
