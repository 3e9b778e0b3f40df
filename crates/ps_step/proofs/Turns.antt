-- Steps in their order: along one edge by the threads that occur and then by the fresh one, and edge by edge.
use Rattle.std.proofs.Common.{◌≡◌, ◌≢◌, ◌<◌, ◌≤◌, ◌+◌, ℕ, Bool, true, false, ◌==◌, List, [], ◌∷◌, ◌++◌, length, take, refl, sym, ap, ap₂, ◌∙◌, subst, inl, inr, ◌⊎◌, Contains, Some, None, arith, if◌then◌else◌}
use Rattle.std.specs.Prelude.{slice_get}
use Rattle.std.specs.Cmp.Lexicographic.{slice_cmp}
use Rattle.std.specs.List.{AllByRecursion}
use Rattle.std.specs.List.Sorted.{IsStrictlySortedBy}
use Rattle.std.specs.Ordering.{nat_cmp, ordering_then}
use Rattle.std.specs.declared.cmp.Ordering.{Ordering}
use Rattle.std.specs.declared.cmp.Ordering.TheVariants.{Less, Equal, Greater}
use Rattle.std.proofs.lemmas.Bool.{cases_lt, eq-eqb, eqb-true}
use Rattle.std.proofs.lemmas.Cmp.{nat_cmp_total, ranked, tied_itself}
use Rattle.std.proofs.lemmas.List.{append_assoc, append-nil, take_more}
use Rattle.std.proofs.lemmas.Option.{get_or_from_slice_get, slice_get_within}
use Rattle.ps_atom.specs.Atoms.{atom_cmp}
use Rattle.ps_config.specs.Configurations.{Configuration, threads_at}
use Rattle.ps_config.specs.Forms.{IsFresh}
use Rattle.ps_config.specs.Next.{IsNextThread}
use Rattle.ps_config.specs.declared.wide.WideStep.{WideStep}
use Rattle.ps_graph.specs.declared.graph.Graph.{Graph}
use Rattle.ps_list.proofs.Members.{nothing, here, there}
use Rattle.ps_step.specs.Steps.{IsSmallest}
use Rattle.ps_step.specs.Successors.{AreSuccessors, step_cmp, successor_cmp, turn}
use Rattle.ps_step.specs.Wide.{AreNarrow, IsFirstWide, IsNarrow, IsWideBy}
use Rattle.ps_step.specs.declared.expansion.Successor.{Successor}
use Rattle.ps_step.specs.inner.Parts.{AddsStep, AddsSteps, AreOfStep, AreSmallestOf, IsFirstWideAt, IsStep, IsStepAlong, IsStepBefore, IsStepBelow, IsWideAt}
use Rattle.ps_step.proofs.Expanding.{Both, parts_more, same_steps}
use Rattle.ps_step.proofs.Going.{less_is}
use Rattle.ps_step.proofs.StepSets.{narrow_of_none}
use Rattle.ps_triple.specs.declared.entry.Entry.{Entry}

-- ---- the order of two steps

lt_of : (m n : ℕ) → nat_cmp m n ≡ Less → m < n
lt_of m n e = ranked m n Less (sym e)

edge_first : (fresh n k m l : ℕ) → n < m → step_cmp fresh n k m l ≡ Less
edge_first fresh n k m l h = ap (λ (o : Ordering). ordering_then o (ordering_then (nat_cmp (turn fresh k) (turn fresh l)) (nat_cmp k l))) (less_is n m h)

one_edge : (fresh n k l : ℕ) → step_cmp fresh n k n l ≡ ordering_then (nat_cmp (turn fresh k) (turn fresh l)) (nat_cmp k l)
one_edge fresh n k l = ap (λ (o : Ordering). ordering_then o (ordering_then (nat_cmp (turn fresh k) (turn fresh l)) (nat_cmp k l))) (tied_itself nat_cmp_total n)

turn_of_other : (fresh k : ℕ) → k ≢ fresh → turn fresh k ≡ 0
turn_of_other fresh k other = at (k == fresh) refl
  where
    at : (b : Bool) → (k == fresh) ≡ b → (let n : ℕ = if b then 1 else 0 in n ≡ 0)
    at true e = absurd (other (eqb-true k fresh e))
    at false e = refl

turn_of_fresh : (fresh : ℕ) → turn fresh fresh ≡ 1
turn_of_fresh fresh = ap (λ (b : Bool). let n : ℕ = if b then 1 else 0 in n) (eq-eqb fresh fresh refl)

-- two threads that occur, along one edge
both_occur : (fresh n k l : ℕ) → k ≢ fresh → l ≢ fresh → step_cmp fresh n k n l ≡ nat_cmp k l
both_occur fresh n k l hk hl =
    one_edge fresh n k l ∙ ap₂ (λ (a b : ℕ). ordering_then (nat_cmp a b) (nat_cmp k l)) (turn_of_other fresh k hk) (turn_of_other fresh l hl)

-- one that occurs, and the fresh one
fresh_last : (fresh n k : ℕ) → k ≢ fresh → step_cmp fresh n k n fresh ≡ Less
fresh_last fresh n k hk = one_edge fresh n k fresh ∙ ap₂ (λ (a b : ℕ). ordering_then (nat_cmp a b) (nat_cmp k fresh)) (turn_of_other fresh k hk) (turn_of_fresh fresh)

fresh_later : (fresh n k : ℕ) → k ≢ fresh → step_cmp fresh n fresh n k ≡ Greater
fresh_later fresh n k hk = one_edge fresh n fresh k ∙ ap₂ (λ (a b : ℕ). ordering_then (nat_cmp a b) (nat_cmp fresh k)) (turn_of_fresh fresh) (turn_of_other fresh k hk)

itself : (fresh n k : ℕ) → step_cmp fresh n k n k ≡ Equal
itself fresh n k = one_edge fresh n k k ∙ ap₂ ordering_then (tied_itself nat_cmp_total (turn fresh k)) (tied_itself nat_cmp_total k)

before_edge : (fresh n k m l : ℕ) → step_cmp fresh n k m l ≡ Less → (n < m) ⊎ (n ≡ m)
before_edge fresh n k m l e = at (nat_cmp n m) refl e
  where
    at : (o : Ordering) → nat_cmp n m ≡ o → ordering_then o (ordering_then (nat_cmp (turn fresh k) (turn fresh l)) (nat_cmp k l)) ≡ Less → (n < m) ⊎ (n ≡ m)
    at Less is h = inl (lt_of n m is)
    at Equal is h = inr (ranked n m Equal (sym is))
    at Greater is h = absurd (let f : ⊥ = cc in f)

not_less_greater : (o : Ordering) → o ≡ Less → o ≡ Greater → ⊥
not_less_greater o e f = (let g : Less ≡ Greater = sym e ∙ f in let h : ⊥ = cc in h)

not_less_equal : (o : Ordering) → o ≡ Less → o ≡ Equal → ⊥
not_less_equal o e f = (let g : Less ≡ Equal = sym e ∙ f in let h : ⊥ = cc in h)

not_fresh : (from : Configuration) (fresh k : ℕ) → IsFresh from fresh → Contains (threads_at from) k → k ≢ fresh
not_fresh from fresh k is h e = is.absent (subst (λ (t : ℕ). Contains (threads_at from) t) e h)

-- ---- one step as a list of steps

each_by : {X : Type 0} (c d : X → X → Ordering) (x : X) (xs : List X) → ((y : X) → Contains xs y → c x y ≡ Less → d x y ≡ Less) → AllByRecursion (λ y. c x y ≡ Less) xs → AllByRecursion (λ y. d x y ≡ Less) xs
each_by c d x [] h a = tt
each_by c d x (y ∷ ys) h a = (h y (here y ys) a.0, each_by c d x ys (λ z k. h z (there y ys z k)) a.1)

sorted_by : {X : Type 0} (c d : X → X → Ordering) (xs : List X) → ((x y : X) → Contains xs x → Contains xs y → c x y ≡ Less → d x y ≡ Less) → IsStrictlySortedBy c xs → IsStrictlySortedBy d xs
unfolding IsStrictlySortedBy
sorted_by c d [] h a = tt
sorted_by c d (x ∷ xs) h a = (each_by c d x xs (λ y k. h x y (here x xs) (there x xs y k)) a.0, sorted_by c d xs (λ y z hy hz. h y z (there x xs y hy) (there x xs z hz)) a.1)

of_step : (graph : Graph) (entries : List Entry) (from : Configuration) (fresh number thread : ℕ) (list : List Successor) → AreOfStep graph entries from number thread list → AreSmallestOf graph entries from fresh (IsStep number thread) list
of_step graph entries from fresh number thread list a = record {
  ordered = sorted_by (λ (s t : Successor). slice_cmp atom_cmp s.config.atoms t.config.atoms) (successor_cmp fresh) list (λ s t hs ht less.
      let one = (a.are s hs).0 in
      let two = (a.are t ht).0 in
      ap₂ ordering_then
      (ap₂ (λ (n k : ℕ). step_cmp fresh n k t.edge t.thread) one.0 one.1 ∙ (ap₂ (λ (n k : ℕ). step_cmp fresh number thread n k) two.0 two.1 ∙ itself fresh number thread)) less) a.ordered;
  are = λ s h. (let w = a.are s h in (w.0, subst (λ (n : ℕ). IsSmallest graph entries from n s.thread s.config) (sym w.0.0) (subst (λ (k : ℕ). IsSmallest graph entries from number k s.config) (sym w.0.1) w.1)));
  every = λ n k to step smallest.
      let w = a.every to (subst (λ (m : ℕ). IsSmallest graph entries from m thread to) step.0 (subst (λ (l : ℕ). IsSmallest graph entries from n l to) step.1 smallest)) in
      (w.0, w.1, (a.are w.0 w.1).0.0 ∙ sym step.0, (a.are w.0 w.1).0.1 ∙ sym step.1, w.2);
}

-- ---- lists that grow

module _ (graph : Graph) (entries : List Entry) (from : Configuration) (fresh : ℕ) where
  no_more_up : IsStrictlySortedBy (successor_cmp fresh) []
  unfolding IsStrictlySortedBy
  no_more_up = tt

  pub adds_nothing : (Step : ℕ → ℕ → Type 0) (old : List Successor) → ((n k : ℕ) → ¬ Step n k) → AddsSteps graph entries from fresh Step old old
  adds_nothing Step old none = record {
    more = [];
    added = sym (append-nil old);
    are = record { ordered = no_more_up; are = λ s h. absurd (nothing s h); every = λ n k to step smallest. absurd (none n k step) };
    narrow = λ n k step. absurd (none n k step);
  }

  -- those of some steps and then of others, as those of all these
  pub adds_both : (One Other All : ℕ → ℕ → Type 0) (old mid new : List Successor) → ((n k m l : ℕ) → One n k → Other m l → step_cmp fresh n k m l ≡ Less) →
      ((n k : ℕ) → Both One Other n k → All n k) → ((n k : ℕ) → All n k → Both One Other n k) →
      AddsSteps graph entries from fresh One old mid → AddsSteps graph entries from fresh Other mid new → AddsSteps graph entries from fresh All old new
  adds_both One Other All old mid new below to back a b = record {
    more = a.more ++ b.more;
    added = b.added ∙ (ap (λ (xs : List Successor). xs ++ b.more) a.added ∙ append_assoc old a.more b.more);
    are = same_steps graph entries from fresh (Both One Other) All (a.more ++ b.more) to (λ n k c step smallest. back n k step) (parts_more graph entries from fresh One Other a.more b.more below a.are b.are);
    narrow = λ n k step. elim (back n k step) [ inl one ↦ a.narrow n k one | inr other ↦ b.narrow n k other ];
  }

  as_steps : (number thread : ℕ) (old new : List Successor) → AddsStep graph entries from number thread old new → AddsSteps graph entries from fresh (IsStep number thread) old new
  as_steps number thread old new a = record {
    more = a.0;
    added = a.1;
    are = of_step graph entries from fresh number thread a.0 a.2;
    narrow = λ n k step. subst (λ (m : ℕ). IsNarrow graph entries from m k) (sym step.0) (subst (λ (l : ℕ). IsNarrow graph entries from number l) (sym step.1) a.2.narrow);
  }

  -- ---- along one edge

  pub no_thread : (number : ℕ) (old : List Successor) → AddsSteps graph entries from fresh (IsStepBelow from number 0) old old
  no_thread number old = adds_nothing (IsStepBelow from number 0) old (λ n k step. (let h : k < 0 = step.2 in let f : ⊥ = omega (arith, h) in f))

  pub thread_more : (number at thread next : ℕ) (old mid new : List Successor) → IsFresh from fresh → IsNextThread (threads_at from) at (Some thread) → next ≡ thread + 1 →
      AddsStep graph entries from number thread mid new → AddsSteps graph entries from fresh (IsStepBelow from number at) old mid → AddsSteps graph entries from fresh (IsStepBelow from number next) old new
  thread_more number at thread next old mid new is_fresh found is_next step done =
      adds_both (IsStepBelow from number at) (IsStep number thread) (IsStepBelow from number next) old mid new
      (λ n k m l one other.
      let low : k < at = one.2 in
      let up : at ≤ thread = found.1 in
      subst (λ (a : ℕ). step_cmp fresh a k m l ≡ Less) (sym one.0) (subst (λ (b : ℕ). step_cmp fresh number k b l ≡ Less) (sym other.0) (subst (λ (t : ℕ). step_cmp fresh number k number t ≡ Less) (sym other.1)
      (both_occur fresh number k thread (not_fresh from fresh k is_fresh one.1) (not_fresh from fresh thread is_fresh found.0) ∙ less_is k thread (omega (arith, low, up))))))
      (λ n k step. elim step [
        | inl one ↦ (one.0, one.1, (let low : k < at = one.2 in let up : at ≤ thread = found.1 in omega (arith, low, up, is_next)))
        | inr other ↦ (other.0, subst (λ (t : ℕ). Contains (threads_at from) t) (sym other.1) found.0, (let e : k ≡ thread = other.1 in omega (arith, e, is_next)))
      ])
      (λ n k all. elim (cases_lt k at) [
        | inl low ↦ inl (all.0, all.1, low)
        | inr high ↦ inr (all.0, (let least : thread ≤ k = found.2 k all.1 high in let below : k < next = all.2 in omega (arith, least, below, is_next)))
      ])
      done (as_steps number thread mid new step)

  pub all_threads : (number at : ℕ) (old mid new : List Successor) → IsFresh from fresh → IsNextThread (threads_at from) at None →
      AddsStep graph entries from number fresh mid new → AddsSteps graph entries from fresh (IsStepBelow from number at) old mid → AddsSteps graph entries from fresh (IsStepAlong from fresh number) old new
  all_threads number at old mid new is_fresh none step done =
      adds_both (IsStepBelow from number at) (IsStep number fresh) (IsStepAlong from fresh number) old mid new
      (λ n k m l one other.
      subst (λ (a : ℕ). step_cmp fresh a k m l ≡ Less) (sym one.0) (subst (λ (b : ℕ). step_cmp fresh number k b l ≡ Less) (sym other.0) (subst (λ (t : ℕ). step_cmp fresh number k number t ≡ Less) (sym other.1)
      (fresh_last fresh number k (not_fresh from fresh k is_fresh one.1)))))
      (λ n k step. elim step [ inl one ↦ (one.0, inl one.1) | inr other ↦ (other.0, inr other.1) ])
      (λ n k all. elim all.1 [ inl occurs ↦ inl (all.0, occurs, none k occurs) | inr is ↦ inr (all.0, is) ])
      done (as_steps number fresh mid new step)

  -- the first that is too wide, after those before it
  pub wide_thread : (number at thread : ℕ) (old mid : List Successor) → IsFresh from fresh → IsNextThread (threads_at from) at (Some thread) → AddsSteps graph entries from fresh (IsStepBelow from number at) old mid →
      (w : WideStep) → IsWideAt graph entries from number thread w → IsFirstWideAt graph entries from fresh number w
  wide_thread number at thread old mid is_fresh found done w wide = record {
    edge = wide.0;
    tried = inl (subst (λ (t : ℕ). Contains (threads_at from) t) (sym wide.1) found.0);
    wide = subst (λ (t : ℕ). IsWideBy graph entries from number t w.what w.count) (sym wide.1) wide.2;
    before = λ k tried less.
        let less_at : step_cmp fresh number k number thread ≡ Less = subst (λ (t : ℕ). step_cmp fresh number k number t ≡ Less) wide.1 less in
        let other : thread ≢ fresh = not_fresh from fresh thread is_fresh found.0 in
        elim tried [
          | inl occurs ↦
              let low : k < thread = lt_of k thread (sym (both_occur fresh number k thread (not_fresh from fresh k is_fresh occurs) other) ∙ less_at) in
              elim (cases_lt k at) [
                | inl done_before ↦ done.narrow number k (refl, occurs, done_before)
                | inr high ↦ absurd (let least : thread ≤ k = found.2 k occurs high in let f : ⊥ = omega (arith, least, low) in f)
              ]
          | inr is ↦ absurd (not_less_greater (step_cmp fresh number fresh number thread) (subst (λ (t : ℕ). step_cmp fresh number t number thread ≡ Less) is less_at) (fresh_later fresh number thread other))
        ];
  }

  pub wide_fresh : (number at : ℕ) (old mid : List Successor) → IsFresh from fresh → IsNextThread (threads_at from) at None → AddsSteps graph entries from fresh (IsStepBelow from number at) old mid →
      (w : WideStep) → IsWideAt graph entries from number fresh w → IsFirstWideAt graph entries from fresh number w
  wide_fresh number at old mid is_fresh none done w wide = record {
    edge = wide.0;
    tried = inr wide.1;
    wide = subst (λ (t : ℕ). IsWideBy graph entries from number t w.what w.count) (sym wide.1) wide.2;
    before = λ k tried less. elim tried [
      | inl occurs ↦ done.narrow number k (refl, occurs, none k occurs)
      | inr is ↦ absurd (not_less_equal (step_cmp fresh number fresh number fresh) (subst (λ (t : ℕ). step_cmp fresh number t number fresh ≡ Less) is (subst (λ (t : ℕ). step_cmp fresh number k number t ≡ Less) wide.1 less)) (itself fresh number fresh))
    ];
  }

  -- ---- edge by edge

  pub no_edge : (old : List Successor) → AddsSteps graph entries from fresh (IsStepBefore from fresh 0) old old
  no_edge old = adds_nothing (IsStepBefore from fresh 0) old (λ n k step. (let h : n < 0 = step.0 in let f : ⊥ = omega (arith, h) in f))

  pub edge_more : (number : ℕ) (old mid new : List Successor) → AddsSteps graph entries from fresh (IsStepAlong from fresh number) mid new → AddsSteps graph entries from fresh (IsStepBefore from fresh number) old mid →
      AddsSteps graph entries from fresh (IsStepBefore from fresh (number + 1)) old new
  edge_more number old mid new along done =
      adds_both (IsStepBefore from fresh number) (IsStepAlong from fresh number) (IsStepBefore from fresh (number + 1)) old mid new
      (λ n k m l one other. edge_first fresh n k m l (let low : n < number = one.0 in let e : m ≡ number = other.0 in omega (arith, low, e)))
      (λ n k step. elim step [
        | inl one ↦ ((let low : n < number = one.0 in omega (arith, low)), one.1)
        | inr other ↦ ((let e : n ≡ number = other.0 in omega (arith, e)), other.1)
      ])
      (λ n k all. elim (cases_lt n number) [
        | inl low ↦ inl (low, all.1)
        | inr high ↦ inr ((let up : n < number + 1 = all.0 in omega (arith, high, up)), all.1)
      ])
      done along

  pub wide_edge : (number : ℕ) (old mid : List Successor) → AddsSteps graph entries from fresh (IsStepBefore from fresh number) old mid → (w : WideStep) → IsFirstWideAt graph entries from fresh number w → IsFirstWide graph entries from fresh w
  wide_edge number old mid done w first = record {
    tried = first.tried;
    wide = subst (λ (n : ℕ). IsWideBy graph entries from n w.thread w.what w.count) (sym first.edge) first.wide;
    before = λ n k tried less.
        let less_at : step_cmp fresh n k number w.thread ≡ Less = subst (λ (m : ℕ). step_cmp fresh n k m w.thread ≡ Less) first.edge less in
        elim (before_edge fresh n k number w.thread less_at) [
          | inl low ↦ done.narrow n k (low, tried)
          | inr same ↦ subst (λ (m : ℕ). IsNarrow graph entries from m k) (sym same) (first.before k tried (subst (λ (m : ℕ). step_cmp fresh m k number w.thread ≡ Less) same less_at))
        ];
  }

  -- ---- all edges

  within : (number thread : ℕ) (to : Configuration) → IsSmallest graph entries from number thread to → number < length graph.edges
  within number thread to s = slice_get_within graph.edges number s.stands.edge s.stands.is_edge

  pub are_all : (number : ℕ) (list : List Successor) → length graph.edges ≤ number → AddsSteps graph entries from fresh (IsStepBefore from fresh number) [] list → AreSuccessors graph entries from fresh list
  are_all number list past a = record {
    ordered = subst (λ (xs : List Successor). IsStrictlySortedBy (successor_cmp fresh) xs) (sym a.added) a.are.ordered;
    are = λ s h. (let w = a.are.are s (subst (λ (xs : List Successor). Contains xs s) a.added h) in (w.0.1, w.1));
    every = λ n k to tried smallest.
        let below : n < length graph.edges = within n k to smallest in
        let w = a.are.every n k to (omega (arith, below, past), tried) smallest in
        (w.0, subst (λ (xs : List Successor). Contains xs w.0) (sym a.added) w.1, w.2, w.3, w.4);
  }

  pub all_narrow : (number : ℕ) (old list : List Successor) → length graph.edges ≤ number → AddsSteps graph entries from fresh (IsStepBefore from fresh number) old list → AreNarrow graph entries from fresh
  all_narrow number old list past a n k tried = elim (cases_lt n number) [
    | inl low ↦ a.narrow n k (low, tried)
    | inr high ↦ narrow_of_none graph entries from n k (λ to w. (let below : n < length graph.edges = within n k to w.smallest in let f : ⊥ = omega (arith, below, past, high) in f))
  ]

-- there is one fresh thread
pub fresh_is_one : (c : Configuration) (m n : ℕ) → IsFresh c m → IsFresh c n → m ≡ n
fresh_is_one c m n hm hn = elim (cases_lt m n) [
  | inl low ↦ absurd (hm.absent (hn.least m low))
  | inr high ↦ elim (cases_lt n m) [
    | inl low ↦ absurd (hn.absent (hm.least n low))
    | inr above ↦ omega (arith, high, above)
  ]
]

-- one more entry copied
pub entries_more : (xs : List Entry) (n : ℕ) (e copy : Entry) (list new : List Entry) → slice_get xs n ≡ Some e → copy ≡ e → new ≡ list ++ copy ∷ [] → list ≡ take n xs → new ≡ take (n + 1) xs
entries_more xs n e copy list new is same added all =
    let inside : n < length xs = slice_get_within xs n e is in
    added ∙ (ap₂ (λ (front : List Entry) (x : Entry). front ++ x ∷ []) all (same ∙ sym (get_or_from_slice_get xs n e e is)) ∙ sym (take_more xs n e inside))
