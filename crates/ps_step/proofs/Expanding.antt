-- Steps one after another, and what their successors cover.
use Rattle.std.proofs.Common.{◌≡◌, ℕ, List, [], ◌∷◌, ◌++◌, ap, inl, inr, ◌⊎◌, Contains}
use Rattle.std.specs.List.{AllByRecursion}
use Rattle.std.specs.List.Sorted.{IsStrictlySortedBy}
use Rattle.std.specs.Ordering.{ordering_then}
use Rattle.std.specs.declared.cmp.Ordering.{Ordering}
use Rattle.std.specs.declared.cmp.Ordering.TheVariants.{Less}
use Rattle.std.proofs.lemmas.List.Elements.{Contains-append_left, Contains-append_right, Contains-append_cases}
use Rattle.ps_list.proofs.Members.{here, there}
use Rattle.ps_config.specs.Configurations.{Configuration, threads_at}
use Rattle.ps_config.proofs.Covering.{covers_more, covers_twice}
use Rattle.ps_graph.specs.declared.graph.Graph.{Graph}
use Rattle.ps_triple.specs.declared.entry.Entry.{Entry}
use Rattle.ps_step.specs.Successors.{step_cmp, successor_cmp, AreSuccessors, CoverAll}
use Rattle.ps_step.specs.inner.Parts.{AreSmallestOf}
use Rattle.ps_step.specs.Steps.{IsSmallest}
use Rattle.ps_demand.specs.Demands.{AreTied}
use Rattle.ps_step.specs.declared.expansion.Successor.{Successor}
use Rattle.ps_step.proofs.Smallest.{covered_by_smallest}

-- ---- lists in order, one after another

each_append : {K : Type 0} (P : K → Type 0) (xs ys : List K) → AllByRecursion P xs → ((y : K) → Contains ys y → P y) → AllByRecursion P (xs ++ ys)
each_append P [] [] h k = tt
each_append P [] (y ∷ ys) h k = (k y (here y ys), each_append P [] ys tt (λ z c. k z (there y ys z c)))
each_append P (x ∷ xs) ys h k = (h.0, each_append P xs ys h.1 k)

pub sorted_append : {K : Type 0} (c : K → K → Ordering) (xs ys : List K) → IsStrictlySortedBy c xs → IsStrictlySortedBy c ys → ((x y : K) → Contains xs x → Contains ys y → c x y ≡ Less) → IsStrictlySortedBy c (xs ++ ys)
unfolding IsStrictlySortedBy
sorted_append c [] ys hx hy h = hy
sorted_append {K} c (x ∷ xs) ys hx hy h =
    (each_append (λ (y : K). c x y ≡ Less) xs ys hx.0 (λ y k. h x y (here x xs) k), sorted_append c xs ys hx.1 hy (λ z y hz k. h z y (there x xs z hz) k))

below_then : (o p : Ordering) → o ≡ Less → ordering_then o p ≡ Less
below_then o p h = ap (λ (q : Ordering). ordering_then q p) h

-- some steps and others after them
abbrev pub Both : (ℕ → ℕ → Type 0) → (ℕ → ℕ → Type 0) → ℕ → ℕ → Type 0
Both One Other number thread = One number thread ⊎ Other number thread

pub parts_more : (graph : Graph) (entries : List Entry) (from : Configuration) (fresh : ℕ) (One Other : ℕ → ℕ → Type 0) (list more : List Successor)
    → ((n k m l : ℕ) → One n k → Other m l → step_cmp fresh n k m l ≡ Less)
    → AreSmallestOf graph entries from fresh One list → AreSmallestOf graph entries from fresh Other more
    → AreSmallestOf graph entries from fresh (Both One Other) (list ++ more)
parts_more graph entries from fresh One Other list more below a b = record {
  ordered = sorted_append (successor_cmp fresh) list more a.ordered b.ordered (λ x y hx hy.
      below_then (step_cmp fresh x.edge x.thread y.edge y.thread) _ (below x.edge x.thread y.edge y.thread (a.are x hx).0 (b.are y hy).0));
  are = λ s h. elim (Contains-append_cases list more s h) [
    | inl old ↦ (inl (a.are s old).0, (a.are s old).1)
    | inr new ↦ (inr (b.are s new).0, (b.are s new).1)
  ];
  every = λ number thread to step smallest. elim step [
    | inl done ↦ (let w = a.every number thread to done smallest in (w.0, Contains-append_left list more w.0 w.1, w.2, w.3, w.4))
    | inr is ↦ (let w = b.every number thread to is smallest in (w.0, Contains-append_right list more w.0 w.1, w.2, w.3, w.4))
  ];
}

-- the same, where the steps are told in another way
pub same_steps : (graph : Graph) (entries : List Entry) (from : Configuration) (fresh : ℕ) (One Other : ℕ → ℕ → Type 0) (list : List Successor)
    → ((number thread : ℕ) → One number thread → Other number thread)
    → ((number thread : ℕ) (to : Configuration) → Other number thread → IsSmallest graph entries from number thread to → One number thread)
    → AreSmallestOf graph entries from fresh One list → AreSmallestOf graph entries from fresh Other list
same_steps graph entries from fresh One Other list to back a = record {
  ordered = a.ordered;
  are = λ s h. (to s.edge s.thread (a.are s h).0, (a.are s h).1);
  every = λ number thread c step smallest. a.every number thread c (back number thread c step smallest) smallest;
}

-- every configuration that stands is covered by a successor
pub successors_cover : (graph : Graph) (entries : List Entry) (from : Configuration) (fresh : ℕ) (list : List Successor) → AreTied entries
    → (¬ Contains (threads_at from) fresh) → AreSuccessors graph entries from fresh list → CoverAll graph entries from list
successors_cover graph entries from fresh list tied free are number thread to stands =
    let w = covered_by_smallest graph entries from to number thread fresh tied free stands in
    let v = are.every number w.0 w.1 w.2 w.3 in
    (v.0, v.1, covers_twice v.0.config w.1 to (covers_more v.0.config w.1 (λ t l h. (v.4.at t l).0 h) (λ q h. (v.4.atoms q).0 h)) w.4)
