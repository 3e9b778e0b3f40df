-- The order of threads is total, and sorted shares give slots in order.
use Rattle.std.proofs.Common.{◌≡◌, ◌≢◌, ◌⊎◌, ◌==◌, ◌+◌, ◌<◌, ◌≤◌, ℕ, ℤ, Bool, true, false, List, [], ◌∷◌, AllPairs, All, Contains, map, refl, sym, ap, ap₂, ◌∙◌, subst, inl, inr, arith}
use Rattle.std.specs.Cmp.{IsTotalOrder}
use Rattle.std.specs.List.{AllByRecursion}
use Rattle.std.specs.List.Sorted.{IsSortedBy}
use Rattle.std.specs.Ordering.{nat_cmp, int_cmp, ordering_then, then_cmp, on, is_lt}
use Rattle.std.specs.declared.cmp.Ordering.{Ordering}
use Rattle.std.specs.declared.cmp.Ordering.TheVariants.{Less, Equal, Greater}
use Rattle.std.proofs.lemmas.Bool.{true≢false}
use Rattle.std.proofs.lemmas.Bool.Decides.{nat_tests}
use Rattle.std.proofs.lemmas.Cmp.{then_total, on_total, lists_total, nat_cmp_total, int_cmp_total}
use Rattle.std.proofs.lemmas.List.Elements.{All-from_recursion, recursion_from_All}
use Rattle.std.proofs.lemmas.List.Kept.{AllPairs-cons}
use Rattle.std.proofs.lemmas.List.Sorted.{ranks_by, sorted_far}
use Rattle.ps_term.specs.declared.var.Var.{Var}
use Rattle.ps_atom.specs.inner.Shares.{share_cmp, IsShare}
use Rattle.ps_atom.specs.Threads.{local_pairs, pair_cmp, pairs_cmp, thread_cmp}
use Rattle.ps_atom.specs.declared.share.Share.{Share}
use Rattle.ps_atom.proofs.Counts.{IsOnce, once-tail, once-first}

pub pair_total : IsTotalOrder pair_cmp
pair_total = then_total (on_total (λ (p : ℕ × ℤ). p.0) nat_cmp_total) (on_total (λ (p : ℕ × ℤ). p.1) int_cmp_total)

pub pairs_total : IsTotalOrder pairs_cmp
pairs_total = lists_total pair_total

pub thread_total : (pairs : List (Var × ℤ)) → IsTotalOrder (thread_cmp pairs)
thread_total pairs = then_total (on_total (λ t. local_pairs t pairs) pairs_total) nat_cmp_total

share_total : IsTotalOrder share_cmp
share_total = then_total (on_total (λ (s : Share). s.pairs.items) pairs_total) (on_total (λ (s : Share). s.thread) nat_cmp_total)

pub nat_cmp-Equal : (m n : ℕ) → nat_cmp m n ≡ Equal → m ≡ n
nat_cmp-Equal m n e = grind (arith, nat_tests)

pub then-Equal : (a b : Ordering) → ordering_then a b ≡ Equal → (a ≡ Equal) × (b ≡ Equal)
then-Equal Less b e = absurd (let f : ⊥ = cc in f)
then-Equal Equal b e = (refl, e)
then-Equal Greater b e = absurd (let f : ⊥ = cc in f)

-- threads that tie are one
pub thread_cmp-Equal : (pairs : List (Var × ℤ)) (s t : ℕ) → thread_cmp pairs s t ≡ Equal → (pairs_cmp (local_pairs s pairs) (local_pairs t pairs) ≡ Equal) × (s ≡ t)
thread_cmp-Equal pairs s t e =
    let both = then-Equal (pairs_cmp (local_pairs s pairs) (local_pairs t pairs)) (nat_cmp s t) e in
    (both.0, nat_cmp-Equal s t both.1)

-- what isn't above, nor the same, is below
below_by : {K : Type 0} (R : K → K → Ordering) → IsTotalOrder R → (x y : K) → is_lt (R y x) ≡ false → (o : Ordering) → R x y ≡ o → (o ≡ Less) ⊎ (o ≡ Equal)
below_by R total x y h Less e = inl refl
below_by R total x y h Equal e = inr refl
below_by R total x y h Greater e = absurd (let back : R y x ≡ Less = total.antisymm y x ∙ (ap (λ (o : Ordering). Rattle.std.specs.Ordering.ordering_reverse o) e) in true≢false (sym (ap is_lt back) ∙ h))

share_cmp-thread : (pairs : List (Var × ℤ)) (a b : Share) → IsShare pairs a → IsShare pairs b → share_cmp a b ≡ thread_cmp pairs a.thread b.thread
share_cmp-thread pairs a b s t = ap₂ (λ (x y : List (ℕ × ℤ)). ordering_then (pairs_cmp x y) (nat_cmp a.thread b.thread)) s t

less_by : (pairs : List (Var × ℤ)) (a b : Share) → IsShare pairs a → IsShare pairs b → is_lt (share_cmp b a) ≡ false → a.thread ≢ b.thread → thread_cmp pairs a.thread b.thread ≡ Less
less_by pairs a b s t h n = elim (below_by share_cmp share_total a b h (share_cmp a b) refl) [
  | inl less ↦ sym (share_cmp-thread pairs a b s t) ∙ less
  | inr tie ↦ absurd (n (thread_cmp-Equal pairs a.thread b.thread (sym (share_cmp-thread pairs a b s t) ∙ tie)).1)
]

less_all : (pairs : List (Var × ℤ)) (a : Share) (rest : List Share) → IsShare pairs a → AllByRecursion (IsShare pairs) rest → AllByRecursion (λ b. is_lt (share_cmp b a) ≡ false) rest → AllByRecursion (λ y. a.thread ≢ y) (map (λ (s : Share). s.thread) rest) → AllByRecursion (λ y. thread_cmp pairs a.thread y ≡ Less) (map (λ (s : Share). s.thread) rest)
less_all pairs a [] s each h n = tt
less_all pairs a (b ∷ rest) s each h n = (less_by pairs a b s each.0 h.0 n.0, less_all pairs a rest s each.1 h.1 n.1)

sorted-tail : (a : Share) (rest : List Share) → IsSortedBy (λ x y. is_lt (share_cmp x y)) (a ∷ rest) → IsSortedBy (λ x y. is_lt (share_cmp x y)) rest
sorted-tail a rest s k d low h =
    let e : Rattle.std.proofs.Common.suc k + 1 ≡ Rattle.std.proofs.Common.suc (k + 1) = omega arith in
    let far = s (Rattle.std.proofs.Common.suc k) d (omega arith) (omega (arith, h)) in
    rw e at far

sorted-first : (a : Share) (rest : List Share) → IsSortedBy (λ x y. is_lt (share_cmp x y)) (a ∷ rest) → AllByRecursion (λ b. is_lt (share_cmp b a) ≡ false) rest
sorted-first a rest s =
    recursion_from_All (λ b. is_lt (share_cmp b a) ≡ false) rest (λ k d h. sorted_far (λ x y. is_lt (share_cmp x y)) (ranks_by share_total (λ (x : Share). x)) (a ∷ rest) s 0 (Rattle.std.proofs.Common.suc k) d (omega arith) (omega (arith, h)))

pub shares_ordered : (pairs : List (Var × ℤ)) (shares : List Share) → AllByRecursion (IsShare pairs) shares → IsSortedBy (λ x y. is_lt (share_cmp x y)) shares → IsOnce (map (λ (s : Share). s.thread) shares) → AllPairs (λ s t. thread_cmp pairs s t ≡ Less) (map (λ (s : Share). s.thread) shares)
shares_ordered pairs [] each s o = λ i j d lt h. absurd (omega (arith, h))
shares_ordered pairs (a ∷ rest) each s o =
    AllPairs-cons (λ s t. thread_cmp pairs s t ≡ Less) a.thread (map (λ (s : Share). s.thread) rest) (All-from_recursion (λ t. thread_cmp pairs a.thread t ≡ Less) (map (λ (s : Share). s.thread) rest) (less_all pairs a rest each.0 each.1 (sorted-first a rest s) (once-first a.thread (map (λ (s : Share). s.thread) rest) o))) (shares_ordered pairs rest each.1 (sorted-tail a rest s) (once-tail a.thread (map (λ (s : Share). s.thread) rest) o))

-- the shares have the pairs of their threads
pub shares_are : (pairs : List (Var × ℤ)) (shares : List Share) → AllByRecursion (IsShare pairs) shares → map (λ (s : Share). s.pairs.items) shares ≡ map (λ t. local_pairs t pairs) (map (λ (s : Share). s.thread) shares)
shares_are pairs [] each = refl
shares_are pairs (a ∷ rest) each = ap₂ (λ (x : List (ℕ × ℤ)) (xs : List (List (ℕ × ℤ))). x ∷ xs) each.0 (shares_are pairs rest each.1)
