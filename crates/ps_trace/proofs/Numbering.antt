-- New numbers of threads, by a binary search.
use Rattle.std.proofs.Common.{◌≡◌, refl, sym, ap, ◌∙◌, ℕ, zero, suc, ◌<◌, ◌≤◌, Bool, true, false, cond, List, [], ◌∷◌, length, filter, ltb-true, arith}
use Rattle.std.specs.Prelude.{nat_lt}
use Rattle.std.specs.List.Sorted.{IsPartitionedBy, IsPartitionPoint, IsStrictlySortedBy}
use Rattle.std.specs.Ordering.{nat_cmp}
use Rattle.std.proofs.lemmas.List.Elements.{filter_passes}
use Rattle.std.proofs.lemmas.List.Kept.{IsStrictlySortedBy-filter}
use Rattle.std.proofs.lemmas.List.Sorted.{IsPartitionedBy-ltb}
use Rattle.std.proofs.lemmas.Map.Keys.{non_decreasing_from_sorted}
use Rattle.std.proofs.lemmas.Map.Views.{length-le_from_below}
use Rattle.ps_trace.specs.WitnessOf.{new_number}

-- as many elements pass as stand before the place
point_is : (p : ℕ → Bool) (xs : List ℕ) (i : ℕ) → i ≤ length xs → IsPartitionPoint (λ y. p y ≡ true) (λ y. p y ≡ false) xs i → i ≡ length (filter p xs)
point_is p [] zero w h = refl
point_is p [] (suc i) w h = absurd (omega arith)
point_is p (x ∷ xs) zero w h =
    point_is p xs zero (omega arith) (λ k d a b. absurd (omega arith), λ k d a b. h.1 (suc k) d (omega arith) (omega arith))
    ∙ sym (ap (λ (t : Bool). length (cond t (x ∷ filter p xs) (filter p xs))) (h.1 zero x (omega arith) (omega arith)))
point_is p (x ∷ xs) (suc i) w h =
    ap suc (point_is p xs i (omega arith) (λ k d a b. h.0 (suc k) d (omega arith) (omega arith), λ k d a b. h.1 (suc k) d (omega arith) (omega arith)))
    ∙ sym (ap (λ (t : Bool). length (cond t (x ∷ filter p xs) (filter p xs))) (h.0 zero x (omega arith) (omega arith)))

pub number_is : (threads : List ℕ) (k i : ℕ) → i ≤ length threads → IsPartitionPoint (λ y. nat_lt y k ≡ true) (λ y. nat_lt y k ≡ false) threads i → i ≡ new_number threads k
number_is threads k i w h = point_is (λ (y : ℕ). nat_lt y k) threads i w h

pub parted : (threads : List ℕ) (k : ℕ) → IsStrictlySortedBy nat_cmp threads → IsPartitionedBy (λ y. nat_lt y k) threads
parted threads k s = IsPartitionedBy-ltb (λ (y : ℕ). y) threads k (non_decreasing_from_sorted threads s)

lower : (j k : ℕ) → nat_lt j k ≡ true → j < k
lower j k e = ltb-true j k e

-- a new number is no larger than the old one
pub number_small : (threads : List ℕ) (k : ℕ) → IsStrictlySortedBy nat_cmp threads → new_number threads k ≤ k
number_small threads k s =
    length-le_from_below k (filter (λ (y : ℕ). nat_lt y k) threads) (IsStrictlySortedBy-filter nat_cmp (λ (y : ℕ). nat_lt y k) threads s)
    (λ i d w. lower _ k (filter_passes (λ (y : ℕ). nat_lt y k) threads i d w))
