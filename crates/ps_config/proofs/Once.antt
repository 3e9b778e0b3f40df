-- Lists in which nothing stands twice.
use Rattle.std.proofs.Common.{◌≡◌, ◌≢◌, ◌≤◌, ◌+◌, Bool, true, false, cond, List, [], ◌∷◌, ◌++◌, length, map, sym, ap, subst, inl, inr, Contains, arith}
use Rattle.std.specs.List.{filter}
use Rattle.std.specs.List.Sorted.{IsStrictlySortedBy}
use Rattle.std.specs.declared.cmp.Ordering.{Ordering}
use Rattle.std.specs.declared.cmp.Ordering.TheVariants.{Less}
use Rattle.std.proofs.lemmas.List.{length-append}
use Rattle.std.proofs.lemmas.List.Elements.{Contains-append_left, Contains-append_right, Contains-append_cases, All-from_recursion, All-contains}
use Rattle.std.proofs.lemmas.Map.Keys.{sorted_head, sorted_tail}
use Rattle.ps_list.proofs.Members.{nothing, cons_cases, here, there}
use Rattle.ps_list.proofs.Mapped.{mapped, from_mapped, from_kept}

-- nothing stands twice
abbrev pub IsOnce : {X : Type 0} → List X → Type 0
IsOnce [] = Unit {0}
IsOnce (x ∷ xs) = (¬ Contains xs x) × IsOnce xs

split_at : {X : Type 0} (ys : List X) (x : X) → Contains ys x → (a : List X) × (b : List X) × (a ++ x ∷ b ≡ ys)
split_at [] x h = absurd (nothing x h)
split_at {X} (y ∷ ys) x h = elim (cons_cases y ys x h) [
  | inl is ↦ ([], ys, ap (λ (z : X). z ∷ ys) (sym is))
  | inr later ↦ (let w = split_at ys x later in (y ∷ w.0, w.1, ap (λ (zs : List X). y ∷ zs) w.2))
]

not_it : {X : Type 0} (a b : List X) (x z : X) → (x ≢ z) → Contains (a ++ x ∷ b) z → Contains (a ++ b) z
not_it a b x z other h = elim (Contains-append_cases a (x ∷ b) z h) [
  | inl first ↦ Contains-append_left a b z first
  | inr rest ↦ elim (cons_cases x b z rest) [ inl is ↦ absurd (other is) | inr later ↦ Contains-append_right a b z later ]
]

-- a list with nothing twice is no longer than one with all its members
pub no_longer : {X : Type 0} (xs ys : List X) → IsOnce xs → ((x : X) → Contains xs x → Contains ys x) → length xs ≤ length ys
no_longer [] ys once sub = omega arith
no_longer {X} (x ∷ xs) ys once sub =
    let w = split_at ys x (sub x (here x xs)) in
    let fewer : length xs ≤ length (w.0 ++ w.1) = no_longer xs (w.0 ++ w.1) once.1 (λ z h. not_it w.0 w.1 x z (λ e. once.0 (subst (λ (y : X). Contains xs y) (sym e) h)) (subst (λ (zs : List X). Contains zs z) (sym w.2) (sub z (there x xs z h)))) in
    let a : length (w.0 ++ x ∷ w.1) ≡ length ys = ap length w.2 in
    let b : length (w.0 ++ x ∷ w.1) ≡ length w.0 + length (x ∷ w.1) = length-append w.0 (x ∷ w.1) in
    let c : length (w.0 ++ w.1) ≡ length w.0 + length w.1 = length-append w.0 w.1 in
    omega (arith, fewer, a, b, c)

-- a function that keeps the members apart keeps the list so
pub once_mapped : {X Y : Type 0} (f : X → Y) (xs : List X) → IsOnce xs → ((x y : X) → Contains xs x → Contains xs y → f x ≡ f y → x ≡ y) → IsOnce (map f xs)
once_mapped f [] once apart = tt
once_mapped {X} f (x ∷ xs) once apart = (
  (λ h. (let w = from_mapped f xs (f x) h in once.0 (subst (λ (y : X). Contains xs y) (sym (apart x w.0 (here x xs) (there x xs w.0 w.1) (sym w.2))) w.1))),
  once_mapped f xs once.1 (λ y z hy hz e. apart y z (there x xs y hy) (there x xs z hz) e),
)

pub once_from_mapped : {X Y : Type 0} (f : X → Y) (xs : List X) → IsOnce (map f xs) → IsOnce xs
once_from_mapped f [] h = tt
once_from_mapped f (x ∷ xs) h = ((λ c. h.0 (mapped f xs x c)), once_from_mapped f xs h.1)

pub once_kept : {X : Type 0} (p : X → Bool) (xs : List X) → IsOnce xs → IsOnce (filter p xs)
once_kept p [] once = tt
once_kept {X} p (x ∷ xs) once = at (p x) (once_kept p xs once.1)
  where
    at : (b : Bool) → IsOnce (filter p xs) → IsOnce (cond b (x ∷ filter p xs) (filter p xs))
    at true rest = ((λ h. once.0 (from_kept p xs x h).0), rest)
    at false rest = rest

-- a list that ascends by an order has nothing twice
pub once_sorted : {X : Type 0} (cmp : X → X → Ordering) → ((x : X) → cmp x x ≢ Less) → (xs : List X) → IsStrictlySortedBy cmp xs → IsOnce xs
once_sorted cmp irr [] h = tt
once_sorted cmp irr (x ∷ xs) h =
    ((λ c. irr x (All-contains (λ y. cmp x y ≡ Less) xs x (All-from_recursion (λ y. cmp x y ≡ Less) xs (sorted_head cmp x xs h)) c)), once_sorted cmp irr xs (sorted_tail cmp x xs h))
