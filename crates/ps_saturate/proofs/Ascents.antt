-- Lists that strictly ascend by a total order, and what is chosen from them.
use Rattle.std.proofs.Common.{◌≡◌, ◌≢◌, ◌<◌, ℕ, zero, suc, Bool, true, false, cond, List, [], ◌∷◌, ◌++◌, map, length, get_or, refl, sym, ap, ap₂, ◌∙◌, subst, inl, inr, ◌⊎◌, Contains, All, arith}
use Rattle.std.specs.Cmp.{IsTotalOrder}
use Rattle.std.specs.Cmp.Lexicographic.{slice_cmp}
use Rattle.std.specs.List.{filter}
use Rattle.std.specs.List.Sorted.{IsStrictlySortedBy}
use Rattle.std.specs.Ordering.{ordering_then}
use Rattle.std.specs.declared.cmp.Ordering.{Ordering}
use Rattle.std.specs.declared.cmp.Ordering.TheVariants.{Less, Equal}
use Rattle.std.proofs.lemmas.Cmp.{tied_itself}
use Rattle.std.proofs.lemmas.List.Elements.{All-append, All-contains, All-from_recursion, All-map, All-nil, All-weaker, Contains-append_cases, Contains-append_left, Contains-append_right, Contains-get_or, recursion_from_All}
use Rattle.std.proofs.lemmas.Map.Keys.{sorted_head, sorted_tail}
use Rattle.ps_list.proofs.Mapped.{from_kept, from_mapped, mapped}
use Rattle.ps_list.proofs.Members.{nothing, cons_cases, here, there}
use Rattle.ps_saturate.specs.inner.Choosing.{choices}

-- ---- ascending lists

pub all_from : {X : Type 0} (P : X → Type 0) (xs : List X) → ((x : X) → Contains xs x → P x) → All P xs
all_from P xs h = λ k d l. h (get_or xs k d) (Contains-get_or xs k d l)

pub sorted_nil : {X : Type 0} (c : X → X → Ordering) → IsStrictlySortedBy c []
unfolding IsStrictlySortedBy
sorted_nil c = tt

pub sorted_cons : {X : Type 0} (c : X → X → Ordering) (x : X) (xs : List X) → All (λ y. c x y ≡ Less) xs → IsStrictlySortedBy c xs → IsStrictlySortedBy c (x ∷ xs)
unfolding IsStrictlySortedBy
sorted_cons c x xs h s = (recursion_from_All (λ y. c x y ≡ Less) xs h, s)

pub first_below : {X : Type 0} (c : X → X → Ordering) (x : X) (xs : List X) → IsStrictlySortedBy c (x ∷ xs) → All (λ y. c x y ≡ Less) xs
first_below c x xs s = All-from_recursion (λ y. c x y ≡ Less) xs (sorted_head c x xs s)

pub below_later : {X : Type 0} (c : X → X → Ordering) (x : X) (xs : List X) → IsStrictlySortedBy c (x ∷ xs) → (y : X) → Contains xs y → c x y ≡ Less
below_later c x xs s y h = All-contains (λ z. c x z ≡ Less) xs y (first_below c x xs s) h

pub not_below_itself : {X : Type 0} (c : X → X → Ordering) → IsTotalOrder c → (x y : X) → x ≡ y → c x y ≢ Less
not_below_itself {X} c total x y same h =
    let less : c x x ≡ Less = subst (λ (z : X). c x z ≡ Less) (sym same) h in
    let e : Equal ≡ Less = sym (tied_itself total x) ∙ less in
    let f : ⊥ = cc in f

-- what isn't the first member is a later one
later_unless : {X : Type 0} (a : X) (us : List X) (x : X) → Contains (a ∷ us) x → a ≢ x → Contains us x
later_unless a us x h other = elim (cons_cases a us x h) [ inl is ↦ absurd (other is) | inr later ↦ later ]

-- where the first members are one, the later ones of a part are among the later ones
rest_later : {X : Type 0} (c : X → X → Ordering) → IsTotalOrder c → (b : X) (vs : List X) (a : X) (us : List X) → IsStrictlySortedBy c (b ∷ vs) → a ≡ b
    → ((x : X) → Contains (b ∷ vs) x → Contains (a ∷ us) x) → (x : X) → Contains vs x → Contains us x
rest_later c total b vs a us sb is sub x h =
    later_unless a us x (sub x (there b vs x h)) (λ same. not_below_itself c total b x (sym is ∙ same) (below_later c b vs sb x h))

-- where the first member of a part is a later one, all of the part is
all_later : {X : Type 0} (c : X → X → Ordering) → IsTotalOrder c → (b : X) (vs : List X) (a : X) (us : List X) → IsStrictlySortedBy c (b ∷ vs) → IsStrictlySortedBy c (a ∷ us) → Contains us b
    → ((x : X) → Contains (b ∷ vs) x → Contains (a ∷ us) x) → (x : X) → Contains (b ∷ vs) x → Contains us x
all_later {X} c total b vs a us sb sa later sub x h = elim (cons_cases b vs x h) [
  | inl is ↦ subst (λ (z : X). Contains us z) is later
  | inr rest ↦ later_unless a us x (sub x h) (λ same. not_below_itself c total a x same (total.trans a b x (below_later c a us sa b later) (below_later c b vs sb x rest)))
]

-- an ascending list of members of another is that list or shorter
pub same_or_shorter : {X : Type 0} (c : X → X → Ordering) → IsTotalOrder c → (us vs : List X) → IsStrictlySortedBy c us → IsStrictlySortedBy c vs
    → ((x : X) → Contains vs x → Contains us x) → (vs ≡ us) ⊎ (length vs < length us)
same_or_shorter c total [] [] sa sb sub = inl refl
same_or_shorter c total [] (b ∷ vs) sa sb sub = absurd (nothing b (sub b (here b vs)))
same_or_shorter c total (a ∷ us) [] sa sb sub = inr (omega arith)
same_or_shorter {X} c total (a ∷ us) (b ∷ vs) sa sb sub = elim (cons_cases a us b (sub b (here b vs))) [
  | inl is ↦ elim (same_or_shorter c total us vs (sorted_tail c a us sa) (sorted_tail c b vs sb) (rest_later c total b vs a us sb is sub)) [
    | inl same ↦ inl (ap₂ (λ (z : X) (zs : List X). z ∷ zs) (sym is) same)
    | inr less ↦ inr (omega arith)
  ]
  | inr later ↦ elim (same_or_shorter c total us (b ∷ vs) (sorted_tail c a us sa) sb (all_later c total b vs a us sb sa later sub)) [
    | inl same ↦ inr (let e : length (b ∷ vs) ≡ length us = ap length same in omega arith)
    | inr less ↦ inr (omega arith)
  ]
]

pub sorted_append : {X : Type 0} (c : X → X → Ordering) (xs ys : List X) → IsStrictlySortedBy c xs → IsStrictlySortedBy c ys → ((x y : X) → Contains xs x → Contains ys y → c x y ≡ Less) → IsStrictlySortedBy c (xs ++ ys)
sorted_append c [] ys sx sy h = sy
sorted_append c (x ∷ xs) ys sx sy h =
    sorted_cons c x (xs ++ ys)
    (All-append (λ z. c x z ≡ Less) xs ys (first_below c x xs sx) (all_from (λ z. c x z ≡ Less) ys (λ y k. h x y (here x xs) k)))
    (sorted_append c xs ys (sorted_tail c x xs sx) sy (λ z y k l. h z y (there x xs z k) l))

pub map_sorted : {X Y : Type 0} (c : X → X → Ordering) (d : Y → Y → Ordering) (f : X → Y) → ((x y : X) → c x y ≡ Less → d (f x) (f y) ≡ Less) → (xs : List X) → IsStrictlySortedBy c xs → IsStrictlySortedBy d (map f xs)
map_sorted c d f k [] s = sorted_nil d
map_sorted c d f k (x ∷ xs) s =
    sorted_cons d (f x) (map f xs) (All-map (λ z. d (f x) z ≡ Less) f xs (All-weaker (λ y. c x y ≡ Less) (λ y. d (f x) (f y) ≡ Less) (k x) xs (first_below c x xs s))) (map_sorted c d f k xs (sorted_tail c x xs s))

-- without a member in the middle the list still ascends
pub sorted_without : {X : Type 0} (c : X → X → Ordering) (xs : List X) (y : X) (ys : List X) → IsStrictlySortedBy c (xs ++ y ∷ ys) → IsStrictlySortedBy c (xs ++ ys)
sorted_without c [] y ys s = sorted_tail c y ys s
sorted_without {X} c (x ∷ xs) y ys s =
    sorted_cons c x (xs ++ ys) (all_from (λ z. c x z ≡ Less) (xs ++ ys) (λ z h. below_later c x (xs ++ y ∷ ys) s z (elim (Contains-append_cases xs ys z h) [
      | inl left ↦ Contains-append_left xs (y ∷ ys) z left
      | inr right ↦ Contains-append_right xs (y ∷ ys) z (there y ys z right)
    ]))) (sorted_without c xs y ys (sorted_tail c x (xs ++ y ∷ ys) s))

-- so do its first members
pub sorted_first : {X : Type 0} (c : X → X → Ordering) (xs ys : List X) → IsStrictlySortedBy c (xs ++ ys) → IsStrictlySortedBy c xs
sorted_first c [] ys s = sorted_nil c
sorted_first c (x ∷ xs) ys s =
    sorted_cons c x xs (all_from (λ z. c x z ≡ Less) xs (λ z h. below_later c x (xs ++ ys) s z (Contains-append_left xs ys z h))) (sorted_first c xs ys (sorted_tail c x (xs ++ ys) s))

-- and its last ones
pub sorted_last : {X : Type 0} (c : X → X → Ordering) (xs ys : List X) → IsStrictlySortedBy c (xs ++ ys) → IsStrictlySortedBy c ys
sorted_last c [] ys s = s
sorted_last c (x ∷ xs) ys s = sorted_last c xs ys (sorted_tail c x (xs ++ ys) s)

-- the first ones come before the last ones
pub sorted_across : {X : Type 0} (c : X → X → Ordering) (xs ys : List X) → IsStrictlySortedBy c (xs ++ ys) → (x y : X) → Contains xs x → Contains ys y → c x y ≡ Less
sorted_across c [] ys s x y h k = absurd (nothing x h)
sorted_across {X} c (z ∷ xs) ys s x y h k = elim (cons_cases z xs x h) [
  | inl is ↦ subst (λ (w : X). c w y ≡ Less) is (below_later c z (xs ++ ys) s y (Contains-append_right xs ys y k))
  | inr later ↦ sorted_across c xs ys (sorted_tail c z (xs ++ ys) s) x y later k
]

-- what a test keeps of a list still ascends where the list does
pub sorted_kept : {X Y : Type 0} (c : Y → Y → Ordering) (f : X → Y) (p : X → Bool) (xs : List X) → IsStrictlySortedBy c (map f xs) → IsStrictlySortedBy c (map f (filter p xs))
sorted_kept c f p [] s = sorted_nil c
sorted_kept {X} {Y} c f p (x ∷ xs) s = at (p x) (sorted_kept c f p xs (sorted_tail c (f x) (map f xs) s))
  where
    at : (b : Bool) → IsStrictlySortedBy c (map f (filter p xs)) → IsStrictlySortedBy c (map f (cond b (x ∷ filter p xs) (filter p xs)))
    at true rest = sorted_cons c (f x) (map f (filter p xs)) (all_from (λ z. c (f x) z ≡ Less) (map f (filter p xs)) (λ z h. (
        let w = from_mapped f (filter p xs) z h in
        below_later c (f x) (map f xs) s z (subst (λ (y : Y). Contains (map f xs) y) w.2 (mapped f xs w.0 (from_kept p xs w.0 w.1).0))))) rest
    at false rest = rest

-- ---- what is chosen

-- an ascending list of so many members of another
pub record IsPick {X : Type 0} (c : X → X → Ordering) (xs : List X) (n : ℕ) (ys : List X) : Type 0 where
  pub ascends : IsStrictlySortedBy c ys
  pub long : length ys ≡ n
  pub among : (y : X) → Contains ys y → Contains xs y

pick_nothing : {X : Type 0} (c : X → X → Ordering) (xs ys : List X) → Contains ([] ∷ []) ys → IsPick c xs 0 ys
pick_nothing {X} c xs ys h = elim (cons_cases [] [] ys h) [
  | inl is ↦ subst (λ (zs : List X). IsPick c xs 0 zs) is (record { ascends = sorted_nil c; long = refl; among = λ y k. absurd (nothing y k) })
  | inr rest ↦ absurd (nothing ys rest)
]

pub picked : {X : Type 0} (c : X → X → Ordering) (xs : List X) → IsStrictlySortedBy c xs → (n : ℕ) (ys : List X) → Contains (choices xs n) ys → IsPick c xs n ys
picked c [] s zero ys h = pick_nothing c [] ys h
picked c [] s (suc n) ys h = absurd (nothing ys h)
picked c (x ∷ xs) s zero ys h = pick_nothing c (x ∷ xs) ys h
picked {X} c (x ∷ xs) s (suc n) ys h = elim (Contains-append_cases (map (λ (zs : List X). x ∷ zs) (choices xs n)) (choices xs (suc n)) ys h) [
  | inl first ↦ (
      let w = from_mapped (λ (zs : List X). x ∷ zs) (choices xs n) ys first in
      let p = picked c xs (sorted_tail c x xs s) n w.0 w.1 in
      subst (λ (zs : List X). IsPick c (x ∷ xs) (suc n) zs) w.2 (record {
        ascends = sorted_cons c x w.0 (all_from (λ z. c x z ≡ Less) w.0 (λ z k. below_later c x xs s z (p.among z k))) p.ascends;
        long = ap suc p.long;
        among = λ y k. elim (cons_cases x w.0 y k) [ inl is ↦ subst (λ (z : X). Contains (x ∷ xs) z) is (here x xs) | inr later ↦ there x xs y (p.among y later) ];
      }))
  | inr rest ↦ (
      let p = picked c xs (sorted_tail c x xs s) (suc n) ys rest in
      record { ascends = p.ascends; long = p.long; among = λ y k. there x xs y (p.among y k) })
]

pub every_pick : {X : Type 0} (c : X → X → Ordering) → IsTotalOrder c → (xs ys : List X) → IsStrictlySortedBy c xs → IsStrictlySortedBy c ys → ((y : X) → Contains ys y → Contains xs y) → Contains (choices xs (length ys)) ys
every_pick c total [] [] sx sy sub = here [] []
every_pick c total [] (y ∷ ys) sx sy sub = absurd (nothing y (sub y (here y ys)))
every_pick c total (x ∷ xs) [] sx sy sub = here [] []
every_pick {X} c total (x ∷ xs) (y ∷ ys) sx sy sub = elim (cons_cases x xs y (sub y (here y ys))) [
  | inl is ↦ (
      let rest : Contains (choices xs (length ys)) ys = every_pick c total xs ys (sorted_tail c x xs sx) (sorted_tail c y ys sy) (rest_later c total y ys x xs sy is sub) in
      let led : Contains (map (λ (zs : List X). x ∷ zs) (choices xs (length ys))) (x ∷ ys) = mapped (λ (zs : List X). x ∷ zs) (choices xs (length ys)) ys rest in
      let led_y : Contains (map (λ (zs : List X). x ∷ zs) (choices xs (length ys))) (y ∷ ys) = subst (λ (z : X). Contains (map (λ (zs : List X). x ∷ zs) (choices xs (length ys))) (z ∷ ys)) is led in
      Contains-append_left (map (λ (zs : List X). x ∷ zs) (choices xs (length ys))) (choices xs (suc (length ys))) (y ∷ ys) led_y)
  | inr later ↦ (
      let rest : Contains (choices xs (length (y ∷ ys))) (y ∷ ys) = every_pick c total xs (y ∷ ys) (sorted_tail c x xs sx) sy (all_later c total y ys x xs sy sx later sub) in
      Contains-append_right (map (λ (zs : List X). x ∷ zs) (choices xs (length ys))) (choices xs (suc (length ys))) (y ∷ ys) rest)
]

led_less : {X : Type 0} (c : X → X → Ordering) → IsTotalOrder c → (x : X) (a b : List X) → slice_cmp c a b ≡ Less → slice_cmp c (x ∷ a) (x ∷ b) ≡ Less
led_less c total x a b h = ap (λ (o : Ordering). ordering_then o (slice_cmp c a b)) (tied_itself total x) ∙ h

first_less : {X : Type 0} (c : X → X → Ordering) (x : X) (a : List X) (y : X) (b : List X) → c x y ≡ Less → slice_cmp c (x ∷ a) (y ∷ b) ≡ Less
first_less c x a y b h = ap (λ (o : Ordering). ordering_then o (slice_cmp c a b)) h

one_sorted : {X : Type 0} (c : X → X → Ordering) (x : X) → IsStrictlySortedBy c (x ∷ [])
one_sorted c x = sorted_cons c x [] (All-nil (λ y. c x y ≡ Less)) (sorted_nil c)

-- what is chosen stands in lexicographic order
pub choices_sorted : {X : Type 0} (c : X → X → Ordering) → IsTotalOrder c → (xs : List X) → IsStrictlySortedBy c xs → (n : ℕ) → IsStrictlySortedBy (slice_cmp c) (choices xs n)
choices_sorted c total [] s zero = one_sorted (slice_cmp c) []
choices_sorted c total [] s (suc n) = sorted_nil (slice_cmp c)
choices_sorted c total (x ∷ xs) s zero = one_sorted (slice_cmp c) []
choices_sorted {X} c total (x ∷ xs) s (suc n) =
    sorted_append (slice_cmp c) (map (λ (zs : List X). x ∷ zs) (choices xs n)) (choices xs (suc n))
    (map_sorted (slice_cmp c) (slice_cmp c) (λ (zs : List X). x ∷ zs) (led_less c total x) (choices xs n) (choices_sorted c total xs (sorted_tail c x xs s) n))
    (choices_sorted c total xs (sorted_tail c x xs s) (suc n))
    (λ u v h k. (
    let w = from_mapped (λ (zs : List X). x ∷ zs) (choices xs n) u h in
    subst (λ (us : List X). slice_cmp c us v ≡ Less) w.2 (before v w.0 (picked c xs (sorted_tail c x xs s) (suc n) v k))))
  where
    before : (v a : List X) → IsPick c xs (suc n) v → slice_cmp c (x ∷ a) v ≡ Less
    before [] a p = (let e : 0 ≡ suc n = p.long in absurd (omega arith))
    before (y ∷ v) a p = first_less c x a y v (below_later c x xs s y (p.among y (here y v)))
