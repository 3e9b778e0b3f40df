-- Lists that ascend: those with the same members are one, and maps of them.
use Rattle.std.proofs.Common.{◌≡◌, List, [], ◌∷◌, ◌++◌, map, refl, sym, ap, ap₂, ◌∙◌, subst, inl, inr, Contains}
use Rattle.std.specs.Cmp.{IsTotalOrder}
use Rattle.std.specs.List.{AllByRecursion}
use Rattle.std.specs.List.Sorted.{IsStrictlySortedBy}
use Rattle.std.specs.Ordering.{ordering_reverse}
use Rattle.std.specs.declared.cmp.Ordering.{Ordering}
use Rattle.std.specs.declared.cmp.Ordering.TheVariants.{Less, Greater}
use Rattle.std.proofs.lemmas.List.Elements.{All-contains, All-from_recursion}
use Rattle.std.proofs.lemmas.Map.Keys.{sorted_head, sorted_tail}
use Rattle.ps_list.proofs.Members.{nothing, cons_cases, here, there}

abbrev pub IsAsymmetric : {X : Type 0} → (X → X → Ordering) → Type 0
IsAsymmetric {X} cmp = (x y : X) → cmp x y ≡ Less → cmp y x ≡ Less → ⊥

pub total_asymmetric : {X : Type 0} (cmp : X → X → Ordering) → IsTotalOrder cmp → IsAsymmetric cmp
total_asymmetric cmp total x y less back = (let e : Less ≡ Greater = sym less ∙ (total.antisymm x y ∙ ap ordering_reverse back) in let f : ⊥ = cc in f)

pub head_less : {X : Type 0} (cmp : X → X → Ordering) (x y : X) (xs : List X) → IsStrictlySortedBy cmp (x ∷ xs) → Contains xs y → cmp x y ≡ Less
head_less cmp x y xs up h = All-contains (λ z. cmp x z ≡ Less) xs y (All-from_recursion (λ z. cmp x z ≡ Less) xs (sorted_head cmp x xs up)) h

-- what stands after a member is greater
pub after_greater : {X : Type 0} (cmp : X → X → Ordering) (before after : List X) (x y : X) → IsStrictlySortedBy cmp (before ++ x ∷ after) → Contains after y → cmp x y ≡ Less
after_greater cmp [] after x y up h = head_less cmp x y after up h
after_greater cmp (b ∷ before) after x y up h = after_greater cmp before after x y (sorted_tail cmp b (before ++ x ∷ after) up) h

same_head : {X : Type 0} (cmp : X → X → Ordering) → IsAsymmetric cmp → (x y : X) (xs ys : List X) → IsStrictlySortedBy cmp (x ∷ xs) → IsStrictlySortedBy cmp (y ∷ ys) → Contains (y ∷ ys) x → Contains (x ∷ xs) y → x ≡ y
same_head cmp asym x y xs ys ux uy hx hy = elim (cons_cases y ys x hx) [
  | inl is ↦ sym is
  | inr later ↦ elim (cons_cases x xs y hy) [
    | inl is ↦ is
    | inr other ↦ absurd (asym x y (head_less cmp x y xs ux other) (head_less cmp y x ys uy later))
  ]
]

same_tail : {X : Type 0} (cmp : X → X → Ordering) → IsAsymmetric cmp → (x y : X) (xs ys : List X) → x ≡ y → IsStrictlySortedBy cmp (x ∷ xs) → ((z : X) → Contains (x ∷ xs) z → Contains (y ∷ ys) z) → (z : X) → Contains xs z → Contains ys z
same_tail {X} cmp asym x y xs ys e up sub z h = elim (cons_cases y ys z (sub z (there x xs z h))) [
  | inl is ↦ (let less : cmp x x ≡ Less = subst (λ (w : X). cmp x w ≡ Less) (sym (e ∙ is)) (head_less cmp x z xs up h) in absurd (asym x x less less))
  | inr later ↦ later
]

pub same_sorted : {X : Type 0} (cmp : X → X → Ordering) → IsAsymmetric cmp → (xs ys : List X) → IsStrictlySortedBy cmp xs → IsStrictlySortedBy cmp ys → ((z : X) → Contains xs z → Contains ys z) → ((z : X) → Contains ys z → Contains xs z) → xs ≡ ys
same_sorted cmp asym [] [] ux uy sub back = refl
same_sorted cmp asym [] (y ∷ ys) ux uy sub back = absurd (nothing y (back y (here y ys)))
same_sorted cmp asym (x ∷ xs) [] ux uy sub back = absurd (nothing x (sub x (here x xs)))
same_sorted {X} cmp asym (x ∷ xs) (y ∷ ys) ux uy sub back =
    let e : x ≡ y = same_head cmp asym x y xs ys ux uy (sub x (here x xs)) (back y (here y ys)) in
    ap₂ (λ (z : X) (zs : List X). z ∷ zs) e (same_sorted cmp asym xs ys (sorted_tail cmp x xs ux) (sorted_tail cmp y ys uy)
    (same_tail cmp asym x y xs ys e ux sub) (same_tail cmp asym y x ys xs (sym e) uy back))

-- ---- maps

each_mapped : {K L : Type 0} (c : K → K → Ordering) (d : L → L → Ordering) (f : K → L) → ((x y : K) → c x y ≡ d (f x) (f y)) → (x : K) (xs : List K) → AllByRecursion (λ y. c x y ≡ Less) xs → AllByRecursion (λ y. d (f x) y ≡ Less) (map f xs)
each_mapped c d f same x [] h = tt
each_mapped c d f same x (y ∷ ys) h = (sym (same x y) ∙ h.0, each_mapped c d f same x ys h.1)

pub map_sorted : {K L : Type 0} (c : K → K → Ordering) (d : L → L → Ordering) (f : K → L) → ((x y : K) → c x y ≡ d (f x) (f y)) → (xs : List K) → IsStrictlySortedBy c xs → IsStrictlySortedBy d (map f xs)
unfolding IsStrictlySortedBy
map_sorted c d f same [] h = tt
map_sorted c d f same (x ∷ xs) h = (each_mapped c d f same x xs h.0, map_sorted c d f same xs h.1)
