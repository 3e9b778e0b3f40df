-- Lists whose members rise by a strict order: each member once, and told by their members.
use Rattle.std.proofs.Common.{◌≡◌, ◌≢◌, ◌⊎◌, ◌==◌, ◌+◌, ◌<◌, ◌≤◌, ℕ, Bool, true, false, cond, List, [], ◌∷◌, AllPairs, Contains, refl, sym, ap₂, ◌∙◌, subst, inl, inr, suc, arith}
use Rattle.std.specs.List.{AllByRecursion}
use Rattle.std.specs.List.Sorted.{IsStrictlyIncreasing}
use Rattle.std.proofs.lemmas.Bool.Decides.{nat_tests}
use Rattle.std.proofs.lemmas.List.Elements.{All-from_recursion, recursion_from_All}
use Rattle.std.proofs.lemmas.List.Kept.{AllPairs-cons, AllPairs-from_increasing}
use Rattle.ps_list.proofs.Members.{nothing, cons_cases, here, there}
use Rattle.ps_atom.proofs.MetThreads.{IsRising}
use Rattle.ps_atom.proofs.Counts.{count, IsOnce}

-- each member stands in the relation to all later ones
abbrev pub IsChain : {X : Type 0} → (X → X → Type 0) → List X → Type 0
IsChain R [] = Unit {0}
IsChain R (x ∷ xs) = AllByRecursion (R x) xs × IsChain R xs

pub chain_from_pairs : {X : Type 0} (R : X → X → Type 0) (xs : List X) → AllPairs R xs → IsChain R xs
chain_from_pairs R [] h = tt
chain_from_pairs R (x ∷ xs) h =
    (recursion_from_All (R x) xs (λ k d l. h 0 (suc k) d (omega arith) (omega (arith, l))), chain_from_pairs R xs (λ i j d lt l. h (suc i) (suc j) d (omega (arith, lt)) (omega (arith, l))))

pub pairs_from_chain : {X : Type 0} (R : X → X → Type 0) (xs : List X) → IsChain R xs → AllPairs R xs
pairs_from_chain R [] h = λ i j d lt l. absurd (omega (arith, l))
pairs_from_chain R (x ∷ xs) h = AllPairs-cons R x xs (All-from_recursion (R x) xs h.0) (pairs_from_chain R xs h.1)

pub rising_from_increasing : (xs : List ℕ) → IsStrictlyIncreasing xs → IsRising xs
rising_from_increasing xs h = as_rising xs (chain_from_pairs (λ x y. x < y) xs (AllPairs-from_increasing xs h))
  where
    as_rising : (xs : List ℕ) → IsChain (λ x y. x < y) xs → IsRising xs
    as_rising [] h = tt
    as_rising (x ∷ xs) h = (h.0, as_rising xs h.1)

pub all-contains : {X : Type 0} (P : X → Type 0) (xs : List X) (x : X) → AllByRecursion P xs → Contains xs x → P x
all-contains P [] x h m = absurd (nothing x m)
all-contains P (y ∷ ys) x h m = by_case (λ r. all-contains P ys x h.1 r) (cons_cases y ys x m)
  where
    by_case : (Contains ys x → P x) → (y ≡ x) ⊎ Contains ys x → P x
    by_case f (inl e) = subst P e h.0
    by_case f (inr r) = f r

other_zero : (t x : ℕ) (n : ℕ) → x ≢ t → n ≡ 0 → cond (x == t) 1 0 + n ≡ 0
other_zero t x n other e =
    let f : (x == t) ≡ false = grind (arith, nat_tests) in
    rw f (omega (arith, e))

count_none : (t : ℕ) (xs : List ℕ) → AllByRecursion (λ y. y ≢ t) xs → count t xs ≡ 0
count_none t [] h = refl
count_none t (x ∷ xs) h = other_zero t x (count t xs) h.0 (count_none t xs h.1)

one_at : (a n : ℕ) → a ≤ 1 → n ≡ 0 → a + n ≤ 1
one_at a n h e = omega arith

weight_le : (b : Bool) → cond b 1 0 ≤ 1
weight_le true = omega arith
weight_le false = omega arith

pub once_from_chain : (R : ℕ → ℕ → Type 0) → ((x : ℕ) → R x x → ⊥) → (xs : List ℕ) → IsChain R xs → IsOnce xs
once_from_chain R irr [] h t = omega arith
once_from_chain R irr (x ∷ xs) h t = by_test (once_from_chain R irr xs h.1 t) (x == t) refl
  where
    apart : (ys : List ℕ) → x ≡ t → AllByRecursion (R x) ys → AllByRecursion (λ y. y ≢ t) ys
    apart [] e r = tt
    apart (y ∷ ys) e r = ((λ f. irr x (subst (λ (z : ℕ). R x z) (f ∙ sym e) r.0)), apart ys e r.1)

    by_test : count t xs ≤ 1 → (b : Bool) → (x == t) ≡ b → cond b 1 0 + count t xs ≤ 1
    by_test rest true e = (let is : x ≡ t = grind (arith, nat_tests) in one_at 1 (count t xs) (omega arith) (count_none t xs (apart xs is h.0)))
    by_test rest false e = omega (arith, rest)

-- two chains of a strict order with the same members are one list
tails : (R : ℕ → ℕ → Type 0) → ((x : ℕ) → R x x → ⊥) → (x : ℕ) (xs ys : List ℕ) → AllByRecursion (R x) xs → ((t : ℕ) → Contains (x ∷ xs) t → Contains (x ∷ ys) t) → (t : ℕ) → Contains xs t → Contains ys t
tails R irr x xs ys above h t m = by_case (cons_cases x ys t (h t (there x xs t m)))
  where
    by_case : (x ≡ t) ⊎ Contains ys t → Contains ys t
    by_case (inl e) = absurd (irr x (subst (λ (z : ℕ). R x z) (sym e) (all-contains (R x) xs t above m)))
    by_case (inr r) = r

heads : (R : ℕ → ℕ → Type 0) → ((x y : ℕ) → R x y → R y x → ⊥) → (x y : ℕ) (xs ys : List ℕ) → AllByRecursion (R x) xs → AllByRecursion (R y) ys → Contains (y ∷ ys) x → Contains (x ∷ xs) y → x ≡ y
heads R asym x y xs ys a b m n = by_case (cons_cases y ys x m) (cons_cases x xs y n)
  where
    by_case : (y ≡ x) ⊎ Contains ys x → (x ≡ y) ⊎ Contains xs y → x ≡ y
    by_case (inl e) o = sym e
    by_case (inr r) (inl e) = e
    by_case (inr r) (inr s) = absurd (asym x y (all-contains (R x) xs y a s) (all-contains (R y) ys x b r))

pub same_chain : (R : ℕ → ℕ → Type 0) → ((x : ℕ) → R x x → ⊥) → ((x y : ℕ) → R x y → R y x → ⊥) → (xs ys : List ℕ) → IsChain R xs → IsChain R ys → ((t : ℕ) → Contains xs t → Contains ys t) → ((t : ℕ) → Contains ys t → Contains xs t) → xs ≡ ys
same_chain R irr asym [] [] c d f g = refl
same_chain R irr asym [] (y ∷ ys) c d f g = absurd (nothing y (g y (here y ys)))
same_chain R irr asym (x ∷ xs) [] c d f g = absurd (nothing x (f x (here x xs)))
same_chain R irr asym (x ∷ xs) (y ∷ ys) c d f g =
    let first : x ≡ y = heads R asym x y xs ys c.0 d.0 (f x (here x xs)) (g y (here y ys)) in
    let above : AllByRecursion (R x) ys = subst (λ (z : ℕ). AllByRecursion (R z) ys) (sym first) d.0 in
    let into : (t : ℕ) → Contains (x ∷ xs) t → Contains (x ∷ ys) t = subst (λ (z : ℕ). (t : ℕ) → Contains (x ∷ xs) t → Contains (z ∷ ys) t) (sym first) f in
    let back : (t : ℕ) → Contains (x ∷ ys) t → Contains (x ∷ xs) t = subst (λ (z : ℕ). (t : ℕ) → Contains (z ∷ ys) t → Contains (x ∷ xs) t) (sym first) g in
    ap₂ (λ (z : ℕ) (zs : List ℕ). z ∷ zs) first (same_chain R irr asym xs ys c.1 d.1 (tails R irr x xs ys c.0 into) (tails R irr x ys xs above back))
