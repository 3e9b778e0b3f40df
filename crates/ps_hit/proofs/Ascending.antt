-- The set of the lists found.
use Rattle.std.proofs.Common.{◌≡◌, ℕ, ◌<◌, List, [], ◌∷◌, length, sym, ap, ◌∙◌, subst, refl, inl, inr, ◌⊎◌, Contains, arith, get_or, zero, suc}
use Rattle.std.specs.declared.cmp.Ordering.{Ordering}
use Rattle.std.specs.Ordering.{nat_cmp, match_ordering}
use Rattle.std.specs.declared.cmp.Ordering.TheVariants.{Less, Equal, Greater}
use Rattle.std.specs.Cmp.Lexicographic.{slice_cmp}
use Rattle.std.specs.List.{AllByRecursion}
use Rattle.std.specs.List.Sorted.{IsStrictlySortedBy}
use Rattle.std.specs.BTreeSet.{insert_key}
use Rattle.std.specs.declared.vec.Vec.{Vec}
use Rattle.std.proofs.lemmas.Map.Lookups.{exact_bytes}
use Rattle.ps_hit.specs.Hitting.{numbers_of}
use Rattle.ps_list.proofs.Members.{nothing, cons_cases, here, there}

-- ---- the lists found

-- the order of the lists
abbrev pub list_cmp : {A : Type 0} → Vec ℕ A → Vec ℕ A → Ordering
list_cmp a b = slice_cmp nat_cmp a.items b.items

-- the list goes to its place among those found
abbrev pub put : List (List ℕ) → List ℕ → List (List ℕ)
put lists k = insert_key (slice_cmp nat_cmp) lists k

numbers_match : {A : Type 0} (a b c : List (Vec ℕ A)) (o : Ordering) → numbers_of (match_ordering o a b c) ≡ match_ordering o (numbers_of a) (numbers_of b) (numbers_of c)
numbers_match a b c Less = refl
numbers_match a b c Equal = refl
numbers_match a b c Greater = refl

pub numbers_put : {A : Type 0} (keys : List (Vec ℕ A)) (k : Vec ℕ A) → numbers_of (insert_key list_cmp keys k) ≡ put (numbers_of keys) k.items
numbers_put [] k = refl
numbers_put (x ∷ xs) k =
    numbers_match (k ∷ x ∷ xs) (x ∷ xs) (x ∷ insert_key list_cmp xs k) (list_cmp k x)
    ∙ ap (λ (later : List (List ℕ)). match_ordering (list_cmp k x) (k.items ∷ x.items ∷ numbers_of xs) (x.items ∷ numbers_of xs) (x.items ∷ later)) (numbers_put xs k)

kept_at : (k x : List ℕ) (xs later : List (List ℕ)) (o : Ordering) (q : List ℕ) → (Contains xs q → Contains later q) → (x ≡ q) ⊎ Contains xs q
    → Contains (match_ordering o (k ∷ x ∷ xs) (x ∷ xs) (x ∷ later)) q
kept_at k x xs later Less q b (inl is) = there k (x ∷ xs) q (subst (λ (z : List ℕ). Contains (x ∷ xs) z) is (here x xs))
kept_at k x xs later Less q b (inr h) = there k (x ∷ xs) q (there x xs q h)
kept_at k x xs later Equal q b (inl is) = subst (λ (z : List ℕ). Contains (x ∷ xs) z) is (here x xs)
kept_at k x xs later Equal q b (inr h) = there x xs q h
kept_at k x xs later Greater q b (inl is) = subst (λ (z : List ℕ). Contains (x ∷ later) z) is (here x later)
kept_at k x xs later Greater q b (inr h) = there x later q (b h)

pub put_keeps : (lists : List (List ℕ)) (k q : List ℕ) → Contains lists q → Contains (put lists k) q
put_keeps [] k q h = absurd (nothing q h)
put_keeps (x ∷ xs) k q h = kept_at k x xs (put xs k) (slice_cmp nat_cmp k x) q (put_keeps xs k q) (cons_cases x xs q h)

new_at : (k x : List ℕ) (xs later : List (List ℕ)) (o : Ordering) → (o ≡ Equal → k ≡ x) → Contains later k → Contains (match_ordering o (k ∷ x ∷ xs) (x ∷ xs) (x ∷ later)) k
new_at k x xs later Less e h = here k (x ∷ xs)
new_at k x xs later Equal e h = subst (λ (z : List ℕ). Contains (x ∷ xs) z) (sym (e refl)) (here x xs)
new_at k x xs later Greater e h = there x later k h

pub put_new : (lists : List (List ℕ)) (k : List ℕ) → Contains (put lists k) k
put_new [] k = here k []
put_new (x ∷ xs) k = new_at k x xs (put xs k) (slice_cmp nat_cmp k x) (exact_bytes k x) (put_new xs k)

cases_at : (k x : List ℕ) (xs later : List (List ℕ)) (o : Ordering) (q : List ℕ) → (Contains later q → Contains xs q ⊎ (k ≡ q))
    → Contains (match_ordering o (k ∷ x ∷ xs) (x ∷ xs) (x ∷ later)) q → Contains (x ∷ xs) q ⊎ (k ≡ q)
cases_at k x xs later Less q b h = elim (cons_cases k (x ∷ xs) q h) [ inl is ↦ inr is | inr old ↦ inl old ]
cases_at k x xs later Equal q b h = inl h
cases_at k x xs later Greater q b h = elim (cons_cases x later q h) [
  | inl is ↦ inl (subst (λ (z : List ℕ). Contains (x ∷ xs) z) is (here x xs))
  | inr l ↦ elim (b l) [ inl old ↦ inl (there x xs q old) | inr is ↦ inr is ]
]

pub put_cases : (lists : List (List ℕ)) (k q : List ℕ) → Contains (put lists k) q → Contains lists q ⊎ (k ≡ q)
put_cases [] k q h = elim (cons_cases k [] q h) [ inl is ↦ inr is | inr none ↦ absurd (nothing q none) ]
put_cases (x ∷ xs) k q h = cases_at k x xs (put xs k) (slice_cmp nat_cmp k x) q (put_cases xs k q) h

each_number : {A : Type 0} (x : Vec ℕ A) (xs : List (Vec ℕ A)) → AllByRecursion (λ (y : Vec ℕ A). list_cmp x y ≡ Less) xs
    → AllByRecursion (λ (y : List ℕ). slice_cmp nat_cmp x.items y ≡ Less) (numbers_of xs)
each_number x [] h = h
each_number x (y ∷ ys) h = (h.0, each_number x ys h.1)

-- lists in order, seen as lists of numbers
pub numbers_ordered : {A : Type 0} (keys : List (Vec ℕ A)) → IsStrictlySortedBy list_cmp keys → IsStrictlySortedBy (slice_cmp nat_cmp) (numbers_of keys)
unfolding IsStrictlySortedBy
numbers_ordered [] up = up
numbers_ordered (x ∷ xs) up = (each_number x xs up.0, numbers_ordered xs up.1)

ap_items : {A : Type 0} (x y : Vec ℕ A) → x ≡ y → x.items ≡ y.items
ap_items x y is = cc

-- the set that the place names
pub numbers_at : {A : Type 0} (sets : List (Vec ℕ A)) (place : ℕ) (set : Vec ℕ A) → place < length sets → set ≡ get_or sets place set → get_or (numbers_of sets) place [] ≡ set.items
numbers_at [] place set within is = absurd (omega arith)
numbers_at (x ∷ xs) zero set within is = ap_items x set (sym is)
numbers_at (x ∷ xs) (suc place) set within is = numbers_at xs place set (omega arith) is
