-- Lists of numbers: whether one has a number, and that ascending ones with the same numbers are the same.
use Rattle.std.proofs.Common.{◌≡◌, ℕ, ◌<◌, ◌==◌, true, List, [], ◌∷◌, refl, sym, subst, inl, inr, ◌⊎◌, Contains, arith}
use Rattle.std.specs.List.{list_any}
use Rattle.std.specs.List.Sorted.{IsStrictlySortedBy, IsStrictlyIncreasing}
use Rattle.std.specs.Ordering.{nat_cmp}
use Rattle.std.specs.declared.cmp.Ordering.TheVariants.{Less}
use Rattle.std.proofs.lemmas.Bool.{cases_eq, false≢true, or_cases, or_left, or_right, eqb-true, eq-eqb}
use Rattle.std.proofs.lemmas.Cmp.{ranked}
use Rattle.std.proofs.lemmas.List.Elements.{All-from_recursion, All-contains}
use Rattle.std.proofs.lemmas.Map.Keys.{sorted_head, sorted_tail, sorted_from_strictly_increasing}
use Rattle.ps_list.proofs.Members.{nothing, cons_cases, here, there}

-- ---- whether a list has a number

pub is_in : (xs : List ℕ) (n : ℕ) → Contains xs n ⊎ (¬ Contains xs n)
is_in [] n = inr (λ h. nothing n h)
is_in (x ∷ xs) n = elim (cases_eq x n) [
  | inl is ↦ inl (subst (λ (m : ℕ). Contains (x ∷ xs) m) is (here x xs))
  | inr other ↦ elim (is_in xs n) [
    | inl later ↦ inl (there x xs n later)
    | inr lacks ↦ inr (λ h. elim (cons_cases x xs n h) [ inl is ↦ other is | inr later ↦ lacks later ])
  ]
]

pub has_from : (xs : List ℕ) (n : ℕ) → list_any (λ m. m == n) xs ≡ true → Contains xs n
has_from [] n h = absurd (false≢true h)
has_from (x ∷ xs) n h = elim (or_cases (x == n) (list_any (λ m. m == n) xs) h) [
  | inl is ↦ subst (λ (m : ℕ). Contains (x ∷ xs) m) (eqb-true x n is) (here x xs)
  | inr later ↦ there x xs n (has_from xs n later)
]

pub has_to : (xs : List ℕ) (n : ℕ) → Contains xs n → list_any (λ m. m == n) xs ≡ true
has_to [] n h = absurd (nothing n h)
has_to (x ∷ xs) n h = elim (cons_cases x xs n h) [
  | inl is ↦ or_left (x == n) (list_any (λ m. m == n) xs) (eq-eqb x n is)
  | inr later ↦ or_right (x == n) (list_any (λ m. m == n) xs) (has_to xs n later)
]

-- ---- ascending lists with the same numbers are the same

above_first : (x : ℕ) (xs : List ℕ) → IsStrictlySortedBy nat_cmp (x ∷ xs) → (n : ℕ) → Contains xs n → x < n
above_first x xs up n h = ranked x n Less (sym (All-contains (λ (m : ℕ). nat_cmp x m ≡ Less) xs n (All-from_recursion (λ (m : ℕ). nat_cmp x m ≡ Less) xs (sorted_head nat_cmp x xs up)) h))

same_first : (x : ℕ) (xs : List ℕ) (y : ℕ) (ys : List ℕ) → IsStrictlySortedBy nat_cmp (x ∷ xs) → IsStrictlySortedBy nat_cmp (y ∷ ys)
    → (y ≡ x) ⊎ Contains ys x → (x ≡ y) ⊎ Contains xs y → x ≡ y
same_first x xs y ys up vp (inl is) b = sym is
same_first x xs y ys up vp (inr h) (inl is) = is
same_first x xs y ys up vp (inr h) (inr k) = let a : y < x = above_first y ys vp x h in let b : x < y = above_first x xs up y k in absurd (omega arith)

rest_subset : (x : ℕ) (xs : List ℕ) (y : ℕ) (ys : List ℕ) → IsStrictlySortedBy nat_cmp (x ∷ xs) → x ≡ y → ((n : ℕ) → Contains (x ∷ xs) n → Contains (y ∷ ys) n) → ((n : ℕ) → Contains xs n → Contains ys n)
rest_subset x xs y ys up same sub n h = elim (cons_cases y ys n (sub n (there x xs n h))) [
  | inl is ↦ (let a : x < n = above_first x xs up n h in absurd (omega (arith, same, is)))
  | inr later ↦ later
]

same_sorted : (xs ys : List ℕ) → IsStrictlySortedBy nat_cmp xs → IsStrictlySortedBy nat_cmp ys → ((n : ℕ) → Contains xs n → Contains ys n) → ((n : ℕ) → Contains ys n → Contains xs n) → xs ≡ ys
same_sorted [] [] up vp to back = refl
same_sorted [] (y ∷ ys) up vp to back = absurd (nothing y (back y (here y ys)))
same_sorted (x ∷ xs) [] up vp to back = absurd (nothing x (to x (here x xs)))
same_sorted (x ∷ xs) (y ∷ ys) up vp to back =
    let first : x ≡ y = same_first x xs y ys up vp (cons_cases y ys x (to x (here x xs))) (cons_cases x xs y (back y (here y ys))) in
    let rest : xs ≡ ys = same_sorted xs ys (sorted_tail nat_cmp x xs up) (sorted_tail nat_cmp y ys vp) (rest_subset x xs y ys up first to) (rest_subset y ys x xs vp (sym first) back) in
    cc

pub same_ascending : (xs ys : List ℕ) → IsStrictlyIncreasing xs → IsStrictlyIncreasing ys → ((n : ℕ) → Contains xs n → Contains ys n) → ((n : ℕ) → Contains ys n → Contains xs n) → xs ≡ ys
same_ascending xs ys up vp to back = same_sorted xs ys (sorted_from_strictly_increasing xs up) (sorted_from_strictly_increasing ys vp) to back
