-- How often a number stands in a list, where it stands once, and lists with the same members.
use Rattle.std.proofs.Common.{◌≡◌, ◌≢◌, ◌==◌, ◌+◌, ◌<◌, ◌≤◌, ℕ, Bool, true, false, cond, List, [], ◌∷◌, refl, sym, ap, ◌∙◌, subst, arith}
use Rattle.std.specs.List.{AllByRecursion, sum_by}
use Rattle.std.specs.List.Sorted.{IsPermutation}
use Rattle.std.proofs.lemmas.Bool.Decides.{nat_tests}
use Rattle.std.proofs.lemmas.List.Sorted.{sum_by-IsPermutation}
use Rattle.std.proofs.lemmas.List.Sums.{sum_by-cons}
use Rattle.ps_atom.proofs.MetThreads.{IsRising}

-- how often the number stands in the list
abbrev pub count : ℕ → List ℕ → ℕ
count t [] = 0
count t (x ∷ xs) = cond (x == t) 1 0 + count t xs

pub count_is : (t : ℕ) (xs : List ℕ) → sum_by (λ x. cond (x == t) 1 0) xs ≡ count t xs
count_is t [] = refl
count_is t (x ∷ xs) = sum_by-cons (λ x. cond (x == t) 1 0) x xs ∙ ap (λ n. cond (x == t) 1 0 + n) (count_is t xs)

pub count-permuted : (t : ℕ) (xs ys : List ℕ) → IsPermutation xs ys → count t ys ≡ count t xs
count-permuted t xs ys p = sym (count_is t ys) ∙ (sum_by-IsPermutation (λ x. cond (x == t) 1 0) xs ys p ∙ count_is t xs)

-- no number stands twice
abbrev pub IsOnce : List ℕ → Type 0
IsOnce xs = (t : ℕ) → count t xs ≤ 1

count-above : (t : ℕ) (xs : List ℕ) → AllByRecursion (λ y. t < y) xs → count t xs ≡ 0
count-above t [] h = refl
count-above t (x ∷ xs) h =
    let rest : count t xs ≡ 0 = count-above t xs h.1 in
    let other : (x == t) ≡ false = grind (arith, nat_tests, h.0) in
    rw other (omega (arith, rest))

rest_le : (a b n : ℕ) → a + b ≤ n → b ≤ n
rest_le a b n h = omega arith

no_room : (a b : ℕ) → a ≡ 1 → a + b ≤ 0 → ⊥
no_room a b e h = omega arith

room : (a b : ℕ) → a ≡ 1 → a + b ≤ 1 → b ≤ 0
room a b e h = omega arith

one_more : (a b : ℕ) → a ≤ 1 → b ≡ 0 → a + b ≤ 1
one_more a b h e = omega arith

none_more : (a b : ℕ) → a ≡ 0 → b ≤ 1 → a + b ≤ 1
none_more a b h e = omega arith

itself : (x : ℕ) → let one : ℕ = 1 in cond (x == x) 1 0 ≡ one
itself x = let same : (x == x) ≡ true = grind (arith, nat_tests) in rw same refl

once_more : (t x : ℕ) (xs : List ℕ) → AllByRecursion (λ y. x < y) xs → count t xs ≤ 1 → (b : Bool) → (x == t) ≡ b → cond b 1 0 + count t xs ≤ 1
once_more t x xs above rest true e =
    let s : x ≡ t = grind (arith, nat_tests) in
    one_more 1 (count t xs) (omega arith) (count-above t xs (subst (λ (u : ℕ). AllByRecursion (λ y. u < y) xs) s above))
once_more t x xs above rest false e = none_more 0 (count t xs) refl rest

pub once_from_rising : (xs : List ℕ) → IsRising xs → IsOnce xs
once_from_rising [] r t = omega arith
once_from_rising (x ∷ xs) r t = once_more t x xs r.0 (once_from_rising xs r.1 t) (x == t) refl

pub once_permuted : (xs ys : List ℕ) → IsPermutation xs ys → IsOnce xs → IsOnce ys
once_permuted xs ys p o t = subst (λ (n : ℕ). n ≤ 1) (sym (count-permuted t xs ys p)) (o t)

pub once-tail : (x : ℕ) (xs : List ℕ) → IsOnce (x ∷ xs) → IsOnce xs
once-tail x xs o t = rest_le (cond (x == t) 1 0) (count t xs) 1 (o t)

count_zero-apart : (t : ℕ) (xs : List ℕ) → count t xs ≤ 0 → AllByRecursion (λ y. t ≢ y) xs
count_zero-apart t [] h = tt
count_zero-apart t (x ∷ xs) h =
    ((λ e. no_room (cond (x == t) 1 0) (count t xs) (subst (λ (y : ℕ). let one : ℕ = 1 in cond (y == t) 1 0 ≡ one) e (itself t)) h), count_zero-apart t xs (rest_le (cond (x == t) 1 0) (count t xs) 0 h))

-- the first number isn't among the others
pub once-first : (x : ℕ) (xs : List ℕ) → IsOnce (x ∷ xs) → AllByRecursion (λ y. x ≢ y) xs
once-first x xs o = count_zero-apart x xs (room (cond (x == x) 1 0) (count x xs) (itself x) (o x))
