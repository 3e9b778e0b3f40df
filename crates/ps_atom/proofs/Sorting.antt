-- Lists with the same members, and sorted lists of like lists of pairs.
use Rattle.std.proofs.Common.{◌≡◌, ◌⊎◌, ◌==◌, ◌+◌, ◌≤◌, ℕ, ℤ, Bool, true, false, cond, List, [], ◌∷◌, Contains, refl, sym, ap, ap₂, ◌∙◌, subst, inl, inr, suc, zero, arith}
use Rattle.std.specs.List.{AllByRecursion, remove, sum_by}
use Rattle.std.specs.List.Sorted.{IsPermutation}
use Rattle.std.specs.Ordering.{nat_cmp, int_cmp, ordering_reverse, is_eq, is_gt}
use Rattle.std.specs.declared.cmp.Ordering.{Ordering}
use Rattle.std.specs.declared.cmp.Ordering.TheVariants.{Less, Equal, Greater}
use Rattle.std.proofs.lemmas.Bool.{false≢true, true≢false}
use Rattle.std.proofs.lemmas.Bool.Decides.{nat_tests}
use Rattle.std.proofs.lemmas.Cmp.{int_ranked, tied_itself}
use Rattle.std.proofs.lemmas.List.Sorted.{IsPermutation-refl, IsPermutation-cons, IsPermutation-remove, IsPermutation-sym, IsPermutation-trans, sum_by-IsPermutation}
use Rattle.std.proofs.lemmas.List.Sums.{sum_by-cons}
use Rattle.ps_list.proofs.Members.{nothing, cons_cases, here, there}
use Rattle.ps_atom.specs.Threads.{pair_cmp, pairs_cmp}
use Rattle.ps_atom.proofs.Chains.{IsChain}
use Rattle.ps_atom.proofs.Counts.{count, count-permuted, IsOnce}
use Rattle.ps_atom.proofs.Orders.{nat_cmp-Equal, then-Equal, pairs_total}

-- ---- lists of numbers with the same members, each once
contains_by : (t x : ℕ) (xs : List ℕ) → (1 ≤ count t xs → Contains xs t) → 1 ≤ cond (x == t) 1 0 + count t xs → (b : Bool) → (x == t) ≡ b → Contains (x ∷ xs) t
contains_by t x xs f h true e = let is : x ≡ t = grind (arith, nat_tests) in subst (λ (u : ℕ). Contains (x ∷ xs) u) is (here x xs)
contains_by t x xs f h false e =
    let none : cond (x == t) 1 0 ≡ cond false 1 0 = ap (λ (b : Bool). cond b 1 0) e in
    there x xs t (f (less_by (cond (x == t) 1 0) (count t xs) none h))
  where
    less_by : (a n : ℕ) → a ≡ 0 → 1 ≤ a + n → 1 ≤ n
    less_by a n z l = omega arith

contains_counted : (t : ℕ) (xs : List ℕ) → 1 ≤ count t xs → Contains xs t
contains_counted t [] h = absurd (omega arith)
contains_counted t (x ∷ xs) h = contains_by t x xs (contains_counted t xs) h (x == t) refl

more : (a n : ℕ) → 1 ≤ n → 1 ≤ a + n
more a n h = omega arith

counted_here : (t : ℕ) (n : ℕ) → 1 ≤ cond (t == t) 1 0 + n
counted_here t n = let e : (t == t) ≡ true = grind (arith, nat_tests) in rw e (omega arith)

counted : (t : ℕ) (xs : List ℕ) → Contains xs t → 1 ≤ count t xs
counted t [] m = absurd (nothing t m)
counted t (x ∷ xs) m = by_case (counted t xs) (cons_cases x xs t m)
  where
    by_case : (Contains xs t → 1 ≤ count t xs) → (x ≡ t) ⊎ Contains xs t → 1 ≤ cond (x == t) 1 0 + count t xs
    by_case f (inl e) = subst (λ (u : ℕ). 1 ≤ cond (u == t) 1 0 + count t xs) (sym e) (counted_here t (count t xs))
    by_case f (inr r) = more (cond (x == t) 1 0) (count t xs) (f r)

both_or_none : (m n : ℕ) → m ≤ 1 → n ≤ 1 → (1 ≤ m → 1 ≤ n) → (1 ≤ n → 1 ≤ m) → m ≡ n
both_or_none zero zero h k f g = refl
both_or_none zero (suc n) h k f g = absurd (omega (arith, g (omega arith)))
both_or_none (suc m) zero h k f g = absurd (omega (arith, f (omega arith)))
both_or_none (suc m) (suc n) h k f g = omega (arith, h, k)

pub same_counts : (xs ys : List ℕ) → IsOnce xs → IsOnce ys → ((t : ℕ) → Contains xs t → Contains ys t) → ((t : ℕ) → Contains ys t → Contains xs t) → (t : ℕ) → count t xs ≡ count t ys
same_counts xs ys o p f g t =
    both_or_none (count t xs) (count t ys) (o t) (p t) (λ h. counted t ys (f t (contains_counted t xs h))) (λ h. counted t xs (g t (contains_counted t ys h)))

rest_same : (a m n : ℕ) → a + m ≡ a + n → m ≡ n
rest_same a m n e = omega arith

pub permuted_by_counts : (xs ys : List ℕ) → ((t : ℕ) → count t xs ≡ count t ys) → IsPermutation xs ys
permuted_by_counts [] [] e = IsPermutation-refl []
permuted_by_counts [] (y ∷ ys) e = absurd (let h : 1 ≤ 0 = subst (λ (n : ℕ). 1 ≤ n) (sym (e y)) (counted_here y (count y ys)) in omega (arith, h))
permuted_by_counts (x ∷ xs) ys e =
    let m : Contains ys x = contains_counted x ys (subst (λ (n : ℕ). 1 ≤ n) (e x) (counted_here x (count x xs))) in
    let zs = remove ys m.0 in
    let p : IsPermutation ys (x ∷ zs) = IsPermutation-remove ys m.0 x m.1 (sym m.2) in
    let rest : (t : ℕ) → count t xs ≡ count t zs = (λ t. rest_same (cond (x == t) 1 0) (count t xs) (count t zs) (e t ∙ sym (count-permuted t ys (x ∷ zs) p))) in
    IsPermutation-trans (x ∷ xs) (x ∷ zs) ys (IsPermutation-cons x xs zs (permuted_by_counts xs zs rest)) (IsPermutation-sym ys (x ∷ zs) p)

-- ---- sorted lists of lists of pairs
int_cmp-Equal : (x y : ℤ) → int_cmp x y ≡ Equal → x ≡ y
int_cmp-Equal x y e = int_ranked x y Equal (sym e)

pair_cmp-Equal : (p q : ℕ × ℤ) → pair_cmp p q ≡ Equal → p ≡ q
pair_cmp-Equal p q e =
    let both = then-Equal (nat_cmp p.0 q.0) (int_cmp p.1 q.1) e in
    ap₂ (λ (n : ℕ) (z : ℤ). (n, z)) (nat_cmp-Equal p.0 q.0 both.0) (int_cmp-Equal p.1 q.1 both.1)

pub pairs_cmp-Equal : (ps qs : List (ℕ × ℤ)) → pairs_cmp ps qs ≡ Equal → ps ≡ qs
pairs_cmp-Equal [] [] e = refl
pairs_cmp-Equal [] (q ∷ qs) e = absurd (let f : ⊥ = cc in f)
pairs_cmp-Equal (p ∷ ps) [] e = absurd (let f : ⊥ = cc in f)
pairs_cmp-Equal (p ∷ ps) (q ∷ qs) e =
    let both = then-Equal (pair_cmp p q) (pairs_cmp ps qs) e in
    ap₂ (λ (x : ℕ × ℤ) (xs : List (ℕ × ℤ)). x ∷ xs) (pair_cmp-Equal p q both.0) (pairs_cmp-Equal ps qs both.1)

abbrev pub Own : Type 0
Own = List (ℕ × ℤ)

-- the first doesn't come after the second
abbrev pub IsUpTo : Own → Own → Type 0
IsUpTo a b = is_gt (pairs_cmp a b) ≡ false

-- how often a list of pairs stands among lists
abbrev own_count : Own → List Own → ℕ
own_count k [] = 0
own_count k (x ∷ xs) = cond (is_eq (pairs_cmp x k)) 1 0 + own_count k xs

own_count_is : (k : Own) (xs : List Own) → sum_by (λ x. cond (is_eq (pairs_cmp x k)) 1 0) xs ≡ own_count k xs
own_count_is k [] = refl
own_count_is k (x ∷ xs) = sum_by-cons (λ x. cond (is_eq (pairs_cmp x k)) 1 0) x xs ∙ ap (λ n. cond (is_eq (pairs_cmp x k)) 1 0 + n) (own_count_is k xs)

own_count-permuted : (k : Own) (xs ys : List Own) → IsPermutation xs ys → own_count k ys ≡ own_count k xs
own_count-permuted k xs ys p = sym (own_count_is k ys) ∙ (sum_by-IsPermutation (λ x. cond (is_eq (pairs_cmp x k)) 1 0) xs ys p ∙ own_count_is k xs)

own_here : (k : Own) (n : ℕ) → 1 ≤ cond (is_eq (pairs_cmp k k)) 1 0 + n
own_here k n = let e : pairs_cmp k k ≡ Equal = tied_itself pairs_total k in rw e (omega arith)

eq_true : (o : Ordering) → is_eq o ≡ true → o ≡ Equal
eq_true Less e = absurd (false≢true e)
eq_true Equal e = refl
eq_true Greater e = absurd (false≢true e)

-- what holds of each of the lists holds of one that is counted
at_counted : (P : Own → Type 0) (k : Own) (xs : List Own) → AllByRecursion P xs → 1 ≤ own_count k xs → P k
at_counted P k [] a h = absurd (omega arith)
at_counted P k (x ∷ xs) a h = by_test (at_counted P k xs a.1) (is_eq (pairs_cmp x k)) refl h
  where
    by_test : (1 ≤ own_count k xs → P k) → (b : Bool) → is_eq (pairs_cmp x k) ≡ b → 1 ≤ cond b 1 0 + own_count k xs → P k
    by_test f true e g = subst P (pairs_cmp-Equal x k (eq_true (pairs_cmp x k) e)) a.0
    by_test f false e g = f (omega (arith, g))

up_to_itself : (k : Own) → IsUpTo k k
up_to_itself k = ap is_gt (tied_itself pairs_total k)

both_up_to : (a b : Own) → IsUpTo a b → IsUpTo b a → (o : Ordering) → pairs_cmp a b ≡ o → a ≡ b
both_up_to a b h g Less e = absurd (let back : pairs_cmp b a ≡ Greater = pairs_total.antisymm b a ∙ ap ordering_reverse e in true≢false (sym (ap is_gt back) ∙ g))
both_up_to a b h g Equal e = pairs_cmp-Equal a b e
both_up_to a b h g Greater e = absurd (true≢false (sym (ap is_gt e) ∙ h))

pub sorted_by_counts : (xs ys : List Own) → IsChain IsUpTo xs → IsChain IsUpTo ys → ((k : Own) → own_count k xs ≡ own_count k ys) → xs ≡ ys
sorted_by_counts [] [] c d e = refl
sorted_by_counts [] (y ∷ ys) c d e = absurd (let h : 1 ≤ 0 = subst (λ (n : ℕ). 1 ≤ n) (sym (e y)) (own_here y (own_count y ys)) in omega (arith, h))
sorted_by_counts (x ∷ xs) [] c d e = absurd (let h : 1 ≤ 0 = subst (λ (n : ℕ). 1 ≤ n) (e x) (own_here x (own_count x xs)) in omega (arith, h))
sorted_by_counts (x ∷ xs) (y ∷ ys) c d e =
    let y_first : IsUpTo y x = at_counted (IsUpTo y) x (y ∷ ys) (up_to_itself y, d.0) (subst (λ (n : ℕ). 1 ≤ n) (e x) (own_here x (own_count x xs))) in
    let x_first : IsUpTo x y = at_counted (IsUpTo x) y (x ∷ xs) (up_to_itself x, c.0) (subst (λ (n : ℕ). 1 ≤ n) (sym (e y)) (own_here y (own_count y ys))) in
    let first : x ≡ y = both_up_to x y x_first y_first (pairs_cmp x y) refl in
    let rest : (k : Own) → own_count k xs ≡ own_count k ys = (λ k. rest_same (cond (is_eq (pairs_cmp x k)) 1 0) (own_count k xs) (own_count k ys) (e k ∙ ap (λ (z : Own). cond (is_eq (pairs_cmp z k)) 1 0 + own_count k ys) (sym first))) in
    ap₂ (λ (z : Own) (zs : List Own). z ∷ zs) first (sorted_by_counts xs ys c.1 d.1 rest)

pub sorted_permuted : (xs ys : List Own) → IsChain IsUpTo xs → IsChain IsUpTo ys → IsPermutation xs ys → xs ≡ ys
sorted_permuted xs ys c d p = sorted_by_counts xs ys c d (λ k. sym (own_count-permuted k xs ys p))
