-- The different numbers of a list: they are its numbers, each once, and so as many as those of any list with the same.
use Rattle.std.proofs.Common.{◌≡◌, ℕ, ◌+◌, ◌<◌, ◌≤◌, ◌==◌, ◌||◌, Bool, true, false, cond, List, [], ◌∷◌, ◌++◌, length, get_or, refl, sym, ap, ◌∙◌, subst, inl, inr, ◌⊎◌, Contains, arith}
use Rattle.std.specs.Prelude.{◌↔◌}
use Rattle.std.specs.List.{list_any, filter, range_with_len}
use Rattle.std.specs.List.Sorted.{IsStrictlyIncreasing}
use Rattle.std.proofs.lemmas.Bool.{both_ways, eqb-true, false_from_ne_true}
use Rattle.std.proofs.lemmas.List.Elements.{Contains-append_left, Contains-append_right, Contains-push_cases}
use Rattle.std.proofs.lemmas.List.FromFn.{length-range_with_len, get_or-range_with_len}
use Rattle.std.proofs.lemmas.List.Kept.{IsStrictlyIncreasing-filter}
use Rattle.ps_atom_text.specs.Forms.{different}
use Rattle.ps_atom_text.specs.inner.Met.{met_with, met_with_all}
use Rattle.ps_config.proofs.Bounded.{once_ascending}
use Rattle.ps_config.proofs.Once.{IsOnce, no_longer}
use Rattle.ps_list.proofs.Mapped.{kept, from_kept}
use Rattle.ps_list.proofs.Members.{nothing, cons_cases, here, there}
use Rattle.ps_list.proofs.Numbers.{has_from, has_to}

-- whether the list has the number
abbrev pub has : List ℕ → ℕ → Bool
has xs n = list_any (λ m. m == n) xs

lacks_from : (xs : List ℕ) (n : ℕ) → has xs n ≡ false → ¬ Contains xs n
lacks_from xs n lacks h = both_ways (has xs n) lacks (has_to xs n h)

lacks_to : (xs : List ℕ) (n : ℕ) → ¬ Contains xs n → has xs n ≡ false
lacks_to xs n lacks = false_from_ne_true (has xs n) (λ h. lacks (has_from xs n h))

-- ---- its members

pub different_within : (xs : List ℕ) (t : ℕ) → Contains (different xs) t → Contains xs t
different_within [] t h = h
different_within (x ∷ xs) t h = by_test (has xs x) (λ later. different_within xs t later) h
  where
    by_test : (b : Bool) → (Contains (different xs) t → Contains xs t) → Contains (cond b (different xs) (x ∷ different xs)) t → Contains (x ∷ xs) t
    by_test true rest h = there x xs t (rest h)
    by_test false rest h = elim (cons_cases x (different xs) t h) [
      | inl is ↦ subst (λ (y : ℕ). Contains (x ∷ xs) y) is (here x xs)
      | inr later ↦ there x xs t (rest later)
    ]

pub within_different : (xs : List ℕ) (t : ℕ) → Contains xs t → Contains (different xs) t
within_different [] t h = h
within_different (x ∷ xs) t h = by_test (has xs x) refl (λ later. within_different xs t later) (cons_cases x xs t h)
  where
    by_test : (b : Bool) → has xs x ≡ b → (Contains xs t → Contains (different xs) t) → (x ≡ t) ⊎ Contains xs t → Contains (cond b (different xs) (x ∷ different xs)) t
    by_test true e rest (inl is) = rest (subst (λ (y : ℕ). Contains xs y) is (has_from xs x e))
    by_test true e rest (inr later) = rest later
    by_test false e rest (inl is) = subst (λ (y : ℕ). Contains (x ∷ different xs) y) is (here x (different xs))
    by_test false e rest (inr later) = there x (different xs) t (rest later)

pub different_once : (xs : List ℕ) → IsOnce (different xs)
different_once [] = tt
different_once (x ∷ xs) = by_test (has xs x) refl (different_once xs)
  where
    by_test : (b : Bool) → has xs x ≡ b → IsOnce (different xs) → IsOnce (cond b (different xs) (x ∷ different xs))
    by_test true e rest = rest
    by_test false e rest = (λ h. lacks_from xs x e (different_within xs x h), rest)

-- ---- how many there are

pub fewer_different : (xs ys : List ℕ) → ((t : ℕ) → Contains xs t → Contains ys t) → length (different xs) ≤ length (different ys)
fewer_different xs ys sub = no_longer (different xs) (different ys) (different_once xs) (λ t h. within_different ys t (sub t (different_within xs t h)))

pub as_many_different : (xs ys : List ℕ) → ((t : ℕ) → Contains xs t ↔ Contains ys t) → length (different xs) ≡ length (different ys)
as_many_different xs ys same =
    let a : length (different xs) ≤ length (different ys) = fewer_different xs ys (λ t h. (same t).0 h) in
    let b : length (different ys) ≤ length (different xs) = fewer_different ys xs (λ t h. (same t).1 h) in
    omega (arith, a, b)

-- ---- they stand in ascending order in some list

abbrev total : List ℕ → ℕ
total [] = 0
total (x ∷ xs) = x + total xs

below_total : (xs : List ℕ) (t : ℕ) → Contains xs t → t < total xs + 1
below_total [] t h = absurd (nothing t h)
below_total (x ∷ xs) t h = elim (cons_cases x xs t h) [
  | inl is ↦ omega (arith, is)
  | inr later ↦ (let lt : t < total xs + 1 = below_total xs t later in omega (arith, lt))
]

range_increasing : (n : ℕ) → IsStrictlyIncreasing (range_with_len 0 n)
range_increasing n k h =
    let long : length (range_with_len 0 n) ≡ n = length-range_with_len 0 n in
    rw (get_or-range_with_len 0 n k 0 (omega (arith, h, long)), get_or-range_with_len 0 n (k + 1) 0 (omega (arith, h, long))) (omega arith)

in_range : (n t : ℕ) → t < n → Contains (range_with_len 0 n) t
in_range n t lt =
    let long : length (range_with_len 0 n) ≡ n = length-range_with_len 0 n in
    let inside : t < length (range_with_len 0 n) = omega (arith, lt, long) in
    let is : get_or (range_with_len 0 n) t t ≡ 0 + t = get_or-range_with_len 0 n t t lt in
    let none : 0 + t ≡ t = omega arith in
    (t, inside, is ∙ none)

-- the numbers in ascending order, each once
abbrev pub listing : List ℕ → List ℕ
listing xs = filter (λ t. has xs t) (range_with_len 0 (total xs + 1))

pub listing_increases : (xs : List ℕ) → IsStrictlyIncreasing (listing xs)
listing_increases xs = IsStrictlyIncreasing-filter (λ (t : ℕ). has xs t) (range_with_len 0 (total xs + 1)) (range_increasing (total xs + 1))

pub listing_has : (xs : List ℕ) (t : ℕ) → Contains (listing xs) t ↔ Contains xs t
listing_has xs t = (
  λ h. has_from xs t (from_kept (λ (u : ℕ). has xs u) (range_with_len 0 (total xs + 1)) t h).1,
  λ h. kept (λ (u : ℕ). has xs u) (range_with_len 0 (total xs + 1)) t (in_range (total xs + 1) t (below_total xs t h)) (has_to xs t h),
)

-- an ascending list with the same numbers has as many
pub ascending_many : (xs ys : List ℕ) → IsStrictlyIncreasing ys → ((t : ℕ) → Contains ys t ↔ Contains xs t) → length ys ≡ length (different xs)
ascending_many xs ys up same =
    let a : length ys ≤ length (different xs) = no_longer ys (different xs) (once_ascending ys up) (λ t h. within_different xs t ((same t).0 h)) in
    let b : length (different xs) ≤ length ys = no_longer (different xs) ys (different_once xs) (λ t h. (same t).1 (different_within xs t h)) in
    omega (arith, a, b)

-- ---- threads that are met one by one

abbrev pub Once : List ℕ → Type 0
Once met = different met ≡ met

different_push : (xs : List ℕ) (t : ℕ) → ¬ Contains xs t → different (xs ++ t ∷ []) ≡ different xs ++ t ∷ []
different_push [] t lacks = refl
different_push (x ∷ xs) t lacks =
    let rest : different (xs ++ t ∷ []) ≡ different xs ++ t ∷ [] = different_push xs t (λ h. lacks (there x xs t h)) in
    rw (same_test, rest) (by_test (has xs x))
  where
    other : (t == x) ≡ false
    other = false_from_ne_true (t == x) (λ e. lacks (subst (λ (y : ℕ). Contains (x ∷ xs) y) (sym (eqb-true t x e)) (here x xs)))

    has_push : (ys : List ℕ) → has (ys ++ t ∷ []) x ≡ has ys x
    has_push [] = rw other refl
    has_push (y ∷ ys) = ap (λ (b : Bool). (y == x) || b) (has_push ys)

    same_test : has (xs ++ t ∷ []) x ≡ has xs x
    same_test = has_push xs

    by_test : (b : Bool) → cond b (different xs ++ t ∷ []) (x ∷ (different xs ++ t ∷ [])) ≡ cond b (different xs) (x ∷ different xs) ++ t ∷ []
    by_test true = refl
    by_test false = refl

pub met_once : (met : List ℕ) (t : ℕ) → Once met → Once (met_with met t)
met_once met t once = by_test (has met t) refl
  where
    by_test : (b : Bool) → has met t ≡ b → Once (cond b met (met ++ t ∷ []))
    by_test true e = once
    by_test false e = different_push met t (lacks_from met t e) ∙ ap (λ (ys : List ℕ). ys ++ t ∷ []) once

pub met_has : (met : List ℕ) (t u : ℕ) → Contains (met_with met t) u ↔ (Contains met u ⊎ (t ≡ u))
met_has met t u = by_test (has met t) refl
  where
    by_test : (b : Bool) → has met t ≡ b → Contains (cond b met (met ++ t ∷ [])) u ↔ (Contains met u ⊎ (t ≡ u))
    by_test true e = (λ h. inl h, λ h. elim h [ inl old ↦ old | inr is ↦ subst (λ (y : ℕ). Contains met y) is (has_from met t e) ])
    by_test false e = (
      λ h. Contains-push_cases met t u h,
      λ h. elim h [ inl old ↦ Contains-append_left met (t ∷ []) u old | inr is ↦ subst (λ (y : ℕ). Contains (met ++ t ∷ []) y) is (Contains-append_right met (t ∷ []) t (here t [])) ],
    )

pub met_all_once : (ts met : List ℕ) → Once met → Once (met_with_all met ts)
met_all_once [] met once = once
met_all_once (t ∷ ts) met once = met_all_once ts (met_with met t) (met_once met t once)

pub met_all_has : (ts met : List ℕ) (u : ℕ) → Contains (met_with_all met ts) u ↔ (Contains met u ⊎ Contains ts u)
met_all_has [] met u = (λ h. inl h, λ h. elim h [ inl old ↦ old | inr none ↦ absurd (nothing u none) ])
met_all_has (t ∷ ts) met u =
    let rest : Contains (met_with_all (met_with met t) ts) u ↔ (Contains (met_with met t) u ⊎ Contains ts u) = met_all_has ts (met_with met t) u in
    let first : Contains (met_with met t) u ↔ (Contains met u ⊎ (t ≡ u)) = met_has met t u in (
      λ h. elim (rest.0 h) [
        | inl some ↦ elim (first.0 some) [ inl old ↦ inl old | inr is ↦ inr (subst (λ (y : ℕ). Contains (t ∷ ts) y) is (here t ts)) ]
        | inr later ↦ inr (there t ts u later)
      ],
      λ h. elim h [
        | inl old ↦ rest.1 (inl (first.1 (inl old)))
        | inr new ↦ elim (cons_cases t ts u new) [ inl is ↦ rest.1 (inl (first.1 (inr is))) | inr later ↦ rest.1 (inr later) ]
      ],
    )
