-- The least of some numbers from one on.
use Rattle.std.proofs.Common.{◌≡◌, ◌<◌, ◌≤◌, ◌+◌, ℕ, Bool, true, false, nat_lt, ◌==◌, List, [], ◌∷◌, ◌++◌, length, take, map, get_or, min, refl, sym, subst, inl, inr, ◌⊎◌, Contains, Option, Some, None, if◌then◌else◌, ltb-true, ltb-false, arith}
use Rattle.std.specs.List.Sorted.{IsStrictlyIncreasing}
use Rattle.std.proofs.lemmas.Bool.{cases_lt, eqb-true, eq-eqb, false≢true}
use Rattle.std.proofs.lemmas.List.{take_more, map_more, flat_map_more, get_or_append_left, length_push, get_or_push}
use Rattle.std.proofs.lemmas.List.Elements.{Contains-get_or, Contains-append_left, Contains-append_right, Contains-append_cases, Contains-push, Contains-push_cases}
use Rattle.ps_atom.specs.Atoms.{threads_of}
use Rattle.ps_atom.specs.declared.atom.Atom.{Atom}
use Rattle.ps_list.proofs.Members.{nothing, cons_cases, here}
use Rattle.ps_config.specs.Configurations.{Configuration, threads_at}
use Rattle.ps_config.specs.Forms.{AreThreads, HasThreadCount}
use Rattle.ps_config.specs.Next.{IsNextThread}
use Rattle.ps_config.specs.inner.Best.{least_of, better_of}

pub next_nothing : (from : ℕ) → IsNextThread [] from None
next_nothing from n h = absurd (nothing n h)

pub next_none_left : (xs ys : List ℕ) (from : ℕ) (o : Option ℕ) → IsNextThread xs from None → IsNextThread ys from o → IsNextThread (xs ++ ys) from o
next_none_left xs ys from None h k = λ n c. elim (Contains-append_cases xs ys n c) [ inl first ↦ h n first | inr later ↦ k n later ]
next_none_left xs ys from (Some m) h k = (
  Contains-append_right xs ys m k.0,
  k.1,
  λ n c above. elim (Contains-append_cases xs ys n c) [
    | inl first ↦ (let l : n < from = h n first in absurd (omega (arith, l, above)))
    | inr later ↦ k.2 n later above
  ],
)

pub next_none_right : (xs ys : List ℕ) (from m : ℕ) → IsNextThread xs from (Some m) → IsNextThread ys from None → IsNextThread (xs ++ ys) from (Some m)
next_none_right xs ys from m h k = (
  Contains-append_left xs ys m h.0,
  h.1,
  λ n c above. elim (Contains-append_cases xs ys n c) [
    | inl first ↦ h.2 n first above
    | inr later ↦ (let l : n < from = k n later in absurd (omega (arith, l, above)))
  ],
)

min_cases : (a b : ℕ) → ((min a b ≡ a) × (a ≤ b)) ⊎ ((min a b ≡ b) × (b ≤ a))
min_cases a b = elim (cases_lt a b) [ inl h ↦ inl (omega (arith, h), omega (arith, h)) | inr h ↦ inr (omega (arith, h), h) ]

pub next_min : (xs ys : List ℕ) (from a b : ℕ) → IsNextThread xs from (Some a) → IsNextThread ys from (Some b) → IsNextThread (xs ++ ys) from (Some (min a b))
next_min xs ys from a b h k = elim (min_cases a b) [
  | inl w ↦ subst (λ (m : ℕ). IsNextThread (xs ++ ys) from (Some m)) (sym w.0) (
    Contains-append_left xs ys a h.0,
    h.1,
    λ n c above. elim (Contains-append_cases xs ys n c) [
      | inl first ↦ h.2 n first above
      | inr later ↦ (let l : b ≤ n = k.2 n later above in let g : a ≤ b = w.1 in omega (arith, l, g))
    ],
  )
  | inr w ↦ subst (λ (m : ℕ). IsNextThread (xs ++ ys) from (Some m)) (sym w.0) (
    Contains-append_right xs ys b k.0,
    k.1,
    λ n c above. elim (Contains-append_cases xs ys n c) [
      | inl first ↦ (let l : a ≤ n = h.2 n first above in let g : b ≤ a = w.1 in omega (arith, l, g))
      | inr later ↦ k.2 n later above
    ],
  )
]

pub next_least : (xs ys : List ℕ) (from : ℕ) (a b : Option ℕ) → IsNextThread xs from a → IsNextThread ys from b → IsNextThread (xs ++ ys) from (least_of a b)
next_least xs ys from None b h k = next_none_left xs ys from b h k
next_least xs ys from (Some a) None h k = next_none_right xs ys from a h k
next_least xs ys from (Some a) (Some b) h k = next_min xs ys from a b h k

-- one more number, below the bound or not
pub next_skip : (xs : List ℕ) (from x : ℕ) (o : Option ℕ) → x < from → IsNextThread xs from o → IsNextThread (xs ++ x ∷ []) from o
next_skip xs from x None low h = λ n c. elim (Contains-push_cases xs x n c) [ inl old ↦ h n old | inr is ↦ subst (λ (m : ℕ). m < from) is low ]
next_skip xs from x (Some m) low h = (
  Contains-append_left xs (x ∷ []) m h.0,
  h.1,
  λ n c above. elim (Contains-push_cases xs x n c) [
    | inl old ↦ h.2 n old above
    | inr is ↦ absurd (omega (arith, low, above, is))
  ],
)

pub next_one : (from x : ℕ) → from ≤ x → IsNextThread (x ∷ []) from (Some x)
next_one from x h = (here x [], h, λ n c above. elim (cons_cases x [] n c) [ inl is ↦ omega (arith, is) | inr none ↦ absurd (nothing n none) ])

pub next_better : (xs : List ℕ) (from x : ℕ) (o : Option ℕ) → IsNextThread xs from o → IsNextThread (xs ++ x ∷ []) from (better_of o x from)
next_better xs from x o h = at (nat_lt x from) refl
  where
    at : (b : Bool) → nat_lt x from ≡ b → IsNextThread (xs ++ x ∷ []) from (if b then o else least_of o (Some x))
    at true e = next_skip xs from x o (ltb-true x from e) h
    at false e = next_least xs (x ∷ []) from o (Some x) h (next_one from x (ltb-false x from e))

-- a loop's step
pub next_number_step : (xs : List ℕ) (i from d : ℕ) (o : Option ℕ) → i < length xs → IsNextThread (take i xs) from o → IsNextThread (take (i + 1) xs) from (better_of o (get_or xs i d) from)
next_number_step xs i from d o inside h = rw (take_more xs i d inside) (next_better (take i xs) from (get_or xs i d) o h)

pub next_place_step : (at : List (ℕ × ℕ)) (i from : ℕ) (d : ℕ × ℕ) (o : Option ℕ) → i < length at → IsNextThread (map (λ (p : ℕ × ℕ). p.0) (take i at)) from o
    → IsNextThread (map (λ (p : ℕ × ℕ). p.0) (take (i + 1) at)) from (better_of o ((get_or at i d).0) from)
next_place_step at i from d o inside h =
    rw (map_more (λ (p : ℕ × ℕ). p.0) at i d inside) (next_better (map (λ (p : ℕ × ℕ). p.0) (take i at)) from ((get_or at i d).0) o h)

pub next_atom_step : (firsts : List ℕ) (atoms : List Atom) (i from : ℕ) (d : Atom) (a b : Option ℕ) → i < length atoms → IsNextThread (firsts ++ threads_of (take i atoms)) from a → IsNextThread ((get_or atoms i d).threads) from b
    → IsNextThread (firsts ++ threads_of (take (i + 1) atoms)) from (least_of a b)
next_atom_step firsts atoms i from d a b inside h k =
    rw (take_more atoms i d inside, ← flat_map_more (λ (q : Atom). q.threads) firsts (take i atoms) (get_or atoms i d)) (next_least (firsts ++ threads_of (take i atoms)) ((get_or atoms i d).threads) from a b h k)

-- ---- the threads, ascending

-- the list has, ascending, the numbers of the other that are below the bound
pub record Listed (xs : List ℕ) (from : ℕ) (list : List ℕ) : Type 0 where
  pub ascend : IsStrictlyIncreasing list
  pub below : (n : ℕ) → Contains list n → Contains xs n × (n < from)
  pub every : (n : ℕ) → Contains xs n → n < from → Contains list n

pub listed_nothing : (xs : List ℕ) (list : List ℕ) → list ≡ [] → Listed xs 0 list
listed_nothing xs list e = subst (λ (ys : List ℕ). Listed xs 0 ys) (sym e) (record {
  ascend = λ k h. absurd (omega (arith, h));
  below = λ n c. absurd (nothing n c);
  every = λ n c h. absurd (omega (arith, h));
})

last_below : (list : List ℕ) (m : ℕ) → IsStrictlyIncreasing list → ((n : ℕ) → Contains list n → n < m) → IsStrictlyIncreasing (list ++ m ∷ [])
last_below list m up below k h = elim (cases_lt (k + 1) (length list)) [
  | inl inside ↦
      rw (get_or_append_left list (m ∷ []) 0 k (omega (arith, inside)), get_or_append_left list (m ∷ []) 0 (k + 1) inside) (up k inside)
  | inr last ↦
      let long : length (list ++ m ∷ []) ≡ length list + 1 = length_push list m in
      let at_end : length list ≡ k + 1 = omega (arith, last, long, h) in
      let inside : k < length list = omega (arith, at_end) in
      rw (get_or_append_left list (m ∷ []) 0 k inside, get_or_push list m 0 (k + 1) at_end)
      (below (get_or list k 0) (Contains-get_or list k 0 inside))
]

pub listed_more : (xs : List ℕ) (from m : ℕ) (list later : List ℕ) → Listed xs from list → IsNextThread xs from (Some m) → later ≡ list ++ m ∷ [] → Listed xs (m + 1) later
listed_more xs from m list later l next e = subst (λ (ys : List ℕ). Listed xs (m + 1) ys) (sym e) (record {
  ascend = last_below list m l.ascend (λ n c. (let b : n < from = (l.below n c).1 in let a : from ≤ m = next.1 in omega (arith, a, b)));
  below = λ n c. elim (Contains-push_cases list m n c) [
    | inl old ↦ ((l.below n old).0, (let b : n < from = (l.below n old).1 in let a : from ≤ m = next.1 in omega (arith, a, b)))
    | inr is ↦ (subst (λ (k : ℕ). Contains xs k) is next.0, omega (arith, is))
  ];
  every = λ n c h. elim (cases_lt n from) [
    | inl low ↦ Contains-append_left list (m ∷ []) n (l.every n c low)
    | inr high ↦ (let a : m ≤ n = next.2 n c high in let same : m ≡ n = omega (arith, a, h) in subst (λ (k : ℕ). Contains (list ++ m ∷ []) k) same (Contains-push list m))
  ];
})

pub listed_all : (c : Configuration) (from : ℕ) (list : List ℕ) → Listed (threads_at c) from list → IsNextThread (threads_at c) from None → AreThreads c list
listed_all c from list l next = record { ascend = l.ascend; occurring = λ t. ((λ h. (l.below t h).0), (λ h. l.every t h (next t h))) }

-- the next of the threads that are listed is the next of those that occur
pub next_listed : (c : Configuration) (threads : List ℕ) (from : ℕ) (o : Option ℕ) → AreThreads c threads → IsNextThread threads from o → IsNextThread (threads_at c) from o
next_listed c threads from None are none = λ n h. none n ((are.occurring n).1 h)
next_listed c threads from (Some m) are next = ((are.occurring m).0 next.0, next.1, λ n h above. next.2 n ((are.occurring n).1 h) above)

-- the next number from one on is this one exactly where it is among them
pub next_is : (xs : List ℕ) (n m : ℕ) → IsNextThread xs n (Some m) → ((m == n) ≡ true → Contains xs n) × (Contains xs n → (m == n) ≡ true)
next_is xs n m h = (
  (λ e. subst (λ (k : ℕ). Contains xs k) (eqb-true m n e) h.0),
  (λ c. (let le : m ≤ n = h.2 n c (omega arith) in let ge : n ≤ m = h.1 in let same : m ≡ n = omega (arith, le, ge) in eq-eqb m n same)),
)

pub next_isnt : (xs : List ℕ) (n : ℕ) → IsNextThread xs n None → (false ≡ true → Contains xs n) × (Contains xs n → false ≡ true)
next_isnt xs n h = ((λ e. absurd (false≢true e)), (λ c. (let f : n < n = h n c in let g : ⊥ = omega (arith, f) in absurd g)))

-- ---- how many there are

-- so many of the numbers are below the bound
abbrev pub CountedBelow : List ℕ → ℕ → ℕ → Type 0
CountedBelow xs from count = (list : List ℕ) × Listed xs from list × (length list ≡ count)

pub counted_more : (xs : List ℕ) (from m count : ℕ) → CountedBelow xs from count → IsNextThread xs from (Some m) → CountedBelow xs (m + 1) (count + 1)
counted_more xs from m count (list, listed, long) next = (list ++ m ∷ [], listed_more xs from m list (list ++ m ∷ []) listed next refl, (let more : length (list ++ m ∷ []) ≡ length list + 1 = length_push list m in omega (arith, long, more)))

pub counted_all : (c : Configuration) (from count : ℕ) → CountedBelow (threads_at c) from count → IsNextThread (threads_at c) from None → HasThreadCount c count
counted_all c from count (list, listed, long) next = (list, listed_all c from list listed next, long)
