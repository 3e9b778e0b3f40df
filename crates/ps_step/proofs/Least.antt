-- Every hitting set has a least one among its subsets.
use Rattle.std.proofs.Common.{◌≡◌, ◌≢◌, Bool, true, false, List, [], ◌∷◌, refl, sym, subst, inl, inr, ◌⊎◌, Contains}
use Rattle.std.specs.List.{filter}
use Rattle.std.proofs.lemmas.Bool.{false≢true}
use Rattle.ps_list.proofs.Members.{nothing, cons_cases, here, there}
use Rattle.ps_list.proofs.Mapped.{kept, from_kept}
use Rattle.ps_demand.specs.Hitting.{MeetsSet, HitsAll, IsLeastHit}

-- ---- what can be told

abbrev pub Tells : Type 0 → Type 0
Tells A = (a b : A) → (a ≡ b) ⊎ (a ≢ b)

pub has_or_not : {A : Type 0} → Tells A → (xs : List A) (q : A) → Contains xs q ⊎ (¬ Contains xs q)
has_or_not tells [] q = inr (λ h. nothing q h)
has_or_not {A} tells (x ∷ xs) q = elim (tells x q) [
  | inl is ↦ inl (subst (λ (y : A). Contains (x ∷ xs) y) is (here x xs))
  | inr other ↦ elim (has_or_not tells xs q) [
    | inl later ↦ inl (there x xs q later)
    | inr lacks ↦ inr (λ h. elim (cons_cases x xs q h) [ inl is ↦ other is | inr later ↦ lacks later ])
  ]
]

meets_or_not : {A : Type 0} → Tells A → (xs set : List A) → MeetsSet xs set ⊎ (¬ MeetsSet xs set)
meets_or_not tells [] set = inr (λ m. nothing m.0 m.1)
meets_or_not {A} tells (x ∷ xs) set = elim (has_or_not tells set x) [
  | inl has ↦ inl (x, here x xs, has)
  | inr lacks ↦ elim (meets_or_not tells xs set) [
    | inl m ↦ inl (m.0, there x xs m.0 m.1, m.2)
    | inr none ↦ inr (λ m. elim (cons_cases x xs m.0 m.1) [ inl is ↦ lacks (subst (λ (k : A). Contains set k) (sym is) m.2) | inr later ↦ none (m.0, later, m.2) ])
  ]
]

hits_or_not : {A : Type 0} → Tells A → (sets : List (List A)) (xs : List A) → HitsAll sets xs ⊎ (¬ HitsAll sets xs)
hits_or_not tells [] xs = inl (λ set h. absurd (nothing set h))
hits_or_not {A} tells (set ∷ sets) xs = elim (meets_or_not tells xs set) [
  | inl m ↦ elim (hits_or_not tells sets xs) [
    | inl all ↦ inl (λ other h. elim (cons_cases set sets other h) [ inl is ↦ subst (λ (s : List A). MeetsSet xs s) is m | inr later ↦ all other later ])
    | inr none ↦ inr (λ h. none (λ other c. h other (there set sets other c)))
  ]
  | inr none ↦ inr (λ h. none (h set (here set sets)))
]

-- what has more hits too
pub hits_more : {A : Type 0} (sets : List (List A)) (few many : List A) → ((q : A) → Contains few q → Contains many q) → HitsAll sets few → HitsAll sets many
hits_more sets few many sub h set c = (let m = h set c in (m.0, sub m.0 m.1, m.2))

-- ---- a list without something

abbrev other_than : {A : Type 0} → Tells A → A → A → Bool
other_than tells n m = elim (tells m n) [ inl is ↦ false | inr other ↦ true ]

abbrev less : {A : Type 0} → Tells A → A → List A → List A
less tells n xs = filter (other_than tells n) xs

is_other : {A : Type 0} (tells : Tells A) (n m : A) → m ≢ n → other_than tells n m ≡ true
is_other {A} tells n m other = at (tells m n)
  where
    at : (d : (m ≡ n) ⊎ (m ≢ n)) → (let b : Bool = elim d [ inl is ↦ false | inr o ↦ true ] in b ≡ true)
    at (inl is) = absurd (other is)
    at (inr o) = refl

of_other : {A : Type 0} (tells : Tells A) (n m : A) → other_than tells n m ≡ true → m ≢ n
of_other {A} tells n m h = at (tells m n) h
  where
    at : (d : (m ≡ n) ⊎ (m ≢ n)) → (let b : Bool = elim d [ inl is ↦ false | inr o ↦ true ] in b ≡ true) → m ≢ n
    at (inl is) e = absurd (false≢true e)
    at (inr o) e = o

less_of : {A : Type 0} (tells : Tells A) (n : A) (xs : List A) (m : A) → Contains (less tells n xs) m → Contains xs m × (m ≢ n)
less_of tells n xs m h = (let w = from_kept (other_than tells n) xs m h in (w.0, of_other tells n m w.1))

in_less : {A : Type 0} (tells : Tells A) (n : A) (xs : List A) (m : A) → Contains xs m → m ≢ n → Contains (less tells n xs) m
in_less tells n xs m h other = kept (other_than tells n) xs m h (is_other tells n m other)

-- ---- each that isn't needed goes

record Reduced {A : Type 0} (tells : Tells A) (K : List A → Type 0) (sets : List (List A)) (xs hit : List A) : Type 0 where
  hits : HitsAll sets hit
  keeps : K hit
  subset : (q : A) → Contains hit q → Contains xs q
  needed : (n : A) → Contains hit n → ¬ HitsAll sets (less tells n hit)

reduced : {A : Type 0} (tells : Tells A) (K : List A → Type 0) (filters : (p : A → Bool) (xs : List A) → K xs → K (filter p xs)) (sets : List (List A)) (todo xs : List A) → HitsAll sets xs → K xs
    → ((n : A) → Contains xs n → Contains todo n ⊎ (¬ HitsAll sets (less tells n xs))) → (hit : List A) × Reduced tells K sets xs hit
reduced tells K filters sets [] xs h k done = (
  xs,
  record {
    hits = h;
    keeps = k;
    subset = λ n c. c;
    needed = λ n c. elim (done n c) [ inl none ↦ absurd (nothing n none) | inr needed ↦ needed ];
  },
)
reduced {A} tells K filters sets (n ∷ todo) xs h k done = elim (hits_or_not tells sets (less tells n xs)) [
  | inl still ↦
      let w = reduced tells K filters sets todo (less tells n xs) still (filters (other_than tells n) xs k) (λ m c.
      (let v = less_of tells n xs m c in
      elim (done m v.0) [
        | inl waits ↦ elim (cons_cases n todo m waits) [ inl is ↦ absurd (v.1 (sym is)) | inr later ↦ inl later ]
        | inr needed ↦ inr (λ g. needed (hits_more sets (less tells m (less tells n xs)) (less tells m xs) (λ q d. (let u = less_of tells m (less tells n xs) q d in in_less tells m xs q (less_of tells n xs q u.0).0 u.1)) g))
      ])) in (
        w.0,
        record {
          hits = w.1.hits;
          keeps = w.1.keeps;
          subset = λ m c. (less_of tells n xs m (w.1.subset m c)).0;
          needed = w.1.needed;
        },
      )
  | inr misses ↦ reduced tells K filters sets todo xs h k (λ m c. elim (done m c) [
    | inl waits ↦ elim (cons_cases n todo m waits) [ inl is ↦ inr (subst (λ (q : A). ¬ HitsAll sets (less tells q xs)) is misses) | inr later ↦ inl later ]
    | inr needed ↦ inr needed
  ])
]

needed_least : {A : Type 0} (tells : Tells A) (K : List A → Type 0) (sets : List (List A)) (xs hit : List A) → Reduced tells K sets xs hit
    → (part : List A) → ((q : A) → Contains part q → Contains hit q) → HitsAll sets part → (q : A) → Contains hit q → Contains part q
needed_least {A} tells K sets xs hit r part sub h n c = elim (has_or_not tells part n) [
  | inl has ↦ has
  | inr lacks ↦ absurd (r.needed n c (hits_more sets part (less tells n hit) (λ m d. in_less tells n hit m (sub m d) (λ e. lacks (subst (λ (q : A). Contains part q) e d))) h))
]

-- a hitting set with a property that filters keep has a least one with it among its subsets
pub least_of : {A : Type 0} (tells : Tells A) (K : List A → Type 0) (filters : (p : A → Bool) (xs : List A) → K xs → K (filter p xs)) (sets : List (List A)) (xs : List A) → K xs → HitsAll sets xs
    → (hit : List A) × K hit × IsLeastHit sets hit × ((q : A) → Contains hit q → Contains xs q)
least_of tells K filters sets xs k h =
    let w = reduced tells K filters sets xs xs h k (λ n c. inl c) in
    (w.0, w.1.keeps, record { hits = w.1.hits; least = needed_least tells K sets xs w.0 w.1 }, w.1.subset)
