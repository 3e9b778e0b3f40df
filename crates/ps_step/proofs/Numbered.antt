-- Atoms numbered by their places in an ascending list.
use Rattle.std.proofs.Common.{◌≡◌, ◌<◌, ◌+◌, ℕ, Bool, true, false, List, [], ◌∷◌, length, get_or, refl, sym, ap, ap₂, ◌∙◌, subst, inl, inr, ◌⊎◌, Contains, arith}
use Rattle.std.specs.Cmp.Lexicographic.{slice_cmp}
use Rattle.std.specs.List.{filter, range_with_len, AllByRecursion}
use Rattle.std.specs.List.Sorted.{IsStrictlyIncreasing, IsStrictlySortedBy}
use Rattle.std.specs.Ordering.{nat_cmp, ordering_then, ordering_reverse}
use Rattle.std.specs.declared.cmp.Ordering.{Ordering}
use Rattle.std.specs.declared.cmp.Ordering.TheVariants.{Less, Equal, Greater}
use Rattle.std.proofs.lemmas.Bool.{false≢true, cases_eq}
use Rattle.std.proofs.lemmas.Cmp.{ranked, tied_itself}
use Rattle.std.proofs.lemmas.List.Elements.{Contains-get_or, All-contains}
use Rattle.std.proofs.lemmas.List.FromFn.{length-range_with_len, get_or-range_with_len}
use Rattle.std.proofs.lemmas.List.Kept.{IsStrictlyIncreasing-filter}
use Rattle.std.proofs.lemmas.Map.Keys.{Less-from_sorted}
use Rattle.ps_atom.specs.Atoms.{atom_cmp}
use Rattle.ps_atom.specs.declared.atom.Atom.{Atom}
use Rattle.ps_hit.specs.Hitting.{Meets, IsHit, IsMinimalHit, IsListedHit}
use Rattle.ps_hit.proofs.Critical.{critical}
use Rattle.ps_list.proofs.Members.{here, there}
use Rattle.ps_list.proofs.Mapped.{mapped, from_mapped, kept, from_kept}
use Rattle.ps_demand.proofs.Atoms.{atoms_or_not, atoms_total}
use Rattle.ps_demand.specs.Hitting.{HitsAll, IsLeastHit}
use Rattle.ps_demand.specs.Numbered.{at_place, named, IsNumbered}
use Rattle.ps_step.proofs.Least.{has_or_not, least_of}

-- ---- atoms by number

-- later places have greater atoms
place_cmp : (pool : List Atom) → IsStrictlySortedBy atom_cmp pool → (d : Atom) (i j : ℕ) → i < length pool → j < length pool → atom_cmp (get_or pool i d) (get_or pool j d) ≡ nat_cmp i j
place_cmp pool up d i j hi hj = at (nat_cmp i j) refl
  where
    at : (o : Ordering) → nat_cmp i j ≡ o → atom_cmp (get_or pool i d) (get_or pool j d) ≡ nat_cmp i j
    at Less e = (let l : i < j = ranked i j Less (sym e) in Less-from_sorted atom_cmp pool i j d up l hj ∙ sym e)
    at Equal e = (let same : i ≡ j = ranked i j Equal (sym e) in subst (λ (k : ℕ). atom_cmp (get_or pool i d) (get_or pool k d) ≡ Equal) same (tied_itself atoms_total (get_or pool i d)) ∙ sym e)
    at Greater e = (let l : j < i = ranked i j Greater (sym e) in atoms_total.antisymm (get_or pool i d) (get_or pool j d) ∙ (ap ordering_reverse (Less-from_sorted atom_cmp pool j i d up l hi) ∙ sym e))

pub same_place : (pool : List Atom) → IsStrictlySortedBy atom_cmp pool → (d : Atom) (i j : ℕ) → i < length pool → j < length pool → get_or pool i d ≡ get_or pool j d → i ≡ j
same_place pool up d i j hi hj e =
    ranked i j Equal (sym (sym (place_cmp pool up d i j hi hj) ∙ subst (λ (q : Atom). atom_cmp (get_or pool i d) q ≡ Equal) e (tied_itself atoms_total (get_or pool i d))))

-- lists of places are in the order of the lists of their atoms
pub named_cmp : (pool : List Atom) → IsStrictlySortedBy atom_cmp pool → (a b : List ℕ) → ((n : ℕ) → Contains a n → n < length pool) → ((n : ℕ) → Contains b n → n < length pool)
    → slice_cmp atom_cmp (named pool a) (named pool b) ≡ slice_cmp nat_cmp a b
named_cmp pool up [] [] ha hb = refl
named_cmp pool up [] (y ∷ ys) ha hb = refl
named_cmp pool up (x ∷ xs) [] ha hb = refl
named_cmp pool up (x ∷ xs) (y ∷ ys) ha hb =
    ap₂ ordering_then (place_cmp pool up (record { predicate = 0; threads = [] }) x y (ha x (here x xs)) (hb y (here y ys)))
    (named_cmp pool up xs ys (λ n h. ha n (there x xs n h)) (λ n h. hb n (there y ys n h)))

each_named : (pool : List Atom) → IsStrictlySortedBy atom_cmp pool → (x : ℕ) (xs : List ℕ) → x < length pool → ((n : ℕ) → Contains xs n → n < length pool) → AllByRecursion (λ y. nat_cmp x y ≡ Less) xs
    → AllByRecursion (λ q. atom_cmp (get_or pool x (record { predicate = 0; threads = [] })) q ≡ Less) (named pool xs)
each_named pool up x [] hx h a = tt
each_named pool up x (y ∷ ys) hx h a =
    (place_cmp pool up (record { predicate = 0; threads = [] }) x y hx (h y (here y ys)) ∙ a.0, each_named pool up x ys hx (λ n c. h n (there y ys n c)) a.1)

-- ascending places have ascending atoms
pub named_ascend : (pool : List Atom) → IsStrictlySortedBy atom_cmp pool → (xs : List ℕ) → ((n : ℕ) → Contains xs n → n < length pool) → IsStrictlySortedBy nat_cmp xs → IsStrictlySortedBy atom_cmp (named pool xs)
unfolding IsStrictlySortedBy
named_ascend pool up [] h a = tt
named_ascend pool up (x ∷ xs) h a = (each_named pool up x xs (h x (here x xs)) (λ n c. h n (there x xs n c)) a.0, named_ascend pool up xs (λ n c. h n (there x xs n c)) a.1)

-- ---- the places of a set of atoms

abbrev has : List Atom → Atom → Bool
has xs q = elim (has_or_not atoms_or_not xs q) [ inl h ↦ true | inr n ↦ false ]

has_to : (xs : List Atom) (q : Atom) → Contains xs q → has xs q ≡ true
has_to xs q h = at (has_or_not atoms_or_not xs q)
  where
    at : (d : Contains xs q ⊎ (¬ Contains xs q)) → (let b : Bool = elim d [ inl h ↦ true | inr n ↦ false ] in b ≡ true)
    at (inl g) = refl
    at (inr n) = absurd (n h)

has_from : (xs : List Atom) (q : Atom) → has xs q ≡ true → Contains xs q
has_from xs q h = at (has_or_not atoms_or_not xs q) h
  where
    at : (d : Contains xs q ⊎ (¬ Contains xs q)) → (let b : Bool = elim d [ inl h ↦ true | inr n ↦ false ] in b ≡ true) → Contains xs q
    at (inl g) e = g
    at (inr n) e = absurd (false≢true e)

-- the places of those of the list that the set has
abbrev places : List Atom → List Atom → List ℕ
places pool xs = filter (λ n. has xs (at_place pool n)) (range_with_len 0 (length pool))

range_rises : (n : ℕ) → IsStrictlyIncreasing (range_with_len 0 n)
range_rises n k h =
    let long : length (range_with_len 0 n) ≡ n = length-range_with_len 0 n in
    rw (get_or-range_with_len 0 n k 0 (omega (arith, h, long)), get_or-range_with_len 0 n (k + 1) 0 (omega (arith, h, long))) (omega arith)

pub places_rise : (pool xs : List Atom) → IsStrictlyIncreasing (places pool xs)
places_rise pool xs = IsStrictlyIncreasing-filter (λ n. has xs (at_place pool n)) (range_with_len 0 (length pool)) (range_rises (length pool))

in_range : (m n : ℕ) → n < m → Contains (range_with_len 0 m) n
in_range m n h =
    let is : get_or (range_with_len 0 m) n n ≡ n = get_or-range_with_len 0 m n n h ∙ (omega arith) in
    (n, rw (length-range_with_len 0 m) h, is)

place_in : (pool xs : List Atom) (n : ℕ) → n < length pool → Contains xs (at_place pool n) → Contains (places pool xs) n
place_in pool xs n h c = kept (λ n. has xs (at_place pool n)) (range_with_len 0 (length pool)) n (in_range (length pool) n h) (has_to xs (at_place pool n) c)

of_place : (pool xs : List Atom) (n : ℕ) → Contains (places pool xs) n → Contains xs (at_place pool n)
of_place pool xs n h = has_from xs (at_place pool n) (from_kept (λ n. has xs (at_place pool n)) (range_with_len 0 (length pool)) n h).1

-- ---- hitting sets of places and of atoms

named_in : (pool : List Atom) (ns : List ℕ) (n : ℕ) → Contains ns n → Contains (named pool ns) (at_place pool n)
named_in pool ns n h = mapped (at_place pool) ns n h

of_named : (pool : List Atom) (ns : List ℕ) (q : Atom) → Contains (named pool ns) q → (n : ℕ) × Contains ns n × (at_place pool n ≡ q)
of_named pool ns q h = from_mapped (at_place pool) ns q h

pub hit_named : (pool : List Atom) (demands : List (List Atom)) (sets : List (List ℕ)) (hit : List ℕ) → IsNumbered pool demands sets → HitsAll sets hit → HitsAll demands (named pool hit)
hit_named pool demands sets hit is h demand c =
    let w = from_mapped (named pool) sets demand (subst (λ (ds : List (List Atom)). Contains ds demand) (sym is.is) c) in
    let m = h w.0 w.1 in
    (at_place pool m.0, named_in pool hit m.0 m.1, subst (λ (d : List Atom). Contains d (at_place pool m.0)) w.2 (named_in pool w.0 m.0 m.2))

pub places_hit : (pool : List Atom) (demands : List (List Atom)) (sets : List (List ℕ)) (xs : List Atom) → IsNumbered pool demands sets → HitsAll demands xs → HitsAll sets (places pool xs)
places_hit pool demands sets xs is h set c =
    let m = h (named pool set) (subst (λ (ds : List (List Atom)). Contains ds (named pool set)) is.is (mapped (named pool) sets set c)) in
    let w = of_named pool set m.0 m.2 in
    (w.0, place_in pool xs w.0 (is.within set w.0 c w.1) (subst (λ (q : Atom). Contains xs q) (sym w.2) m.1), w.1)

-- between the two ways of saying that each is hit
pub all_hit : (sets : List (List ℕ)) (hit : List ℕ) → HitsAll sets hit → IsHit sets hit
all_hit sets hit h k d i = h (get_or sets k d) (Contains-get_or sets k d i)

pub each_hit : (sets : List (List ℕ)) (hit : List ℕ) → IsHit sets hit → HitsAll sets hit
each_hit sets hit h set c = All-contains (Meets hit) sets set h c

-- a minimal one has no place beyond the list
pub hit_within : (pool : List Atom) (demands : List (List Atom)) (sets : List (List ℕ)) (hit : List ℕ) → IsNumbered pool demands sets → IsMinimalHit sets hit → (n : ℕ) → Contains hit n → n < length pool
hit_within pool demands sets hit is minimal n h = (let c = critical sets hit minimal n h in is.within c.set n c.listed c.has)

-- a listed set of places is a least set of atoms
pub listed_least : (pool : List Atom) (demands : List (List Atom)) (sets : List (List ℕ)) (hit : List ℕ) → IsNumbered pool demands sets → IsListedHit sets hit → IsLeastHit demands (named pool hit)
listed_least pool demands sets hit is listed = record {
  hits = hit_named pool demands sets hit is (each_hit sets hit listed.is_minimal.hits);
  least = λ few sub h.
      let part : List ℕ = filter (λ n. has few (at_place pool n)) hit in
      let in_hit : (n : ℕ) → Contains part n → Contains hit n = λ n c. (from_kept (λ n. has few (at_place pool n)) hit n c).0 in
      let part_hits : IsHit sets part = all_hit sets part (λ set c.
      let m = h (named pool set) (subst (λ (ds : List (List Atom)). Contains ds (named pool set)) is.is (mapped (named pool) sets set c)) in
      let w = of_named pool set m.0 m.2 in
      let v = of_named pool hit m.0 (sub m.0 m.1) in
      let same : v.0 ≡ w.0 = same_place pool is.ascends (record { predicate = 0; threads = [] }) v.0 w.0 (hit_within pool demands sets hit is listed.is_minimal v.0 v.1) (is.within set w.0 c w.1) (v.2 ∙ sym w.2) in
      (w.0, kept (λ n. has few (at_place pool n)) hit w.0 (subst (λ (n : ℕ). Contains hit n) same v.1) (has_to few (at_place pool w.0) (subst (λ (q : Atom). Contains few q) (sym w.2) m.1)), w.1)) in
      λ q c. elim (has_or_not atoms_or_not few q) [
        | inl has_it ↦ has_it
        | inr lacks ↦ absurd (listed.is_minimal.minimal part (
          in_hit,
          (λ all. lacks
              (let w = of_named pool hit q c in subst (λ (r : Atom). Contains few r) w.2 (has_from few (at_place pool w.0) (from_kept (λ n. has few (at_place pool n)) hit w.0 (all w.0 w.1)).1))),
        ) part_hits)
      ];
}

-- the list says so of numbers
listed_of : (sets : List (List ℕ)) (hit : List ℕ) → IsStrictlyIncreasing hit → IsLeastHit sets hit → IsListedHit sets hit
listed_of sets hit up least = record {
  is_minimal = record { hits = all_hit sets hit least.hits; minimal = λ part strict h. strict.1 (least.least part strict.0 (each_hit sets part h)) };
  ascends = up;
}

-- what hits has a listed set among its atoms
pub hit_has_listed : (pool : List Atom) (demands : List (List Atom)) (sets : List (List ℕ)) (xs : List Atom) → IsNumbered pool demands sets → HitsAll demands xs
    → (hit : List ℕ) × IsListedHit sets hit × ((q : Atom) → Contains (named pool hit) q → Contains xs q)
hit_has_listed pool demands sets xs is h =
    let w = least_of cases_eq IsStrictlyIncreasing IsStrictlyIncreasing-filter sets (places pool xs) (places_rise pool xs) (places_hit pool demands sets xs is h) in
    (w.0, listed_of sets w.0 w.1 w.2, λ q c. (let v = of_named pool w.0 q c in subst (λ (r : Atom). Contains xs r) v.2 (of_place pool xs v.0 (w.3 v.0 v.1))))

-- a least set of atoms is a listed one
pub least_listed : (pool : List Atom) (demands : List (List Atom)) (sets : List (List ℕ)) (xs : List Atom) → IsNumbered pool demands sets → IsLeastHit demands xs
    → (hit : List ℕ) × IsListedHit sets hit × ((q : Atom) → Contains (named pool hit) q → Contains xs q) × ((q : Atom) → Contains xs q → Contains (named pool hit) q)
least_listed pool demands sets xs is least =
    let w = hit_has_listed pool demands sets xs is least.hits in
    (w.0, w.1, w.2, least.least (named pool w.0) w.2 (listed_least pool demands sets w.0 is w.1).hits)
