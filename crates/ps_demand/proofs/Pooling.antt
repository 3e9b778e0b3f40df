-- A set of atoms that grows, and the places of atoms.
use Rattle.std.proofs.Common.{◌≡◌, ◌≢◌, ◌<◌, ◌≤◌, ◌+◌, ℕ, List, [], ◌∷◌, ◌++◌, length, take, get_or, Bool, true, false, ◌&&◌, drop, ltb, refl, sym, ap, ap₂, ◌∙◌, subst, inl, inr, ◌⊎◌, Contains, arith}
use Rattle.std.specs.BTreeSet.{insert_key}
use Rattle.std.specs.List.{AllByRecursion}
use Rattle.std.specs.List.Sorted.{IsStrictlySortedBy, IsSortedBy, IsNonDecreasingBy, IsPartitionPoint, IsPartitionedBy}
use Rattle.std.specs.Ordering.{match_ordering, is_lt, ordering_index, ordering_reverse}
use Rattle.std.specs.declared.cmp.Ordering.{Ordering}
use Rattle.std.specs.declared.cmp.Ordering.TheVariants.{Less, Equal, Greater}
use Rattle.std.specs.declared.vec.Vec.{Vec}
use Rattle.std.proofs.lemmas.Bool.{both_ways, cases_lt, false≢true, and_parts, and_right}
use Rattle.std.proofs.lemmas.Cmp.{tied_itself}
use Rattle.std.proofs.lemmas.List.Sorted.{searchable_from_sorted, IsPartitionedBy-ltb}
use Rattle.std.proofs.lemmas.Map.Keys.{Less-from_sorted}
use Rattle.std.proofs.lemmas.List.{drop_more, take_more, take_all, append-nil, map_push, map_more, get_or_default}
use Rattle.std.proofs.lemmas.List.Elements.{Contains-get_or, Contains-push_cases}
use Rattle.ps_atom.specs.Atoms.{atom_cmp}
use Rattle.ps_atom.specs.declared.atom.Atom.{Atom}
use Rattle.ps_list.proofs.Members.{nothing, cons_cases, here, there}
use Rattle.ps_list.proofs.Mapped.{mapped}
use Rattle.ps_config.specs.Sent.{sent}
use Rattle.ps_config.proofs.Sent.{sent_later}
use Rattle.ps_demand.specs.Demands.{agrees, is_renaming}
use Rattle.ps_demand.specs.Numbered.{at_place, named, IsNumbered}
use Rattle.ps_demand.proofs.Atoms.{atoms_exact, atoms_total}
use Rattle.ps_demand.specs.Pools.{atoms_of, lists_of, HasEach, HasAll, Adds, ArePlaces}
use Rattle.ps_demand.specs.declared.ranked.Ranked.{Ranked}

-- ---- sorted atoms

abbrev pub ranked_cmp : Ranked → Ranked → Ordering
ranked_cmp a b = atom_cmp a.atom b.atom

insert_at : (k x : Ranked) (xs later : List Ranked) (atoms : List Atom) (o : Ordering) → atoms_of later ≡ atoms
    → atoms_of (match_ordering o (k ∷ x ∷ xs) (x ∷ xs) (x ∷ later)) ≡ match_ordering o (k.atom ∷ x.atom ∷ atoms_of xs) (x.atom ∷ atoms_of xs) (x.atom ∷ atoms)
insert_at k x xs later atoms Less e = refl
insert_at k x xs later atoms Equal e = refl
insert_at k x xs later atoms Greater e = ap (λ (qs : List Atom). x.atom ∷ qs) e

pub insert_atoms : (keys : List Ranked) (k : Ranked) → atoms_of (insert_key ranked_cmp keys k) ≡ insert_key atom_cmp (atoms_of keys) k.atom
insert_atoms [] k = refl
insert_atoms (x ∷ xs) k = insert_at k x xs (insert_key ranked_cmp xs k) (insert_key atom_cmp (atoms_of xs) k.atom) (atom_cmp k.atom x.atom) (insert_atoms xs k)

each_less : (x : Ranked) (xs : List Ranked) → AllByRecursion (λ y. ranked_cmp x y ≡ Less) xs → AllByRecursion (λ q. atom_cmp x.atom q ≡ Less) (atoms_of xs)
each_less x [] h = tt
each_less x (y ∷ ys) h = (h.0, each_less x ys h.1)

pub atoms_sorted : (keys : List Ranked) → IsStrictlySortedBy ranked_cmp keys → IsStrictlySortedBy atom_cmp (atoms_of keys)
unfolding IsStrictlySortedBy
atoms_sorted [] h = tt
atoms_sorted (x ∷ xs) h = (each_less x xs h.0, atoms_sorted xs h.1)

-- ---- one more atom in the set

kept_at : (k x : Atom) (xs later : List Atom) (o : Ordering) (q : Atom) → (Contains xs q → Contains later q) → (x ≡ q) ⊎ Contains xs q
    → Contains (match_ordering o (k ∷ x ∷ xs) (x ∷ xs) (x ∷ later)) q
kept_at k x xs later Less q b (inl is) = there k (x ∷ xs) q (subst (λ (z : Atom). Contains (x ∷ xs) z) is (here x xs))
kept_at k x xs later Less q b (inr h) = there k (x ∷ xs) q (there x xs q h)
kept_at k x xs later Equal q b (inl is) = subst (λ (z : Atom). Contains (x ∷ xs) z) is (here x xs)
kept_at k x xs later Equal q b (inr h) = there x xs q h
kept_at k x xs later Greater q b (inl is) = subst (λ (z : Atom). Contains (x ∷ later) z) is (here x later)
kept_at k x xs later Greater q b (inr h) = there x later q (b h)

insert_keeps : (keys : List Atom) (k q : Atom) → Contains keys q → Contains (insert_key atom_cmp keys k) q
insert_keeps [] k q h = absurd (nothing q h)
insert_keeps (x ∷ xs) k q h = kept_at k x xs (insert_key atom_cmp xs k) (atom_cmp k x) q (insert_keeps xs k q) (cons_cases x xs q h)

new_at : (k x : Atom) (xs later : List Atom) (o : Ordering) → (o ≡ Equal → k ≡ x) → Contains later k → Contains (match_ordering o (k ∷ x ∷ xs) (x ∷ xs) (x ∷ later)) k
new_at k x xs later Less e h = here k (x ∷ xs)
new_at k x xs later Equal e h = subst (λ (z : Atom). Contains (x ∷ xs) z) (sym (e refl)) (here x xs)
new_at k x xs later Greater e h = there x later k h

insert_new : (keys : List Atom) (k : Atom) → Contains (insert_key atom_cmp keys k) k
insert_new [] k = here k []
insert_new (x ∷ xs) k = new_at k x xs (insert_key atom_cmp xs k) (atom_cmp k x) (atoms_exact k x) (insert_new xs k)

pub adds_none : (atoms old : List Atom) → Adds (take 0 atoms) old old
adds_none atoms old = record { stays = λ q h. h; added = λ q h. absurd (nothing q h) }

pub adds_more : (atoms : List Atom) (i : ℕ) (d : Atom) (old keys new : List Atom) (k : Atom) → i < length atoms → k ≡ get_or atoms i d → new ≡ insert_key atom_cmp keys k → Adds (take i atoms) old keys → Adds (take (i + 1) atoms) old new
adds_more atoms i d old keys new k inside is e a = subst (λ (xs : List Atom). Adds (take (i + 1) atoms) old xs) (sym e) (record {
  stays = λ q h. insert_keeps keys k q (a.stays q h);
  added = λ q h. elim (Contains-push_cases (take i atoms) (get_or atoms i d) q (subst (λ (xs : List Atom). Contains xs q) (take_more atoms i d inside) h)) [
    | inl earlier ↦ insert_keeps keys k q (a.added q earlier)
    | inr same ↦ subst (λ (z : Atom). Contains (insert_key atom_cmp keys k) z) (is ∙ same) (insert_new keys k)
  ];
})

-- ---- each set in turn

pub all_more : {A : Type 0} (sets : List (Vec Atom A)) (i : ℕ) (d : Vec Atom A) (old new : List Atom) (set : Vec Atom A) → i < length sets → set ≡ get_or sets i d → Adds set.items old new → HasAll old (lists_of (take i sets)) → HasAll new (lists_of (take (i + 1) sets))
all_more {A} sets i d old new set inside is a h s c q m =
    elim (Contains-push_cases (lists_of (take i sets)) ((get_or sets i d).items) s (subst (λ (xs : List (List Atom)). Contains xs s) (map_more (λ (v : Vec Atom A). v.items) sets i d inside) c)) [
      | inl earlier ↦ a.stays q (h s earlier q m)
      | inr same ↦ a.added q (subst (λ (xs : List Atom). Contains xs q) (sym same ∙ sym (ap (λ (v : Vec Atom A). v.items) is)) m)
    ]

-- ---- places

pub places_none : (pool set : List Atom) → ArePlaces pool (take 0 set) []
places_none pool set = record { within = λ n h. absurd (nothing n h); are = refl }

pub places_more : (pool set : List Atom) (i : ℕ) (d : Atom) (places later : List ℕ) (n : ℕ) → i < length set → n < length pool → at_place pool n ≡ get_or set i d → later ≡ places ++ n ∷ [] → ArePlaces pool (take i set) places → ArePlaces pool (take (i + 1) set) later
places_more pool set i d places later n inside within is e a = subst (λ (ns : List ℕ). ArePlaces pool (take (i + 1) set) ns) (sym e) (record {
  within = λ m h. elim (Contains-push_cases places n m h) [ inl old ↦ a.within m old | inr same ↦ subst (λ (k : ℕ). k < length pool) same within ];
  are = map_push (at_place pool) places n ∙ (ap (λ (qs : List Atom). qs ++ at_place pool n ∷ []) a.are ∙ (ap (λ (q : Atom). take i set ++ q ∷ []) is ∙ sym (take_more set i d inside)));
})

pub numbered_none : {A : Type 0} (pool : List Atom) (sets : List (Vec Atom A)) → IsStrictlySortedBy atom_cmp pool → IsNumbered pool (lists_of (take 0 sets)) []
numbered_none pool sets up = record { ascends = up; within = λ set n h. absurd (nothing set h); is = refl }

pub numbered_more : {A B : Type 0} (pool : List Atom) (sets : List (Vec Atom A)) (i : ℕ) (d set : Vec Atom A) (numbers later : List (Vec ℕ B)) (ns : Vec ℕ B) → i < length sets → set ≡ get_or sets i d → ArePlaces pool set.items ns.items → later ≡ numbers ++ ns ∷ []
    → IsNumbered pool (lists_of (take i sets)) (lists_of numbers) → IsNumbered pool (lists_of (take (i + 1) sets)) (lists_of later)
numbered_more {A} {B} pool sets i d set numbers later ns inside is p e a =
    subst (λ (vs : List (Vec ℕ B)). IsNumbered pool (lists_of (take (i + 1) sets)) (lists_of vs)) (sym e) (subst (λ (xs : List (List ℕ)). IsNumbered pool (lists_of (take (i + 1) sets)) xs) (sym (map_push (λ (v : Vec ℕ B). v.items) numbers ns)) (record {
      ascends = a.ascends;
      within = λ s n c m. elim (Contains-push_cases (lists_of numbers) ns.items s c) [ inl old ↦ a.within s n old m | inr same ↦ p.within n (subst (λ (xs : List ℕ). Contains xs n) (sym same) m) ];
      is = map_push (named pool) (lists_of numbers) ns.items
          ∙ (ap (λ (xs : List (List Atom)). xs ++ named pool ns.items ∷ []) a.is
          ∙ (ap (λ (xs : List Atom). lists_of (take i sets) ++ xs ∷ []) (p.are ∙ ap (λ (v : Vec Atom A). v.items) is)
          ∙ sym (map_more (λ (v : Vec Atom A). v.items) sets i d inside)));
    }))

-- ---- a search that must find

sorted_by : (pool : List Atom) → IsStrictlySortedBy atom_cmp pool → IsSortedBy (λ a b. is_lt (atom_cmp a b)) pool
sorted_by pool up k d low h =
    ap is_lt (atoms_total.antisymm (get_or pool (k + 1) d) (get_or pool k d) ∙ ap ordering_reverse (Less-from_sorted atom_cmp pool k (k + 1) d up (omega arith) (omega (arith, h))))

searchable : (pool : List Atom) (x : Atom) → IsStrictlySortedBy atom_cmp pool → IsNonDecreasingBy (λ y. ordering_index (atom_cmp y x)) pool
searchable pool x up = searchable_from_sorted atoms_total (λ (q : Atom). q) pool x (sorted_by pool up)

lt_index : (o : Ordering) → ltb (ordering_index o) 1 ≡ is_lt o
lt_index Less = refl
lt_index Equal = refl
lt_index Greater = refl

pub parted : (pool : List Atom) (x : Atom) → IsStrictlySortedBy atom_cmp pool → IsPartitionedBy (λ y. is_lt (atom_cmp y x)) pool
parted pool x up i k d le within h =
    sym (lt_index (atom_cmp (get_or pool i d) x))
    ∙ IsPartitionedBy-ltb (λ y. ordering_index (atom_cmp y x)) pool 1 (searchable pool x up) i k d le within (lt_index (atom_cmp (get_or pool k d) x) ∙ h)

not_less : (x : Atom) → is_lt (atom_cmp x x) ≡ false
not_less x = ap is_lt (tied_itself atoms_total x)

-- the atoms before the place are less and those from it on aren't, so the place is that of the atom
pub found_at : (pool : List Atom) (x : Atom) (i : ℕ) (has : Contains pool x) → IsStrictlySortedBy atom_cmp pool → IsPartitionPoint (λ y. is_lt (atom_cmp y x) ≡ true) (λ y. is_lt (atom_cmp y x) ≡ false) pool i → has.0 ≡ i
found_at pool x i has up p =
    let itself : is_lt (atom_cmp (get_or pool has.0 x) x) ≡ false = subst (λ (q : Atom). is_lt (atom_cmp q x) ≡ false) (sym has.2) (not_less x) in
    elim (cases_lt has.0 i) [
      | inl low ↦ absurd (both_ways (is_lt (atom_cmp (get_or pool has.0 x) x)) itself (p.0 has.0 x (omega arith) low))
      | inr high ↦ elim (cases_lt i has.0) [
        | inl below ↦
            let less : atom_cmp (get_or pool i x) (get_or pool has.0 x) ≡ Less = Less-from_sorted atom_cmp pool i has.0 x up below has.1 in
            let less_than : is_lt (atom_cmp (get_or pool i x) x) ≡ true = ap is_lt (subst (λ (q : Atom). atom_cmp (get_or pool i x) q ≡ Less) has.2 less) in
            absurd (both_ways (is_lt (atom_cmp (get_or pool i x) x)) (p.1 i x (omega arith) (omega (arith, below, has.1))) less_than)
        | inr above ↦ (let e : has.0 ≡ i = omega (arith, high, above) in e)
      ]
    ]

pub place_within : (pool : List Atom) (x : Atom) (i : ℕ) (has : Contains pool x) → has.0 ≡ i → i < length pool
place_within pool x i has e = subst (λ (k : ℕ). k < length pool) e has.1

pub place_is : (pool : List Atom) (x : Atom) (i : ℕ) (has : Contains pool x) → has.0 ≡ i → at_place pool i ≡ x
place_is pool x i has e =
    subst (λ (k : ℕ). at_place pool k ≡ x) e (sym (get_or_default pool has.0 x (record { predicate = 0; threads = [] }) has.1) ∙ has.2)

pub each_of : {A : Type 0} (pool : List Atom) (sets : List (Vec Atom A)) (i : ℕ) (set : Vec Atom A) → i < length sets → set ≡ get_or sets i set → HasAll pool (lists_of sets) → HasEach pool set.items
each_of {A} pool sets i set inside is h =
    h set.items (mapped (λ (v : Vec Atom A). v.items) sets set (subst (λ (v : Vec Atom A). Contains sets v) (sym is) (Contains-get_or sets i set inside)))

pub all_done : {A : Type 0} (sets : List (Vec Atom A)) (i : ℕ) (keys list : List Atom) → length sets ≤ i → list ≡ keys → HasAll keys (lists_of (take i sets)) → HasAll list (lists_of sets)
all_done {A} sets i keys list past is h = subst (λ (xs : List Atom). HasAll xs (lists_of sets)) (sym is) (subst (λ (vs : List (Vec Atom A)). HasAll keys (lists_of vs)) (take_all i sets past) h)

-- ---- renamings

pub sent_step : (threads to : List ℕ) (t i : ℕ) → i < length threads → length threads ≡ length to → get_or threads i 0 ≢ t
    → sent (drop (i + 1) threads) (drop (i + 1) to) t ≡ sent (drop i threads) (drop i to) t
sent_step threads to t i h long n =
    let within : i < length to = omega (arith, h, long) in
    sym (ap₂ (λ (xs ys : List ℕ). sent xs ys t) (drop_more threads i 0 h) (drop_more to i 0 within)
    ∙ sent_later (get_or threads i 0) (get_or to i 0) t (drop (i + 1) threads) (drop (i + 1) to) n)

pub renaming_long : (ss us : List ℕ) → is_renaming ss us ≡ true → length ss ≡ length us
renaming_long [] [] h = refl
renaming_long [] (u ∷ us) h = absurd (false≢true h)
renaming_long (s ∷ ss) [] h = absurd (false≢true h)
renaming_long (s ∷ ss) (u ∷ us) h = (let e = renaming_long ss us (and_parts (agrees s u ss us) (is_renaming ss us) h).1 in omega (arith, e))

pub not_renaming : (s u : ℕ) (ss us : List ℕ) → length ss ≢ length us → false ≡ is_renaming (s ∷ ss) (u ∷ us)
not_renaming s u ss us n = at (is_renaming ss us) refl
  where
    at : (b : Bool) → is_renaming ss us ≡ b → false ≡ (agrees s u ss us && b)
    at true e = absurd (n (renaming_long ss us e))
    at false e = sym (and_right (agrees s u ss us) false refl)

-- what was taken in order ascends
pub listed_ascends : (list : List Atom) (left keys : List Ranked) → left ≡ [] → list ++ atoms_of left ≡ atoms_of keys → IsStrictlySortedBy ranked_cmp keys → IsStrictlySortedBy atom_cmp list
listed_ascends list left keys none all up =
    let same : list ≡ atoms_of keys = sym (append-nil list) ∙ (ap (λ (rs : List Ranked). list ++ atoms_of rs) (sym none) ∙ all) in
    subst (λ (qs : List Atom). IsStrictlySortedBy atom_cmp qs) (sym same) (atoms_sorted keys up)
