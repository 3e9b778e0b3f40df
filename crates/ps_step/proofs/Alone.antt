-- Atoms that are demanded alone, the only least set where they meet all demands, and the same demands listed otherwise.
use Rattle.std.proofs.Common.{◌≡◌, ◌<◌, ◌≤◌, ◌+◌, ℕ, Bool, true, false, List, [], ◌∷◌, ◌++◌, map, length, take, get_or, refl, sym, ap, ◌∙◌, subst, inl, inr, Contains, arith}
use Rattle.std.specs.Prelude.{◌↔◌}
use Rattle.std.specs.Cmp.{IsStrictWeakOrder}
use Rattle.std.specs.Cmp.Lexicographic.{slice_cmp}
use Rattle.std.specs.List.{dedup, filter, filter_map}
use Rattle.std.specs.List.Sorted.{IsStrictlySortedBy, IsSorted, IsPermutation, IsPartitionPoint}
use Rattle.std.specs.Ordering.{eq_by_cmp, is_eq, is_lt}
use Rattle.std.specs.declared.cmp.Ordering.{Ordering}
use Rattle.std.specs.declared.cmp.Ordering.TheVariants.{Less, Equal, Greater}
use Rattle.std.specs.declared.vec.Vec.{Vec}
use Rattle.std.proofs.lemmas.Bool.{both_ways, false≢true}
use Rattle.std.proofs.lemmas.Cmp.{eq_by_cmp_equiv, tied_itself}
use Rattle.std.proofs.lemmas.List.{take_more, take_all, map_push, get_or_default}
use Rattle.std.proofs.lemmas.List.Elements.{Contains-append_cases, Contains-append_left, Contains-append_right, Contains-get_or, Contains-push_cases}
use Rattle.std.proofs.lemmas.List.Kept.{Contains-dedup, Contains-from_dedup, IsStrictlySortedBy-dedup}
use Rattle.std.proofs.lemmas.List.Sorted.{Contains-permutation, IsPermutation-sym, ranks_by}
use Rattle.ps_atom.specs.Atoms.{atom_cmp}
use Rattle.ps_atom.specs.declared.atom.Atom.{Atom}
use Rattle.ps_demand.proofs.Atoms.{atoms_exact, atoms_total}
use Rattle.ps_demand.proofs.Pooling.{found_at}
use Rattle.ps_demand.proofs.PartedDemands.{alone_is, either_part, is_alone}
use Rattle.ps_demand.specs.Candidates.{has_no_only, only_atom}
use Rattle.ps_demand.specs.Hitting.{HitsAll, IsLeastHit, MeetsSet}
use Rattle.ps_demand.specs.Pools.{lists_of}
use Rattle.ps_list.proofs.Mapped.{from_kept, from_mapped, mapped}
use Rattle.ps_list.proofs.Members.{nothing, cons_cases, here}
use Rattle.ps_step.specs.declared.found.Found.{Found}
use Rattle.ps_step.specs.declared.found.Found.TheVariants.{All, TooMany}
use Rattle.ps_step.specs.inner.Found.{AreLeast, AreAllLeast, IsFound}
use Rattle.ps_step.specs.inner.Only.{IsOnlySet}

-- ---- demands in two parts

-- those that are alone, in order, meet all where they meet the others
pub only_of : (demands others : List (List Atom)) (alone ordered : List Atom) → alone ≡ filter_map only_atom demands → others ≡ filter has_no_only demands → IsStrictlySortedBy atom_cmp ordered → ((q : Atom) → Contains ordered q ↔ Contains alone q) → HitsAll others ordered → IsOnlySet demands ordered
only_of demands others alone ordered one other up same hits = record {
  ascends = up;
  alone = λ q h. is_alone demands q (subst (λ (qs : List Atom). Contains qs q) one ((same q).0 h));
  hits = λ set h. elim (either_part demands set h) [
    | inl w ↦ (
      w.0,
      (same w.0).1 (subst (λ (qs : List Atom). Contains qs w.0) (sym one) (alone_is demands w.0 (subst (λ (xs : List Atom). Contains demands xs) w.1 h))),
      subst (λ (xs : List Atom). Contains xs w.0) (sym w.1) (here w.0 []),
    )
    | inr k ↦ hits set (subst (λ (sets : List (List Atom)). Contains sets set) (sym other) k)
  ];
}

-- the other demands, and a set for each atom that is alone, are the demands
pub all_of : (demands others sets : List (List Atom)) (alone ordered : List Atom) → alone ≡ filter_map only_atom demands → others ≡ filter has_no_only demands → ((q : Atom) → Contains ordered q ↔ Contains alone q) → sets ≡ others ++ map (λ (q : Atom). q ∷ []) ordered
    → (set : List Atom) → Contains sets set ↔ Contains demands set
all_of demands others sets alone ordered one other same are set = (
  λ h. elim (Contains-append_cases others (map (λ (q : Atom). q ∷ []) ordered) set (subst (λ (ss : List (List Atom)). Contains ss set) are h)) [
    | inl k ↦ (from_kept has_no_only demands set (subst (λ (ss : List (List Atom)). Contains ss set) other k)).0
    | inr k ↦ (let w = from_mapped (λ (q : Atom). q ∷ []) ordered set k in
        subst (λ (xs : List Atom). Contains demands xs) w.2 (is_alone demands w.0 (subst (λ (qs : List Atom). Contains qs w.0) one ((same w.0).0 w.1))))
  ],
  λ h. subst (λ (ss : List (List Atom)). Contains ss set) (sym are) (elim (either_part demands set h) [
    | inl w ↦ Contains-append_right others (map (λ (q : Atom). q ∷ []) ordered) set (subst (λ (xs : List Atom). Contains (map (λ (q : Atom). q ∷ []) ordered) xs) (sym w.1)
        (mapped (λ (q : Atom). q ∷ []) ordered w.0 ((same w.0).1 (subst (λ (qs : List Atom). Contains qs w.0) (sym one) (alone_is demands w.0 (subst (λ (xs : List Atom). Contains demands xs) w.1 h))))))
    | inr k ↦ Contains-append_left others (map (λ (q : Atom). q ∷ []) ordered) set (subst (λ (ss : List (List Atom)). Contains ss set) (sym other) k)
  ]),
)

-- ---- in order, each once

pub atom_weak : IsStrictWeakOrder (λ (p q : Atom). is_lt (atom_cmp p q))
atom_weak = ranks_by atoms_total (λ (q : Atom). q)

abbrev same_atom : Atom → Atom → Bool
same_atom = eq_by_cmp atom_cmp

tie_is : (a b : Atom) (o : Ordering) → atom_cmp a b ≡ o → is_eq o ≡ true → a ≡ b
tie_is a b Less e t = absurd (false≢true t)
tie_is a b Equal e t = atoms_exact a b e
tie_is a b Greater e t = absurd (false≢true t)

pub once_ascends : (sorted new : List Atom) → IsSorted atom_cmp sorted → new ≡ dedup (eq_by_cmp atom_cmp) sorted → IsStrictlySortedBy atom_cmp new
once_ascends sorted new up is = subst (λ (xs : List Atom). IsStrictlySortedBy atom_cmp xs) (sym is) (IsStrictlySortedBy-dedup atoms_total (λ x y. refl) sorted up)

pub once_same : (old sorted new : List Atom) → IsPermutation old sorted → new ≡ dedup (eq_by_cmp atom_cmp) sorted → (q : Atom) → Contains new q ↔ Contains old q
once_same old sorted new moved is q = (
  λ h. Contains-permutation sorted old q (IsPermutation-sym old sorted moved) (Contains-from_dedup same_atom sorted q (subst (λ (xs : List Atom). Contains xs q) is h)),
  λ h. subst (λ (xs : List Atom). Contains xs q) (sym is) (Contains-dedup (eq_by_cmp_equiv atoms_total) (λ x y t. tie_is x y (atom_cmp x y) refl t) sorted q (Contains-permutation old sorted q moved h)),
)

-- ---- a binary search

pub found_there : (atoms : List Atom) (x : Atom) (i : ℕ) (y : Atom) → i < length atoms → y ≡ get_or atoms i y → is_eq (atom_cmp y x) ≡ true → Contains atoms x
found_there atoms x i y inside is tied = subst (λ (q : Atom). Contains atoms q) (sym is ∙ tie_is y x (atom_cmp y x) refl tied) (Contains-get_or atoms i y inside)

pub found_inside : (atoms : List Atom) (x : Atom) (i : ℕ) → IsStrictlySortedBy atom_cmp atoms → IsPartitionPoint (λ y. is_lt (atom_cmp y x) ≡ true) (λ y. is_lt (atom_cmp y x) ≡ false) atoms i → Contains atoms x → i < length atoms
found_inside atoms x i up point has = subst (λ (k : ℕ). k < length atoms) (found_at atoms x i has up point) has.1

pub found_tied : (atoms : List Atom) (x : Atom) (i : ℕ) (y : Atom) → IsStrictlySortedBy atom_cmp atoms → IsPartitionPoint (λ y. is_lt (atom_cmp y x) ≡ true) (λ y. is_lt (atom_cmp y x) ≡ false) atoms i → y ≡ get_or atoms i y → Contains atoms x → is_eq (atom_cmp y x) ≡ true
found_tied atoms x i y up point is has =
    let at : get_or atoms i x ≡ x = subst (λ (k : ℕ). get_or atoms k x ≡ x) (found_at atoms x i has up point) has.2 in
    let inside : i < length atoms = found_inside atoms x i up point has in
    let same : y ≡ x = is ∙ (get_or_other atoms i y x inside ∙ at) in
    subst (λ (q : Atom). is_eq (atom_cmp q x) ≡ true) (sym same) (ap is_eq (tied_itself atoms_total x))
  where
    get_or_other : (xs : List Atom) (k : ℕ) (d e : Atom) → k < length xs → get_or xs k d ≡ get_or xs k e
    get_or_other xs k d e h = get_or_default xs k d e h

-- ---- what they meet

pub none_push : (alone set : List Atom) (i : ℕ) (atom : Atom) (t : Bool) → i < length set → atom ≡ get_or set i atom → t ≡ false → (Contains alone atom → t ≡ true)
    → ((q : Atom) → Contains (take i set) q → ¬ Contains alone q) → (q : Atom) → Contains (take (i + 1) set) q → ¬ Contains alone q
none_push alone set i atom t inside is lacks back none q h has = elim (Contains-push_cases (take i set) (get_or set i atom) q (subst (λ (xs : List Atom). Contains xs q) (take_more set i atom inside) h)) [
  | inl old ↦ none q old has
  | inr this ↦ both_ways t lacks (back (subst (λ (r : Atom). Contains alone r) (sym (is ∙ this)) has))
]

pub meets_none : (alone : List Atom) (set : List Atom) (i : ℕ) → length set ≤ i → ((q : Atom) → Contains (take i set) q → ¬ Contains alone q) → ¬ MeetsSet alone set
meets_none alone set i past none m = none m.0 (subst (λ (xs : List Atom). Contains xs m.0) (sym (take_all i set past)) m.2) m.1

pub hits_first : (sets : List (List Atom)) (alone : List Atom) → HitsAll [] alone
hits_first sets alone set h = absurd (nothing set h)

pub hits_push : {A : Type 0} (sets : List (Vec Atom A)) (i : ℕ) (set : Vec Atom A) (alone : List Atom) → i < length sets → set ≡ get_or sets i set → MeetsSet alone set.items
    → HitsAll (lists_of (take i sets)) alone → HitsAll (lists_of (take (i + 1) sets)) alone
hits_push {A = A} sets i set alone inside is met so_far =
    subst (λ (ss : List (List Atom)). HitsAll ss alone) (sym (ap lists_of (take_more sets i set inside ∙ ap (λ (x : Vec Atom A). take i sets ++ x ∷ []) (sym is)) ∙ map_push (λ (x : Vec Atom A). x.items) (take i sets) set))
    (λ other h. elim (Contains-push_cases (lists_of (take i sets)) set.items other h) [ inl old ↦ so_far other old | inr this ↦ subst (λ (xs : List Atom). MeetsSet alone xs) this met ])

pub hits_all : {A : Type 0} (sets : List (Vec Atom A)) (i : ℕ) (alone : List Atom) → length sets ≤ i → HitsAll (lists_of (take i sets)) alone → HitsAll (lists_of sets) alone
hits_all {A = A} sets i alone past h = subst (λ (ss : List (Vec Atom A)). HitsAll (lists_of ss) alone) (take_all i sets past) h

-- ---- the only least set

least_only : (sets : List (List Atom)) (set : List Atom) → IsOnlySet sets set → IsLeastHit sets set
least_only sets set is = record {
  hits = is.hits;
  least = λ part inside hits q h. (let met = hits (q ∷ []) (is.alone q h) in elim (cons_cases q [] met.0 met.2) [
    | inl same ↦ subst (λ (r : Atom). Contains part r) (sym same) met.1
    | inr none ↦ absurd (nothing met.0 none)
  ]);
}

one_list : (set : List Atom) → IsStrictlySortedBy (slice_cmp atom_cmp) (set ∷ [])
unfolding IsStrictlySortedBy
one_list set = (tt, tt)

pub found_only : (wanted : List (List Atom)) (set : List Atom) (most : ℕ) → 1 ≤ most → IsOnlySet wanted set → AreLeast wanted (set ∷ []) × AreAllLeast wanted (set ∷ []) × (length (set ∷ []) ≤ most)
found_only wanted set most some only = (
  record {
    least = λ atoms h. subst (λ (xs : List Atom). IsLeastHit wanted xs) (this atoms h) (least_only wanted set only);
    ascend = λ atoms h. subst (λ (xs : List Atom). IsStrictlySortedBy atom_cmp xs) (this atoms h) only.ascends;
    ordered = one_list set;
  },
  (λ atoms least.
      let below : (q : Atom) → Contains set q → Contains atoms q = λ q h. (let met = least.hits (q ∷ []) (only.alone q h) in elim (cons_cases q [] met.0 met.2) [
        | inl is ↦ subst (λ (r : Atom). Contains atoms r) (sym is) met.1
        | inr none ↦ absurd (nothing met.0 none)
      ]) in
      (set, here set [], least.least set below only.hits, below)),
  omega (arith, some),
)
  where
    this : (atoms : List Atom) → Contains (set ∷ []) atoms → set ≡ atoms
    this atoms h = elim (cons_cases set [] atoms h) [ inl is ↦ is | inr none ↦ absurd (nothing atoms none) ]

-- ---- the same sets

hits_same : (a b : List (List Atom)) → ((set : List Atom) → Contains b set → Contains a set) → (hit : List Atom) → HitsAll a hit → HitsAll b hit
hits_same a b back hit h set c = h set (back set c)

least_same : (a b : List (List Atom)) → ((set : List Atom) → Contains a set ↔ Contains b set) → (hit : List Atom) → IsLeastHit a hit → IsLeastHit b hit
least_same a b same hit h = record {
  hits = hits_same a b (λ set c. (same set).1 c) hit h.hits;
  least = λ part inside hits. h.least part inside (hits_same b a (λ set c. (same set).0 c) part hits);
}

turned : (a b : List (List Atom)) → ((set : List Atom) → Contains a set ↔ Contains b set) → (set : List Atom) → Contains b set ↔ Contains a set
turned a b same set = (λ c. (same set).1 c, λ c. (same set).0 c)

are_same : (a b : List (List Atom)) → ((set : List Atom) → Contains a set ↔ Contains b set) → (list : List (List Atom)) → AreLeast a list → AreLeast b list
are_same a b same list h = record { least = λ atoms c. least_same a b same atoms (h.least atoms c); ascend = h.ascend; ordered = h.ordered }

-- what is found of sets is found of any with the same ones
pub found_same : (a b : List (List Atom)) (most : ℕ) → ((set : List Atom) → Contains a set ↔ Contains b set) → (found : Found) → IsFound a most found → IsFound b most found
found_same a b most same (All sets) h = (are_same a b same (lists_of sets.items) h.0, λ atoms least. h.1 atoms (least_same b a (turned a b same) atoms least), h.2)
found_same a b most same TooMany h = (h.0, are_same a b same h.0 h.1, h.2)
