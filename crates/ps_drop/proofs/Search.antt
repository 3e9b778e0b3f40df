-- The search for all below a root: what it keeps, and why its end is the answer.
use Rattle.std.proofs.Common.{◌≡◌, ℕ, ◌+◌, ◌<◌, ◌≤◌, Bool, true, false, cond, List, [], ◌∷◌, ◌++◌, length, get_or, take, sym, ap, ◌∙◌, subst, refl, inl, inr, ◌⊎◌, Contains, All, arith, length-append}
use Rattle.std.specs.Prelude.{◌↔◌}
use Rattle.std.specs.BTreeSet.{BTreeSet, contains, Updates}
use Rattle.std.specs.Ordering.{nat_cmp, is_eq}
use Rattle.std.specs.Cmp.{nat_cmp_total}
use Rattle.std.proofs.lemmas.Map.Lookups.{exact_unsigned}
use Rattle.std.proofs.lemmas.Map.Views.{btree_set_contains_iff, tells_apart}
use Rattle.std.proofs.lemmas.Bool.{both_ways, cond_both}
use Rattle.std.proofs.lemmas.List.Elements.{All-more, All-contains, Contains-append_left, Contains-push, Contains-push_cases, Contains-get_or}
use Rattle.std.specs.List.Sorted.{IsPermutation}
use Rattle.std.proofs.lemmas.List.{take_more}
use Rattle.std.proofs.lemmas.List.Sorted.{IsPermutation-sym, Contains-permutation}
use Rattle.ps_list.proofs.Members.{nothing, cons_cases}
use Rattle.ps_drop.specs.declared.pair.Pair.{Pair}
use Rattle.ps_drop.specs.Pairs.{NamesPair, IsPath, Leads}
use Rattle.ps_drop.specs.inner.Visit.{AreChildren, Has, unfound, Visits}

-- ---- a node goes into the set

has_new : (s n : BTreeSet ℕ) (k : ℕ) → Updates nat_cmp s n k true → Has n k
has_new s n k u = u.1

still_has : (s n : BTreeSet ℕ) (k : ℕ) → Updates nat_cmp s n k true → (q : ℕ) → Has s q → Has n q
still_has s n k u q h = u.0 q ∙ cond_both (is_eq (nat_cmp k q)) true (contains nat_cmp s q) (λ (b : Bool). b ≡ true) (λ e. refl) (λ e. h)

same_key : (k q : ℕ) → is_eq (nat_cmp k q) ≡ true → k ≡ q
same_key k q e = tells_apart exact_unsigned k q e

has_cases : (s n : BTreeSet ℕ) (k : ℕ) → Updates nat_cmp s n k true → (q : ℕ) → Has n q → Has s q ⊎ (k ≡ q)
has_cases s n k u q h = at_test (is_eq (nat_cmp k q)) refl (sym (u.0 q) ∙ h)
  where
    at_test : (t : Bool) → is_eq (nat_cmp k q) ≡ t → cond t true (contains nat_cmp s q) ≡ true → Has s q ⊎ (k ≡ q)
    at_test true e c = inr (same_key k q e)
    at_test false e c = inl c

-- ---- fewer pairs are unfound

one_le : (now before : Bool) → (before ≡ true → now ≡ true) → cond now 0 1 ≤ cond before 0 1
one_le true before h = omega arith
one_le false false h = omega arith
one_le false true h = absurd (both_ways false refl (h refl))

unfound_le : (before now : BTreeSet ℕ) → ((q : ℕ) → Has before q → Has now q) → (ps : List Pair) → unfound now ps ≤ unfound before ps
unfound_le before now stays [] = omega arith
unfound_le before now stays (p ∷ ps) =
    omega (arith, unfound_le before now stays ps, one_le (contains nat_cmp now p.node) (contains nat_cmp before p.node) (stays p.node))

unfound_lt : (before now : BTreeSet ℕ) → ((q : ℕ) → Has before q → Has now q) → (ps : List Pair) (q : Pair) → Contains ps q
    → contains nat_cmp before q.node ≡ false → Has now q.node → unfound now ps + 1 ≤ unfound before ps
unfound_lt before now stays [] q h new has = absurd (nothing q h)
unfound_lt before now stays (p ∷ ps) q h new has = elim (cons_cases p ps q h) [
  | inl is ↦
      let before_is : contains nat_cmp before p.node ≡ false = ap (λ (r : Pair). contains nat_cmp before r.node) is ∙ new in
      let now_is : contains nat_cmp now p.node ≡ true = ap (λ (r : Pair). contains nat_cmp now r.node) is ∙ has in
      rw (before_is, now_is) (omega (arith, unfound_le before now stays ps))
  | inr later ↦
      omega (arith, unfound_lt before now stays ps q later new has, one_le (contains nat_cmp now p.node) (contains nat_cmp before p.node) (stays p.node))
]

-- ---- a turn of the loop over the children

done_more : (children : List Pair) (i : ℕ) (d : Pair) → i < length children → (p : Pair) → Contains (take i children) p → Contains (take (i + 1) children) p
done_more children i d inside p h = rw (take_more children i d inside) (Contains-append_left (take i children) (get_or children i d ∷ []) p h)

done_last : (children : List Pair) (i : ℕ) (child d : Pair) → i < length children → child ≡ get_or children i d → Contains (take (i + 1) children) child
done_last children i child d inside read =
    rw (take_more children i d inside) (subst (λ (p : Pair). Contains (take i children ++ get_or children i d ∷ []) p) (sym read) (Contains-push (take i children) (get_or children i d)))

-- the child was found before
pub visits_old : (children : List Pair) (i : ℕ) (found : BTreeSet ℕ) (waiting : List ℕ) (before now : BTreeSet ℕ) (left : List ℕ) (child d : Pair)
    → Visits children (take i children) found waiting before left → i < length children → child ≡ get_or children i d
    → contains nat_cmp before child.node ≡ true → now.keys ≡ before.keys
    → Visits children (take (i + 1) children) found waiting now left
visits_old children i found waiting before now left child d v inside read known same =
    let to_now : (q : ℕ) → Has before q → Has now q = λ q h. rw same h in
    let to_before : (q : ℕ) → Has now q → Has before q = λ q h. rw (← same) h in
    record {
      children_found = All-more (λ (p : Pair). Has now p.node) children i d inside (λ k e h. to_now _ (v.children_found k e h))
          (subst (λ (p : Pair). Has now p.node) read (to_now child.node known));
      only_children = λ n h. elim (v.only_children n (to_before n h)) [ inl old ↦ inl old | inr one ↦ inr (one.0, done_more children i d inside one.0 one.1, one.2) ];
      found_stays = λ n h. to_now n (v.found_stays n h);
      new_waits = λ n h. v.new_waits n (to_before n h);
      waiting_found = λ n h. elim (v.waiting_found n h) [ inl old ↦ inl old | inr has ↦ inr (to_now n has) ];
      waiting_stays = v.waiting_stays;
      work_falls = λ pairs among. omega (arith, v.work_falls pairs among, unfound_le before now to_now pairs);
    }

-- the child is new
pub visits_new : (children : List Pair) (i : ℕ) (found : BTreeSet ℕ) (waiting : List ℕ) (before now : BTreeSet ℕ) (left left' : List ℕ) (child d : Pair)
    → Visits children (take i children) found waiting before left → i < length children → child ≡ get_or children i d
    → contains nat_cmp before child.node ≡ false → Updates nat_cmp before now child.node true → left' ≡ left ++ child.node ∷ []
    → Visits children (take (i + 1) children) found waiting now left'
visits_new children i found waiting before now left left' child d v inside read new u pushed =
    let to_now : (q : ℕ) → Has before q → Has now q = still_has before now child.node u in
    let has : Has now child.node = has_new before now child.node u in
    record {
      children_found = All-more (λ (p : Pair). Has now p.node) children i d inside (λ k e h. to_now _ (v.children_found k e h))
          (subst (λ (p : Pair). Has now p.node) read has);
      only_children = λ n h. elim (has_cases before now child.node u n h) [
        | inl old ↦ elim (v.only_children n old) [ inl older ↦ inl older | inr one ↦ inr (one.0, done_more children i d inside one.0 one.1, one.2) ]
        | inr is ↦ inr (child, done_last children i child d inside read, is)
      ];
      found_stays = λ n h. to_now n (v.found_stays n h);
      new_waits = λ n h. elim (has_cases before now child.node u n h) [
        | inl old ↦ elim (v.new_waits n old) [ inl older ↦ inl older | inr waits ↦ inr (rw pushed (Contains-append_left left (child.node ∷ []) n waits)) ]
        | inr is ↦ inr (rw pushed (subst (λ (m : ℕ). Contains (left ++ child.node ∷ []) m) is (Contains-push left child.node)))
      ];
      waiting_found = λ n h. elim (Contains-push_cases left child.node n (subst (λ (l : List ℕ). Contains l n) pushed h)) [
        | inl old ↦ elim (v.waiting_found n old) [ inl older ↦ inl older | inr known ↦ inr (to_now n known) ]
        | inr is ↦ inr (subst (λ (m : ℕ). Has now m) is has)
      ];
      waiting_stays = λ n h. rw pushed (Contains-append_left left (child.node ∷ []) n (v.waiting_stays n h));
      work_falls = λ pairs among.
          let listed : Contains children child = subst (λ (p : Pair). Contains children p) (sym read) (Contains-get_or children i d inside) in
          let fewer = unfound_lt before now to_now pairs child (All-contains (Contains pairs) children child among listed) new has in
          rw (pushed, length-append) (omega (arith, v.work_falls pairs among, fewer));
    }

-- ---- the search

-- each node found leads to the root, and the children of each that waits no longer were found
pub record Searched (pairs : List Pair) (root : ℕ) (found : BTreeSet ℕ) (waiting : List ℕ) : Type 0 where
  pub root_found : Has found root
  pub found_lead : (n : ℕ) → Has found n → Leads pairs n root
  pub waiting_found : (n : ℕ) → Contains waiting n → Has found n
  pub children_found : (n parent : ℕ) → NamesPair pairs n parent → Has found parent → Contains waiting parent ⊎ Has found n

names_child : (pairs : List Pair) (n parent : ℕ) (p : Pair) → Contains pairs p → p.other ≡ parent → p.node ≡ n → NamesPair pairs n parent
names_child pairs n parent p listed of_parent is =
    subst (λ (m : ℕ). Contains pairs (record { node = m; other = parent })) is (subst (λ (o : ℕ). Contains pairs (record { node = p.node; other = o })) of_parent listed)

-- the children of the last that waits were visited
pub searched_more : (pairs : List Pair) (root : ℕ) (before now : BTreeSet ℕ) (waiting rest left : List ℕ) (parent : ℕ) (children : List Pair)
    → Searched pairs root before waiting → waiting ≡ rest ++ parent ∷ [] → AreChildren pairs parent children → Visits children children before rest now left
    → Searched pairs root now left
searched_more pairs root before now waiting rest left parent children s popped are v =
    let found : Has before parent = s.waiting_found parent (rw popped (Contains-push rest parent)) in
    record {
      root_found = v.found_stays root s.root_found;
      found_lead = λ n h. elim (v.only_children n h) [
        | inl old ↦ s.found_lead n old
        | inr one ↦
            let child : Contains pairs one.0 × (one.0.other ≡ parent) = All-contains (λ (p : Pair). Contains pairs p × (p.other ≡ parent)) children one.0 are.only one.1 in
            let above : Leads pairs parent root = s.found_lead parent found in
            (parent ∷ above.0, (names_child pairs n parent one.0 child.0 child.1 one.2, above.1))
      ];
      waiting_found = λ n h. elim (v.waiting_found n h) [
        | inl waits ↦ v.found_stays n (s.waiting_found n (rw popped (Contains-append_left rest (parent ∷ []) n waits)))
        | inr has ↦ has
      ];
      children_found = λ n p names has. elim (v.new_waits p has) [
        | inl old ↦ elim (s.children_found n p names old) [
          | inl waits ↦ elim (Contains-push_cases rest parent p (subst (λ (l : List ℕ). Contains l p) popped waits)) [
            | inl later ↦ inl (v.waiting_stays p later)
            | inr is ↦ inr (All-contains (λ (q : Pair). Has now q.node) children (record { node = n; other = p }) v.children_found (are.every (record { node = n; other = p }) names (sym is)))
          ]
          | inr known ↦ inr (v.found_stays n known)
        ]
        | inr waits ↦ inl waits
      ];
    }

-- there is less work
pub work_less : (pairs : List Pair) (before now : BTreeSet ℕ) (waiting rest left : List ℕ) (parent : ℕ) (children : List Pair)
    → waiting ≡ rest ++ parent ∷ [] → AreChildren pairs parent children → Visits children children before rest now left
    → length left + unfound now pairs < length waiting + unfound before pairs
work_less pairs before now waiting rest left parent children popped are v =
    let among : All (Contains pairs) children = λ k d h. (are.only k d h).0 in
    rw (popped, length-append) (omega (arith, v.work_falls pairs among))

path_found : (pairs : List Pair) (root : ℕ) (found : BTreeSet ℕ) → Searched pairs root found [] → (n : ℕ) (path : List ℕ) → IsPath pairs n path root → Has found n
path_found pairs root found s n [] is = subst (λ (m : ℕ). Has found m) (sym is) s.root_found
path_found pairs root found s n (m ∷ path) along = elim (s.children_found n m along.0 (path_found pairs root found s m path along.1)) [
  | inl waits ↦ absurd (nothing m waits)
  | inr has ↦ has
]

path_along : (a b : List Pair) → ((p : Pair) → Contains a p → Contains b p) → (n : ℕ) (path : List ℕ) (end : ℕ) → IsPath a n path end → IsPath b n path end
path_along a b to n [] end is = is
path_along a b to n (m ∷ path) end along = (to _ along.0, path_along a b to m path end along.1)

-- where nothing waits, exactly what leads to the root was found
pub searched_all : (parents pairs : List Pair) (root : ℕ) (found : BTreeSet ℕ) → IsPermutation parents pairs → Searched pairs root found []
    → (n : ℕ) → Contains found.keys n ↔ Leads parents n root
searched_all parents pairs root found same s n =
    let key = btree_set_contains_iff nat_cmp_total exact_unsigned found n in
    let back : (p : Pair) → Contains pairs p → Contains parents p = λ p h. Contains-permutation pairs parents p (IsPermutation-sym parents pairs same) h in
    let to : (p : Pair) → Contains parents p → Contains pairs p = λ p h. Contains-permutation parents pairs p same h in (
      λ h. let leads : Leads pairs n root = s.found_lead n (key.1 h) in (leads.0, path_along pairs parents back n leads.0 root leads.1),
      λ h. key.0 (path_found pairs root found s n h.0 (path_along parents pairs to n h.0 root h.1)),
    )
