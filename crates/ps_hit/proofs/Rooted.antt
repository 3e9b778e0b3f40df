-- The numbers that are alone in a set are chosen at the root.
use Rattle.std.proofs.Common.{◌≡◌, ◌≢◌, ℕ, ◌+◌, ◌<◌, Bool, true, false, List, [], ◌∷◌, ◌++◌, length, get_or, take, sym, ◌∙◌, subst, refl, inl, inr, Contains, All, arith, rules}
use Rattle.std.specs.Prelude.{◌==◌, if◌then◌else◌}
use Rattle.std.specs.List.{AllZip, AllByRecursion, IsDistinct}
use Rattle.std.specs.List.Sorted.{IsStrictlyIncreasing, IsStrictlySortedBy, IsPermutation, IsBinarySearchResult}
use Rattle.std.specs.Ordering.{nat_cmp}
use Rattle.std.specs.declared.cmp.Ordering.TheVariants.{Less}
use Rattle.std.specs.Prelude.{◌↔◌, ◌≤◌, Result, MatchResult, nat_eq}
use Rattle.std.specs.Result.{is_ok}
use Rattle.std.specs.declared.result.Result.TheVariants.{Ok, Err}
use Rattle.std.proofs.lemmas.Grind.{get_or_default_zero}
use Rattle.std.proofs.lemmas.List.Sorted.{searched, Contains-permutation, IsPermutation-sym}
use Rattle.std.proofs.lemmas.Map.Keys.{sorted_from_strictly_increasing, below_from_sorted}
use Rattle.std.specs.declared.vec.Vec.{Vec}
use Rattle.std.proofs.lemmas.Bool.{cases_lt, eqb-true, eqb-false, false≢true}
use Rattle.std.proofs.lemmas.List.{take_more, map_push}
use Rattle.std.proofs.lemmas.List.Elements.{All-contains, Contains-get_or, Contains-append_left, Contains-push, Contains-push_cases}
use Rattle.ps_hit.specs.declared.cover.Cover.{Cover}
use Rattle.ps_hit.specs.declared.cover.Cover.TheVariants.{Unmet, Once, Again}
use Rattle.ps_hit.specs.declared.node.Node.{Node}
use Rattle.ps_hit.specs.Hitting.{numbers_of, Meets, IsSubset, IsHit}
use Rattle.ps_hit.specs.inner.Covers.{IsCover, HasOwn, cover_seen}
use Rattle.ps_hit.specs.inner.Searching.{IsNode, IsUnderNode, IsLone}
use Rattle.ps_list.proofs.Members.{nothing, cons_cases, here}
use Rattle.ps_hit.proofs.Ascending.{numbers_at}
use Rattle.ps_hit.proofs.Critical.{covered, once_contains}
use Rattle.ps_hit.proofs.Nodes.{length-numbers_of}

-- ---- a cover, number by number of its set

more : (set : List ℕ) (n m : ℕ) → Contains set m → Contains (set ++ n ∷ []) m
more set n m h = Contains-append_left set (n ∷ []) m h

cover_passed : (chosen set : List ℕ) (n : ℕ) (c : Cover) → (¬ Contains chosen n) → IsCover chosen set c → IsCover chosen (set ++ n ∷ []) c
cover_passed chosen set n Unmet lacks is = λ h. elim (Contains-push_cases set n h.0 h.2) [ inl old ↦ is (h.0, h.1, old) | inr new ↦ lacks (subst (λ (k : ℕ). Contains chosen k) (sym new) h.1) ]
cover_passed chosen set n (Once k) lacks is =
    (is.0, more set n k is.1, λ m h k'. elim (Contains-push_cases set n m k') [ inl old ↦ is.2 m h old | inr new ↦ absurd (lacks (subst (λ (j : ℕ). Contains chosen j) (sym new) h)) ])
cover_passed chosen set n Again lacks is = (is.0, is.1, is.2, is.3, is.4, more set n is.0 is.5, more set n is.1 is.6)

once_more : (chosen set : List ℕ) (n k : ℕ) (t : Bool) → (k == n) ≡ t → Contains chosen n → IsCover chosen set (Once k) → IsCover chosen (set ++ n ∷ []) (if t then Once k else Again)
once_more chosen set n k true e has is =
    (is.0, more set n k is.1, λ m h k'. elim (Contains-push_cases set n m k') [ inl old ↦ is.2 m h old | inr new ↦ sym new ∙ sym (eqb-true k n e) ])
once_more chosen set n k false e has is = (k, n, eqb-false k n e, is.0, has, more set n k is.1, Contains-push set n)

cover_met : (chosen set : List ℕ) (n : ℕ) (c : Cover) → Contains chosen n → IsCover chosen set c → IsCover chosen (set ++ n ∷ []) (cover_seen c n true)
cover_met chosen set n Unmet has is =
    (has, Contains-push set n, λ m h k. elim (Contains-push_cases set n m k) [ inl old ↦ absurd (is (m, h, old)) | inr new ↦ sym new ])
cover_met chosen set n (Once k) has is = once_more chosen set n k (k == n) refl has is
cover_met chosen set n Again has is = (is.0, is.1, is.2, is.3, is.4, more set n is.0 is.5, more set n is.1 is.6)

pub cover_more : (chosen set : List ℕ) (n : ℕ) (c : Cover) (t : Bool) → (t ≡ true → Contains chosen n) → (Contains chosen n → t ≡ true) → IsCover chosen set c → IsCover chosen (set ++ n ∷ []) (cover_seen c n t)
cover_more chosen set n c true to back is = cover_met chosen set n c (to refl) is
cover_more chosen set n c false to back is = cover_passed chosen set n c (λ h. absurd (let no_such : false ≡ true = back h in (search rules))) is

pub cover_first : (chosen : List ℕ) → IsCover chosen [] Unmet
cover_first chosen = λ h. nothing h.0 h.2

pub covers_push : (chosen : List ℕ) (sets : List (List ℕ)) (covers : List Cover) (set : List ℕ) (c : Cover) → AllZip (IsCover chosen) sets covers → IsCover chosen set c
    → AllZip (IsCover chosen) (sets ++ set ∷ []) (covers ++ c ∷ [])
covers_push chosen [] [] set c are is = search (rules, is)
covers_push chosen [] (x ∷ xs) set c are is = absurd are
covers_push chosen (s ∷ ss) [] set c are is = absurd are
covers_push chosen (s ∷ ss) (x ∷ xs) set c are is = (are.0, covers_push chosen ss xs set c are.1 is)

-- ---- what is alone in a set

own_cover : (chosen : List ℕ) (n : ℕ) (c : Cover) (covers : List Cover) → Contains chosen n → IsCover chosen (n ∷ []) c → Contains covers c → HasOwn covers n
own_cover chosen n Unmet covers has is listed = absurd (is (n, has, here n []))
own_cover chosen n (Once k) covers has is listed = once_contains covers n (subst (λ (m : ℕ). Contains covers (Once m)) (sym (is.2 n has (here n []))) listed)
own_cover chosen n Again covers has is listed = absurd (is.2 (only n is.0 is.5 ∙ sym (only n is.1 is.6)))
  where
    only : (n m : ℕ) → Contains (n ∷ []) m → m ≡ n
    only n m h = elim (cons_cases n [] m h) [ inl is ↦ sym is | inr none ↦ absurd (nothing m none) ]

pub lone_own : (sets : List (List ℕ)) (chosen : List ℕ) (covers : List Cover) → AllZip (IsCover chosen) sets covers → All (IsLone sets) chosen → All (HasOwn covers) chosen
lone_own sets chosen covers are lone = λ k d inside.
    let n : ℕ = get_or chosen k d in
    let has : Contains chosen n = Contains-get_or chosen k d inside in
    let c = covered chosen sets covers are (n ∷ []) (lone k d inside) in
    own_cover chosen n c.cover covers has c.is c.listed

-- each hitting set has them
pub lone_below : (sets : List (List ℕ)) (chosen hit : List ℕ) → All (IsLone sets) chosen → IsHit sets hit → IsSubset chosen hit
lone_below sets chosen hit lone hits n h =
    let met : Meets hit (n ∷ []) = All-contains (Meets hit) sets (n ∷ []) hits (All-contains (IsLone sets) chosen n lone h) in
    elim (cons_cases n [] met.0 met.2) [ inl is ↦ subst (λ (m : ℕ). Contains hit m) (sym is) met.1 | inr none ↦ absurd (nothing met.0 none) ]

-- a set of one number
pub lone_at : {A : Type 0} (sets : List (Vec ℕ A)) (i : ℕ) (set : Vec ℕ A) (n : ℕ) → i < length sets → set ≡ get_or sets i set → set.items ≡ n ∷ [] → IsLone (numbers_of sets) n
lone_at sets i set n within is one =
    subst (λ (xs : List ℕ). Contains (numbers_of sets) xs) (numbers_at sets i set within is ∙ one) (Contains-get_or (numbers_of sets) i [] (rw length-numbers_of within))

pub all_sorted : (P : ℕ → Type 0) (xs ys : List ℕ) → IsPermutation xs ys → All P xs → All P ys
all_sorted P xs ys perm all = λ k d inside.
    All-contains P xs (get_or ys k d) all (Contains-permutation ys xs (get_or ys k d) (IsPermutation-sym xs ys perm) (Contains-get_or ys k d inside))

-- ---- what a binary search finds

not_falling : (xs : List ℕ) → IsStrictlyIncreasing xs → (i j : ℕ) → i ≤ j → j < length xs → get_or xs i 0 ≤ get_or xs j 0
not_falling xs up i j below inside = elim (cases_lt i j) [
  | inl less ↦ (let h : get_or xs i 0 < get_or xs j 0 = below_from_sorted xs i j 0 (sorted_from_strictly_increasing xs up) less inside in omega (arith, h))
  | inr back ↦ (let same : i ≡ j = omega (arith, below, back) in rw same (omega arith))
]

found_at : (xs : List ℕ) (x : ℕ) (r : Result ℕ ℕ)
    → MatchResult r (λ i. (i < length xs) × (get_or xs i 0 ≡ x)) (λ i. (i ≤ length xs) × ((k : ℕ) → k < i → get_or xs k 0 < x) × ((k : ℕ) → i ≤ k → k < length xs → x < get_or xs k 0))
    → (is_ok r ≡ true) ↔ Contains xs x
found_at xs x (Ok i) f = (λ yes. subst (λ (n : ℕ). Contains xs n) f.1 (Contains-get_or xs i 0 f.0), λ h. refl)
found_at xs x (Err i) f = (
  λ yes. absurd (false≢true yes),
  λ h. absurd (All-contains (λ (y : ℕ). y ≢ x) xs x (λ k d inside same.
      let zero_there : get_or xs k 0 ≡ x = sym (get_or_default_zero xs k d inside) ∙ same in
      elim (cases_lt k i) [
        | inl less ↦ (let h1 : get_or xs k 0 < x = f.1 k less in omega (arith, h1, zero_there))
        | inr back ↦ (let h2 : x < get_or xs k 0 = f.2 k back inside in omega (arith, h2, zero_there))
      ]) h refl),
)

pub found_or_not : (xs : List ℕ) (x : ℕ) (r : Result ℕ ℕ) → IsStrictlyIncreasing xs → IsBinarySearchResult (λ y. nat_cmp y x) xs r → (is_ok r ≡ true) ↔ Contains xs x
found_or_not xs x r up is = found_at xs x r (searched xs x r is (not_falling xs up))

-- ---- the root

pub numbers_more : {A : Type 0} (chosen : List ℕ) (sets : List (Vec ℕ A)) (i : ℕ) (set : Vec ℕ A) (covers new : List Cover) (c : Cover) → i < length sets → set ≡ get_or sets i set → IsCover chosen set.items c → new ≡ covers ++ c ∷ []
    → AllZip (IsCover chosen) (numbers_of (take i sets)) covers → AllZip (IsCover chosen) (numbers_of (take (i + 1) sets)) new
numbers_more {A = A} chosen sets i set covers new c inside is cover added so_far =
    rw (added, take_more sets i set inside, ← is, map_push (λ (x : Vec ℕ A). x.items) (take i sets) set) (covers_push chosen (numbers_of (take i sets)) covers set.items c so_far cover)

apart : (xs : List ℕ) → IsStrictlySortedBy nat_cmp xs → IsDistinct nat_eq xs
unfolding IsStrictlySortedBy IsDistinct
apart [] up = tt
apart (x ∷ xs) up = (each xs up.0, apart xs up.1)
  where
    each : (ys : List ℕ) → AllByRecursion (λ y. nat_cmp x y ≡ Less) ys → AllByRecursion (λ y. nat_eq x y ≡ false) ys
    each [] h = tt
    each (y ∷ ys) h = (other (nat_eq x y) refl h.0, each ys h.1)
      where
        other : (t : Bool) → nat_eq x y ≡ t → nat_cmp x y ≡ Less → nat_eq x y ≡ false
        other true e less = absurd (let same : x ≡ y = eqb-true x y e in search (rules, less, same))
        other false e less = e

pub root_node : (sets : List (List ℕ)) (node : Node) → AllZip (IsCover node.chosen.items) sets node.covers.items → IsStrictlyIncreasing node.chosen.items → All (IsLone sets) node.chosen.items → IsNode sets node
root_node sets node covers up lone = record {
  covers = covers;
  own = lone_own sets node.chosen.items node.covers.items covers lone;
  distinct = apart node.chosen.items (sorted_from_strictly_increasing node.chosen.items up);
}

pub root_above : (sets : List (List ℕ)) (node : Node) (hit : List ℕ) → All (IsLone sets) node.chosen.items → node.barred.items ≡ [] → IsHit sets hit → IsUnderNode node hit
root_above sets node hit lone none hits = record {
  chosen = lone_below sets node.chosen.items hit lone hits;
  barred = rw none (λ m. nothing m.0 m.1);
}
