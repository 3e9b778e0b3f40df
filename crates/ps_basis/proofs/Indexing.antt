-- What an index finds, and how it follows a list that grows or is cut.
use Rattle.std.proofs.Common.{◌≡◌, ◌+◌, ◌<◌, ◌≤◌, ℕ, zero, suc, Bool, true, false, List, [], ◌∷◌, ◌++◌, length, take, get_or, refl, sym, ap, ap₂, ◌∙◌, subst, inl, inr, ◌⊎◌, ltb-true, Contains, arith}
use Rattle.std.specs.Prelude.{slice_get, Option, Some, None, ◌↔◌, is_some, Result, Ok, Err, is_ok, IsOk, if◌then◌else◌}
use Rattle.std.specs.Cmp.{IsTotalOrder, IsStrictWeakOrder}
use Rattle.std.specs.Cmp.Lexicographic.{options_total}
use Rattle.std.specs.List.{filter, insert}
use Rattle.std.specs.List.Sorted.{IsSorted, IsPartitionPoint, IsPartitionedBy, IsPermutation}
use Rattle.std.specs.Option.{option_cmp}
use Rattle.std.specs.Ordering.{nat_cmp, ordering_then, ordering_reverse, is_lt, is_eq}
use Rattle.std.specs.declared.cmp.Ordering.{Ordering}
use Rattle.std.specs.declared.cmp.Ordering.TheVariants.{Less, Equal, Greater}
use Rattle.std.proofs.lemmas.Bool.{both_ways, cases_lt, false≢true, lt-ltb}
use Rattle.std.proofs.lemmas.Cmp.{ranked, nat_cmp_total, then_total, on_total, tied_itself}
use Rattle.std.proofs.lemmas.List.Edits.{length-insert, get_or-insert_below, get_or-insert_at, get_or-insert_above}
use Rattle.std.proofs.lemmas.List.Elements.{Contains-append_left, Contains-push, Contains-push_cases}
use Rattle.std.proofs.lemmas.List.Kept.{IsSortedBy-filter}
use Rattle.std.proofs.lemmas.List.Sorted.{Contains-permutation, ranks_by, sorted_far, IsPermutation-trans, IsPermutation-sym, IsPermutation-to_front, IsPermutation-insert}
use Rattle.std.proofs.lemmas.List.{get_or_default, length-take-le, take_all, take_more}
use Rattle.std.proofs.lemmas.Option.{same_Some, slice_get-get_or, slice_get_within, get_or_from_slice_get}
use Rattle.ps_list.proofs.Mapped.{kept, from_kept}
use Rattle.ps_triple.specs.Entries.{HasInitial}
use Rattle.ps_triple.specs.declared.entry.Entry.{Entry}
use Rattle.ps_triple.specs.declared.entry.Entry.TheVariants.{Triple as OfTriple, Initial as OfInitial}
use Rattle.ps_basis.specs.Shown.{IsFor, IsNextFor}
use Rattle.ps_basis.specs.declared.key.Key.{Key}
use Rattle.ps_basis.specs.declared.place.Place.{Place}
use Rattle.ps_basis.specs.inner.Index.{key_of, key_cmp, place_cmp, IsPlace, IsIndex, HasPlace, IsFirst, is_below}

-- ---- the order of places

key_total : IsTotalOrder key_cmp
key_total = then_total (on_total (λ (k : Key). k.predicate) nat_cmp_total) (on_total (λ (k : Key). k.command) (options_total nat_cmp_total))

place_total : IsTotalOrder place_cmp
place_total = then_total (on_total (λ (p : Place). p.key) key_total) (on_total (λ (p : Place). p.number) nat_cmp_total)

abbrev place_lt : Place → Place → Bool
place_lt p q = is_lt (place_cmp p q)

pub place_weak : IsStrictWeakOrder place_lt
place_weak = ranks_by place_total (λ (p : Place). p)

then_Equal : (a b : Ordering) → ordering_then a b ≡ Equal → (a ≡ Equal) × (b ≡ Equal)
then_Equal Less b e = absurd (let f : ⊥ = cc in f)
then_Equal Equal b e = (refl, e)
then_Equal Greater b e = absurd (let f : ⊥ = cc in f)

nat_Equal : (m n : ℕ) → nat_cmp m n ≡ Equal → m ≡ n
nat_Equal m n e = ranked m n Equal (sym e)

option_Equal : (m n : Option ℕ) → option_cmp nat_cmp m n ≡ Equal → m ≡ n
option_Equal None None e = refl
option_Equal None (Some n) e = absurd (let f : ⊥ = cc in f)
option_Equal (Some m) None e = absurd (let f : ⊥ = cc in f)
option_Equal (Some m) (Some n) e = ap (λ (k : ℕ). let o : Option ℕ = Some k in o) (nat_Equal m n e)

-- keys that tie are one
key_exact : (a b : Key) → key_cmp a b ≡ Equal → a ≡ b
key_exact a b e =
    let both = then_Equal (nat_cmp a.predicate b.predicate) (option_cmp nat_cmp a.command b.command) e in
    ap₂ (λ (p : ℕ) (c : Option ℕ). let k : Key = record { predicate = p; command = c } in k) (nat_Equal a.predicate b.predicate both.0) (option_Equal a.command b.command both.1)

first_not_less : (o n : Ordering) → is_lt (ordering_then o n) ≡ false → is_lt o ≡ false
first_not_less Less n h = h
first_not_less Equal n h = refl
first_not_less Greater n h = refl

is_Equal : (o : Ordering) → is_lt o ≡ false → is_lt (ordering_reverse o) ≡ false → o ≡ Equal
is_Equal Less h k = absurd (false≢true (sym h))
is_Equal Equal h k = refl
is_Equal Greater h k = absurd (false≢true (sym k))

level : (a b : Key) → is_lt (key_cmp a b) ≡ false → is_lt (key_cmp b a) ≡ false → a ≡ b
level a b h k = key_exact a b (is_Equal (key_cmp a b) h (ap is_lt (sym (key_total.antisymm b a)) ∙ k))

-- of one key, numbers decide
not_less_numbers : (m n : ℕ) (o : Ordering) → o ≡ nat_cmp m n → is_lt o ≡ false → n ≤ m
not_less_numbers m n Less e h = absurd (false≢true (sym h))
not_less_numbers m n Equal e h = let is : m ≡ n = ranked m n Equal e in omega (arith, is)
not_less_numbers m n Greater e h = let is : n < m = ranked m n Greater e in omega (arith, is)

numbers_not_less : (m n : ℕ) (o : Ordering) → o ≡ nat_cmp m n → n ≤ m → is_lt o ≡ false
numbers_not_less m n Less e h = let is : m < n = ranked m n Less e in absurd (let f : ⊥ = omega (arith, is, h) in f)
numbers_not_less m n Equal e h = refl
numbers_not_less m n Greater e h = refl

of_key : (key : Key) (m n : ℕ) → place_cmp (record { key = key; number = m }) (record { key = key; number = n }) ≡ nat_cmp m n
of_key key m n = ap (λ (o : Ordering). ordering_then o (nat_cmp m n)) (tied_itself key_total key)

-- ---- the place of a search

pub parted : (places : List Place) (t : Place) → IsSorted place_cmp places → IsPartitionedBy (λ (p : Place). place_lt p t) places
parted places t up i k d le within h = at (place_lt (get_or places i d) t) refl
  where
    at : (b : Bool) → place_lt (get_or places i d) t ≡ b → place_lt (get_or places i d) t ≡ true
    at true e = e
    at false e = absurd (both_ways (place_lt (get_or places k d) t)
        (place_weak.chain (get_or places k d) (get_or places i d) t (sorted_far place_lt place_weak places up i k d le within) e) h)

abbrev pub IsPoint : List Place → Place → ℕ → Type 0
IsPoint places t i = IsPartitionPoint (λ (p : Place). place_lt p t ≡ true) (λ (p : Place). place_lt p t ≡ false) places i

module _ (places : List Place) (key : Key) (from i : ℕ) (up : IsSorted place_cmp places) (point : IsPoint places (record { key = key; number = from }) i) where
  -- what is looked for doesn't stand before it
  not_before : (n : ℕ) → from ≤ n → (has : HasPlace places key n) → i ≤ has.0
  not_before n low has = at (cases_lt has.0 i)
    where
      at : (has.0 < i) ⊎ (i ≤ has.0) → i ≤ has.0
      at (inr le) = le
      at (inl less) = absurd (both_ways (place_lt (get_or places has.0 (record { key = key; number = n })) (record { key = key; number = from }))
          (ap (λ (q : Place). place_lt q (record { key = key; number = from })) has.2 ∙ (ap is_lt (of_key key n from) ∙ numbers_not_less n from (nat_cmp n from) refl low))
          (point.0 has.0 (record { key = key; number = n }) (omega arith) less))

  pub none_past : length places ≤ i → IsFirst places key from None
  none_past past n low has = let le : i ≤ has.0 = not_before n low has in
      let f : ⊥ = omega (arith, le, has.1, past) in f

  module _ (x : Place) (within : i < length places) (is : get_or places i x ≡ x) where
    -- it isn't below what is looked for
    x_not_less : place_lt x (record { key = key; number = from }) ≡ false
    x_not_less = subst (λ (q : Place). place_lt q (record { key = key; number = from }) ≡ false) is (point.1 i x (omega arith) within)

    -- and nothing that is looked for is below it
    none_less : (n : ℕ) → from ≤ n → HasPlace places key n → place_lt (record { key = key; number = n }) x ≡ false
    none_less n low has =
        subst (λ (q : Place). place_lt q x ≡ false) has.2
        (subst (λ (q : Place). place_lt (get_or places has.0 (record { key = key; number = n })) q ≡ false) (other ∙ is)
        (sorted_far place_lt place_weak places up i has.0 (record { key = key; number = n }) (not_before n low has) has.1))
      where
        other : get_or places i (record { key = key; number = n }) ≡ get_or places i x
        other = get_or_default places i (record { key = key; number = n }) x within

    pub other_key : is_eq (key_cmp x.key key) ≡ false → IsFirst places key from None
    other_key other n low has =
        let same : x.key ≡ key = level x.key key (first_not_less (key_cmp x.key key) (nat_cmp x.number from) x_not_less) (first_not_less (key_cmp key x.key) (nat_cmp n x.number) (none_less n low has)) in
        let tied : key_cmp x.key key ≡ Equal = ap (λ (k : Key). key_cmp k key) same ∙ tied_itself key_total key in
        false≢true (sym other ∙ ap is_eq tied)

    pub found : is_eq (key_cmp x.key key) ≡ true → IsFirst places key from (Some x.number)
    found tied = (low, here, least)
      where
        same : x.key ≡ key
        same = key_exact x.key key (equal (key_cmp x.key key) tied)
          where
            equal : (o : Ordering) → is_eq o ≡ true → o ≡ Equal
            equal Less h = absurd (false≢true h)
            equal Equal h = refl
            equal Greater h = absurd (false≢true h)

        x_is : x ≡ record { key = key; number = x.number }
        x_is = ap (λ (k : Key). let p : Place = record { key = k; number = x.number } in p) same

        low : from ≤ x.number
        low = not_less_numbers x.number from (nat_cmp x.number from) refl
            (ap is_lt (sym (of_key key x.number from)) ∙ (ap (λ (q : Place). place_lt q (record { key = key; number = from })) (sym x_is) ∙ x_not_less))

        here : HasPlace places key x.number
        here = subst (λ (q : Place). Contains places q) x_is (i, within, is)

        least : (k : ℕ) → from ≤ k → k < x.number → ¬ HasPlace places key k
        least k high less has =
            let le : x.number ≤ k = not_less_numbers k x.number (nat_cmp k x.number) refl
            (ap is_lt (sym (of_key key k x.number)) ∙ (ap (λ (q : Place). place_lt (record { key = key; number = k }) q) (sym x_is) ∙ none_less k high has)) in
            let f : ⊥ = omega (arith, le, less) in f

-- ---- an insert at that place

pub inserted_sorted : (places : List Place) (t : Place) (i : ℕ) → i ≤ length places → IsSorted place_cmp places → IsPoint places t i → IsSorted place_cmp (insert places i t)
inserted_sorted places t i le up point k d low within = at (cases_lt (k + 1) i)
  where
    Goal : Type 0
    Goal = place_lt (get_or (insert places i t) (k + 1) d) (get_or (insert places i t) k d) ≡ false

    above : i ≤ k → Goal
    above h = step k refl
      where
        size : length (insert places i t) ≡ length places + 1
        size = length-insert places i t le

        next : get_or (insert places i t) (k + 1) d ≡ get_or places k d
        next = get_or-insert_above places i t d k h le

        at_place : i ≡ k → Goal
        at_place e = subst (λ (q : Place). place_lt (get_or (insert places i t) (k + 1) d) q ≡ false)
            (sym (get_or-insert_at places i t d le) ∙ ap (λ (j : ℕ). get_or (insert places i t) j d) e)
            (subst (λ (q : Place). place_lt q t ≡ false) (sym next) (point.1 k d h (omega (arith, within, size))))

        step : (j : ℕ) → k ≡ j → Goal
        step zero e = at_place (omega (arith, h, e))
        step (suc j) e = on (cases_lt j i)
          where
            on : (j < i) ⊎ (i ≤ j) → Goal
            on (inl less) = at_place (omega (arith, h, e, less))
            on (inr more) =
                let here : get_or (insert places i t) k d ≡ get_or places j d =
                ap (λ (m : ℕ). get_or (insert places i t) m d) (let is : k ≡ j + 1 = omega (arith, e) in is) ∙ get_or-insert_above places i t d j more le in
                subst (λ (q : Place). place_lt (get_or (insert places i t) (k + 1) d) q ≡ false) (sym here)
                (subst (λ (q : Place). place_lt q (get_or places j d) ≡ false) (sym next)
                (sorted_far place_lt place_weak places up j k d (omega (arith, e)) (omega (arith, within, size))))

    at : (k + 1 < i) ⊎ (i ≤ k + 1) → Goal
    at (inl less) =
        subst (λ (q : Place). place_lt (get_or (insert places i t) (k + 1) d) q ≡ false) (sym (get_or-insert_below places i t d k (omega (arith, less)) le))
        (subst (λ (q : Place). place_lt q (get_or places k d) ≡ false) (sym (get_or-insert_below places i t d (k + 1) less le))
        (up k d low (omega (arith, less, le))))
    at (inr more) = on (cases_lt k i)
      where
        on : (k < i) ⊎ (i ≤ k) → Goal
        on (inr h) = above h
        on (inl less) =
            subst (λ (q : Place). place_lt (get_or (insert places i t) (k + 1) d) q ≡ false) (sym (get_or-insert_below places i t d k less le))
            (subst (λ (q : Place). place_lt q (get_or places k d) ≡ false)
            (sym (get_or-insert_at places i t d le) ∙ ap (λ (j : ℕ). get_or (insert places i t) j d) (let is : i ≡ k + 1 = omega (arith, more, less) in is))
            (place_weak.one_way (get_or places k d) t (point.0 k d (omega arith) less)))

pub inserted_holds : (places : List Place) (t : Place) (i : ℕ) (p : Place) → Contains (insert places i t) p ↔ (Contains places p ⊎ (t ≡ p))
inserted_holds places t i p = (
  (λ h. Contains-push_cases places t p (Contains-permutation (insert places i t) (places ++ t ∷ []) p (IsPermutation-sym (places ++ t ∷ []) (insert places i t) moved) h)),
  (λ h. Contains-permutation (places ++ t ∷ []) (insert places i t) p moved (elim h [
    | inl old ↦ Contains-append_left places (t ∷ []) p old
    | inr same ↦ subst (λ (q : Place). Contains (places ++ t ∷ []) q) same (Contains-push places t)
  ])),
)
  where
    moved : IsPermutation (places ++ t ∷ []) (insert places i t)
    moved = IsPermutation-trans (places ++ t ∷ []) (t ∷ places) (insert places i t) (IsPermutation-to_front places t) (IsPermutation-insert places i t)

-- with room an insert succeeds
pub taken : {T E : Type 0} (r : Result T E) (places stays new : List Place) → new ≡ (if is_ok r then places else stays) → IsOk r → new ≡ places
taken (Ok x) places stays new is h = is
taken (Err x) places stays new is h = absurd (false≢true h)

-- ---- lists that grow, and their first entries

get_push : (entries : List Entry) (e : Entry) (n : ℕ) (x : Entry) → slice_get (entries ++ e ∷ []) n ≡ Some x → (slice_get entries n ≡ Some x) ⊎ ((n ≡ length entries) × (e ≡ x))
get_push [] e zero x h = inr (refl, same_Some e x h)
get_push [] e (suc n) x h = absurd (let f : ⊥ = cc in f)
get_push (y ∷ entries) e zero x h = inl h
get_push (y ∷ entries) e (suc n) x h = elim (get_push entries e n x h) [
  | inl old ↦ inl old
  | inr new ↦ inr (ap suc new.0, new.1)
]

get_left : (entries : List Entry) (e : Entry) (n : ℕ) (x : Entry) → slice_get entries n ≡ Some x → slice_get (entries ++ e ∷ []) n ≡ Some x
get_left [] e n x h = absurd (let f : ⊥ = cc in f)
get_left (y ∷ entries) e zero x h = h
get_left (y ∷ entries) e (suc n) x h = get_left entries e n x h

get_last : (entries : List Entry) (e : Entry) → slice_get (entries ++ e ∷ []) (length entries) ≡ Some e
get_last [] e = refl
get_last (y ∷ entries) e = get_last entries e

take_get : (entries : List Entry) (count n : ℕ) (x : Entry) → slice_get (take count entries) n ≡ Some x → (n < count) × (slice_get entries n ≡ Some x)
take_get [] zero n x h = absurd (let f : ⊥ = cc in f)
take_get [] (suc count) n x h = absurd (let f : ⊥ = cc in f)
take_get (y ∷ entries) zero n x h = absurd (let f : ⊥ = cc in f)
take_get (y ∷ entries) (suc count) zero x h = (omega arith, h)
take_get (y ∷ entries) (suc count) (suc n) x h = let rest = take_get entries count n x h in (omega (arith, rest.0), rest.1)

get_take : (entries : List Entry) (count n : ℕ) (x : Entry) → n < count → slice_get entries n ≡ Some x → slice_get (take count entries) n ≡ Some x
get_take [] count n x less h = absurd (let f : ⊥ = cc in f)
get_take (y ∷ entries) zero n x less h = absurd (let f : ⊥ = omega (arith, less) in f)
get_take (y ∷ entries) (suc count) zero x less h = h
get_take (y ∷ entries) (suc count) (suc n) x less h = get_take entries count n x (omega (arith, less)) h

abbrev pub ArePlaces : List Entry → List Place → Type 0
ArePlaces entries places = (p : Place) → Contains places p ↔ IsPlace entries p

pub none_places : ArePlaces [] []
none_places p = ((λ h. absurd (let f : ⊥ = omega (arith, h.1) in f)), (λ h. absurd (let e : None ≡ Some h.0 = h.1 in let f : ⊥ = cc in f)))

pub more_places : (entries : List Entry) (places new : List Place) (e : Entry) (t : Place) → t.key ≡ key_of e → t.number ≡ length entries →
    ((p : Place) → Contains new p ↔ (Contains places p ⊎ (t ≡ p))) → ArePlaces entries places → ArePlaces (entries ++ e ∷ []) new
more_places entries places new e t key number holds are p = (forth, back)
  where
    forth : Contains new p → IsPlace (entries ++ e ∷ []) p
    forth h = elim ((holds p).0 h) [
      | inl old ↦ let at = (are p).0 old in (at.0, get_left entries e p.number at.0 at.1, at.2)
      | inr same ↦ (e, ap (λ (n : ℕ). slice_get (entries ++ e ∷ []) n) (sym (ap (λ (q : Place). q.number) same) ∙ number) ∙ get_last entries e, sym (ap (λ (q : Place). q.key) same) ∙ key)
    ]

    back : IsPlace (entries ++ e ∷ []) p → Contains new p
    back (x, at, is) = (holds p).1 (elim (get_push entries e p.number x at) [
      | inl old ↦ inl ((are p).1 (x, old, is))
      | inr last ↦ inr (λ i. record { key = (key ∙ (ap key_of last.1 ∙ sym is)) i; number = (number ∙ sym last.0) i })
    ])

-- the step of a loop over the entries
pub more_of : (entries : List Entry) (n : ℕ) (e : Entry) (places new : List Place) (t : Place) → new ≡ places ++ t ∷ [] → n < length entries →
    e ≡ get_or entries n e → t.key ≡ key_of e → t.number ≡ n → ArePlaces (take n entries) places → ArePlaces (take (n + 1) entries) new
more_of entries n e places new t is within here key number are =
    subst (λ (es : List Entry). ArePlaces es new) (sym (take_more entries n e within))
    (more_places (take n entries) places new (get_or entries n e) t (key ∙ ap key_of here) (number ∙ sym (length-take-le n entries (omega arith))) holds are)
  where
    holds : (p : Place) → Contains new p ↔ (Contains places p ⊎ (t ≡ p))
    holds p = (
      (λ h. Contains-push_cases places t p (subst (λ (ps : List Place). Contains ps p) is h)),
      (λ h. subst (λ (ps : List Place). Contains ps p) (sym is) (elim h [
        | inl old ↦ Contains-append_left places (t ∷ []) p old
        | inr same ↦ subst (λ (q : Place). Contains (places ++ t ∷ []) q) same (Contains-push places t)
      ])),
    )

-- all places, once they are sorted
pub index_of : (entries : List Entry) (n : ℕ) (places new : List Place) → length entries ≤ n → ArePlaces (take n entries) places → IsPermutation places new → IsSorted place_cmp new → IsIndex entries new
index_of entries n places new past are moved up = record {
  sorted = up;
  are = λ p. (
    (λ h. (all p).0 (Contains-permutation new places p (IsPermutation-sym places new moved) h)),
    (λ h. Contains-permutation places new p moved ((all p).1 h)),
  );
}
  where
    all : ArePlaces entries places
    all = subst (λ (es : List Entry). ArePlaces es places) (take_all n entries past) are

pub no_index : IsIndex [] []
no_index = record { sorted = λ k d low within. absurd (let f : ⊥ = omega (arith, within) in f); are = none_places }

pub more_index : (entries : List Entry) (places new : List Place) (e : Entry) (t : Place) → ((p : Place) → Contains new p ↔ (Contains places p ⊎ (t ≡ p))) →
    IsSorted place_cmp new → t.key ≡ key_of e → t.number ≡ length entries → IsIndex entries places → IsIndex (entries ++ e ∷ []) new
more_index entries places new e t holds up key number index = record { sorted = up; are = more_places entries places new e t key number holds index.are }

pub front_index : (entries : List Entry) (places : List Place) (count : ℕ) → IsIndex entries places → IsIndex (take count entries) (filter (is_below count) places)
front_index entries places count index = record {
  sorted = IsSortedBy-filter place_lt place_weak (is_below count) places index.sorted;
  are = λ p. (
    (λ h. let has = from_kept (is_below count) places p h in let at = (index.are p).0 has.0 in
        (at.0, get_take entries count p.number at.0 (ltb-true p.number count has.1) at.1, at.2)),
    (λ h. let at = take_get entries count p.number h.0 h.1 in
        kept (is_below count) places p ((index.are p).1 (h.0, at.1, h.2)) (lt-ltb p.number count at.0)),
  );
}

-- ---- what an index tells of its entries

abbrev pub key_of_parts : ℕ → ℕ → Key
key_of_parts post command = record { predicate = post; command = Some command }

is_triple : (entries : List Entry) (post command n : ℕ) → IsPlace entries (record { key = record { predicate = post; command = Some command }; number = n }) → IsFor entries post command n
is_triple entries post command n (e, at, is) = on e at is
  where
    on : (e : Entry) → slice_get entries n ≡ Some e → key_of_parts post command ≡ key_of e → IsFor entries post command n
    on (OfTriple t) at is = record { triple = t; stands = at; post_is = sym (ap (λ (k : Key). k.predicate) is); command_is = sym (same_Some command t.command (ap (λ (k : Key). k.command) is)) }
    on (OfInitial i) at is = absurd (let e : Some command ≡ None = ap (λ (k : Key). k.command) is in let f : ⊥ = cc in f)

from_triple : (entries : List Entry) (post command n : ℕ) → IsFor entries post command n → IsPlace entries (record { key = key_of_parts post command; number = n })
from_triple entries post command n f = (OfTriple f.triple, f.stands, λ i. record { predicate = sym f.post_is i; command = Some (sym f.command_is i) })

pub next_for : (entries : List Entry) (places : List Place) (post command from : ℕ) (found : Option ℕ) → IsIndex entries places → IsFirst places (key_of_parts post command) from found → IsNextFor entries post command from found
next_for entries places post command from None index none =
    λ n low f. none n low ((index.are (record { key = key_of_parts post command; number = n })).1 (from_triple entries post command n f))
next_for entries places post command from (Some n) index first = (
  first.0,
  is_triple entries post command n ((index.are (record { key = key_of_parts post command; number = n })).0 first.1),
  (λ k high less f. first.2 k high less ((index.are (record { key = key_of_parts post command; number = k })).1 (from_triple entries post command k f))),
)

pub initial_for : (entries : List Entry) (places : List Place) (predicate : ℕ) (found : Option ℕ) → IsIndex entries places → IsFirst places (record { predicate = predicate; command = None }) 0 found → (is_some found ≡ true) ↔ HasInitial entries predicate
initial_for entries places predicate None index none = (
  (λ h. absurd (false≢true h)),
  (λ h. absurd (none h.1.0 (omega arith) ((index.are (record { key = record { predicate = predicate; command = None }; number = h.1.0 })).1
      (OfInitial h.0, slice_get-get_or entries h.1.0 (OfInitial h.0) h.1.1 ∙ ap (λ (e : Entry). let o : Option Entry = Some e in o) h.1.2, λ j. record { predicate = sym h.2 j; command = None })))),
)
initial_for entries places predicate (Some n) index first = ((λ h. on at.0 at.1 at.2), (λ h. refl))
  where
    at : IsPlace entries (record { key = record { predicate = predicate; command = None }; number = n })
    at = (index.are (record { key = record { predicate = predicate; command = None }; number = n })).0 first.1

    on : (e : Entry) → slice_get entries n ≡ Some e → (let k : Key = record { predicate = predicate; command = None } in k) ≡ key_of e → HasInitial entries predicate
    on (OfTriple t) at is = absurd (let e : None ≡ Some t.command = ap (λ (k : Key). k.command) is in let f : ⊥ = cc in f)
    on (OfInitial i) at is = (i, (n, slice_get_within entries n (OfInitial i) at, get_or_from_slice_get entries n (OfInitial i) (OfInitial i) at), sym (ap (λ (k : Key). k.predicate) is))
