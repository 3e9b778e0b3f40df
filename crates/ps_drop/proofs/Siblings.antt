-- The pairs of one parent lie next to each other in a list that is sorted by parents.
use Rattle.std.proofs.Common.{◌≡◌, ℕ, ◌+◌, ◌-◌, ◌<◌, ◌≤◌, true, false, List, length, get_or, take, drop, ltb, leb, sym, ap, ◌∙◌, subst, arith, Contains, length-drop, inl, inr}
use Rattle.std.specs.List.Sorted.{IsPartitionPoint, IsNonDecreasingBy}
use Rattle.std.proofs.lemmas.List.{get_or-take, get_or-drop, length-take-le, take_rest}
use Rattle.std.proofs.lemmas.List.Elements.{Contains-get_or}
use Rattle.std.proofs.lemmas.List.Sorted.{IsNonDecreasingBy-drop}
use Rattle.std.proofs.lemmas.Bool.{cases_lt, leb-true, leb-false, ltb-true, ltb-false}
use Rattle.ps_drop.specs.declared.pair.Pair.{Pair}
use Rattle.ps_drop.specs.inner.Visit.{AreChildren}

-- the first pairs are of lesser parents, and the others are not
abbrev pub IsFirst : List Pair → ℕ → ℕ → Type 0
IsFirst sorted parent first = IsPartitionPoint (λ (p : Pair). ltb p.other parent ≡ true) (λ (p : Pair). ltb p.other parent ≡ false) sorted first

-- the first pairs are of parents up to this one, and the others are not
abbrev pub IsCount : List Pair → ℕ → ℕ → Type 0
IsCount rest parent count = IsPartitionPoint (λ (p : Pair). leb p.other parent ≡ true) (λ (p : Pair). leb p.other parent ≡ false) rest count

-- what is left of a list in order is in order, as a slice shows it
pub rest_sorted : (sorted : List Pair) (first : ℕ) → IsNonDecreasingBy (λ (p : Pair). p.other) sorted → IsNonDecreasingBy (λ (p : Pair). p.other) (take (length sorted - first) (drop first sorted))
rest_sorted sorted first up = rw take_rest (IsNonDecreasingBy-drop (λ (p : Pair). p.other) first sorted up)

sibling_at : (sorted : List Pair) (parent first count : ℕ) → IsFirst sorted parent first → count ≤ length (drop first sorted) → IsCount (drop first sorted) parent count
    → (k : ℕ) (d : Pair) → k < count → Contains sorted (get_or (take count (drop first sorted)) k d) × ((get_or (take count (drop first sorted)) k d).other ≡ parent)
sibling_at sorted parent first count begins fits ends k d below =
    let in_list : first + k < length sorted = omega (arith, length-drop first sorted) in
    let same : get_or (take count (drop first sorted)) k d ≡ get_or sorted (first + k) d = get_or-take count (drop first sorted) k d below ∙ get_or-drop first sorted k d in
    let not_below : parent ≤ (get_or sorted (first + k) d).other = ltb-false _ _ (begins.1 (first + k) d (omega arith) in_list) in
    let upto : (get_or (drop first sorted) k d).other ≤ parent = leb-true _ _ (ends.0 k d (omega arith) below) in
    let read : (get_or (drop first sorted) k d).other ≡ (get_or sorted (first + k) d).other = ap (λ (p : Pair). p.other) (get_or-drop first sorted k d) in
    let is : (get_or sorted (first + k) d).other ≡ parent = omega arith in
    subst (λ (p : Pair). Contains sorted p × (p.other ≡ parent)) (sym same) (Contains-get_or sorted (first + k) d in_list, is)

sibling_found : (sorted : List Pair) (parent first count : ℕ) → IsFirst sorted parent first → count ≤ length (drop first sorted) → IsCount (drop first sorted) parent count
    → (p : Pair) → Contains sorted p → p.other ≡ parent → Contains (take count (drop first sorted)) p
sibling_found sorted parent first count begins fits ends p (j, inside, at) of_parent =
    let read : (get_or sorted j p).other ≡ parent = ap (λ (q : Pair). q.other) at ∙ of_parent in
    let from : first ≤ j = elim (cases_lt j first) [
      | inl below ↦ let less : (get_or sorted j p).other < parent = ltb-true _ _ (begins.0 j p (omega arith) below) in absurd (omega arith)
      | inr past ↦ past
    ] in
    let back : first + (j - first) ≡ j = omega arith in
    let there : get_or (drop first sorted) (j - first) p ≡ p = get_or-drop first sorted (j - first) p ∙ ap (λ (i : ℕ). get_or sorted i p) back ∙ at in
    let within : j - first < length (drop first sorted) = omega (arith, length-drop first sorted) in
    let upto : j - first < count = elim (cases_lt (j - first) count) [
      | inl below ↦ below
      | inr past ↦
          let above : parent < (get_or (drop first sorted) (j - first) p).other = leb-false _ _ (ends.1 (j - first) p past within) in
          let no : (get_or (drop first sorted) (j - first) p).other ≡ parent = ap (λ (q : Pair). q.other) there ∙ of_parent in
          absurd (omega arith)
    ] in
    (j - first, omega (arith, length-take-le count (drop first sorted) fits), get_or-take count (drop first sorted) (j - first) p upto ∙ there)

-- the pairs that two searches for an end of the siblings leave are the siblings
pub are_siblings : (sorted : List Pair) (parent first count : ℕ) → IsFirst sorted parent first → count ≤ length (take (length sorted - first) (drop first sorted))
    → IsCount (take (length sorted - first) (drop first sorted)) parent count
    → AreChildren sorted parent (take count (take (length sorted - first) (drop first sorted)))
are_siblings sorted parent first count begins fits ends =
    let fits' = rw (take_rest sorted first) at fits in
    let ends' = rw (take_rest sorted first) at ends in
    rw (take_rest sorted first) (record {
      only = λ k d below. sibling_at sorted parent first count begins fits' ends' k d (omega (arith, length-take-le count (drop first sorted) fits'));
      every = sibling_found sorted parent first count begins fits' ends';
    })
