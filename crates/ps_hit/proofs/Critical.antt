-- Each number of a minimal hitting set is the only one that meets some set.
use Rattle.std.proofs.Common.{◌≡◌, ◌≢◌, ℕ, Bool, true, false, cond, List, [], ◌∷◌, sym, ◌∙◌, subst, refl, inl, inr, ◌⊎◌, Contains, All, eqb}
use Rattle.std.specs.List.{AllZip}
use Rattle.std.proofs.lemmas.Bool.{cases_eq, eqb-true, eqb-false}
use Rattle.std.proofs.lemmas.List.Elements.{All-nil, All-cons, All-contains}
use Rattle.ps_hit.specs.declared.cover.Cover.{Cover}
use Rattle.ps_hit.specs.declared.cover.Cover.TheVariants.{Unmet, Once, Again}
use Rattle.ps_hit.specs.Hitting.{Meets, IsSubset, IsHit, IsMinimalHit}
use Rattle.ps_hit.specs.inner.Covers.{IsCover, HasOwn}
use Rattle.ps_list.proofs.Members.{nothing, cons_cases, here, there}
use Rattle.ps_list.proofs.Numbers.{is_in}

-- ---- a list without a number

without : ℕ → List ℕ → List ℕ
without n [] = []
without n (x ∷ xs) = cond (eqb x n) (without n xs) (x ∷ without n xs)

rest_of_first : (n x : ℕ) (xs : List ℕ) (m : ℕ) (t : Bool) → eqb x n ≡ t → (Contains (without n xs) m → Contains xs m × (m ≢ n))
    → Contains (cond t (without n xs) (x ∷ without n xs)) m → Contains (x ∷ xs) m × (m ≢ n)
rest_of_first n x xs m true e later h = let rest = later h in (there x xs m rest.0, rest.1)
rest_of_first n x xs m false e later h = elim (cons_cases x (without n xs) m h) [
  | inl is ↦ (subst (λ (k : ℕ). Contains (x ∷ xs) k) is (here x xs), λ same. eqb-false x n e (is ∙ same))
  | inr h' ↦ (let rest = later h' in (there x xs m rest.0, rest.1))
]

rest_of : (n : ℕ) (xs : List ℕ) (m : ℕ) → Contains (without n xs) m → Contains xs m × (m ≢ n)
unfolding without
rest_of n [] m h = absurd (nothing m h)
rest_of n (x ∷ xs) m h = rest_of_first n x xs m (eqb x n) refl (rest_of n xs m) h

in_rest_first : (n x : ℕ) (xs : List ℕ) (m : ℕ) (t : Bool) → eqb x n ≡ t → m ≢ n → (x ≡ m) ⊎ Contains (without n xs) m → Contains (cond t (without n xs) (x ∷ without n xs)) m
in_rest_first n x xs m true e other (inl is) = absurd (other (sym is ∙ eqb-true x n e))
in_rest_first n x xs m true e other (inr later) = later
in_rest_first n x xs m false e other (inl is) = subst (λ (k : ℕ). Contains (x ∷ without n xs) k) is (here x (without n xs))
in_rest_first n x xs m false e other (inr later) = there x (without n xs) m later

in_rest : (n : ℕ) (xs : List ℕ) (m : ℕ) → Contains xs m → m ≢ n → Contains (without n xs) m
unfolding without
in_rest n [] m h other = absurd (nothing m h)
in_rest n (x ∷ xs) m h other = in_rest_first n x xs m (eqb x n) refl other (elim (cons_cases x xs m h) [ inl is ↦ inl is | inr later ↦ inr (in_rest n xs m later other) ])

-- ---- what meets a set can be found

meets_or_not : (h set : List ℕ) → Meets h set ⊎ (¬ Meets h set)
meets_or_not [] set = inr (λ m. nothing m.0 m.1)
meets_or_not (x ∷ xs) set = elim (is_in set x) [
  | inl has ↦ inl (x, here x xs, has)
  | inr lacks ↦ elim (meets_or_not xs set) [
    | inl m ↦ inl (m.0, there x xs m.0 m.1, m.2)
    | inr none ↦ inr (λ m. elim (cons_cases x xs m.0 m.1) [ inl is ↦ lacks (subst (λ (k : ℕ). Contains set k) (sym is) m.2) | inr later ↦ none (m.0, later, m.2) ])
  ]
]

hits_or_misses : (h : List ℕ) (sets : List (List ℕ)) → IsHit sets h ⊎ ((set : List ℕ) × Contains sets set × (¬ Meets h set))
hits_or_misses h [] = inl (All-nil (Meets h))
hits_or_misses h (set ∷ sets) = elim (meets_or_not h set) [
  | inl m ↦ elim (hits_or_misses h sets) [
    | inl all ↦ inl (All-cons (Meets h) set sets m all)
    | inr missed ↦ inr (missed.0, there set sets missed.0 missed.1, missed.2)
  ]
  | inr none ↦ inr (set, here set sets, none)
]

-- some set has this number alone of these
pub record IsCritical (sets : List (List ℕ)) (hit : List ℕ) (n : ℕ) : Type 0 where
  pub set : List ℕ
  pub listed : Contains sets set
  pub has : Contains set n
  pub alone : (m : ℕ) → Contains hit m → Contains set m → m ≡ n

critical_at : (sets : List (List ℕ)) (hit : List ℕ) → IsMinimalHit sets hit → (n : ℕ) → (set : List ℕ) → Contains sets set → (¬ Meets (without n hit) set) → IsCritical sets hit n
critical_at sets hit is n set listed missed =
    let alone : (m : ℕ) → Contains hit m → Contains set m → m ≡ n = λ m h in_set. elim (cases_eq m n) [ inl same ↦ same | inr other ↦ absurd (missed (m, in_rest n hit m h other, in_set)) ] in
    let met : Meets hit set = All-contains (Meets hit) sets set is.hits listed in
    record { set = set; listed = listed; has = subst (λ (m : ℕ). Contains set m) (alone met.0 met.1 met.2) met.2; alone = alone }

pub critical : (sets : List (List ℕ)) (hit : List ℕ) → IsMinimalHit sets hit → (n : ℕ) → Contains hit n → IsCritical sets hit n
critical sets hit is n h =
    elim (hits_or_misses (without n hit) sets) [
      | inl all ↦ absurd (is.minimal (without n hit) ((λ m k. (rest_of n hit m k).0), (λ back. (rest_of n hit n (back n h)).1 refl)) all)
      | inr missed ↦ critical_at sets hit is n missed.0 missed.1 missed.2
    ]

-- ---- covers and sets

-- a set among the sets, with its cover
pub record IsCovered (chosen set : List ℕ) (covers : List Cover) : Type 0 where
  pub cover : Cover
  pub listed : Contains covers cover
  pub is : IsCover chosen set cover

pub covered : (chosen : List ℕ) (sets : List (List ℕ)) (covers : List Cover) → AllZip (IsCover chosen) sets covers → (set : List ℕ) → Contains sets set → IsCovered chosen set covers
covered chosen [] cs are set h = absurd (nothing set h)
covered chosen (x ∷ xs) [] are set h = absurd are
covered chosen (x ∷ xs) (c ∷ cs) are set h = elim (cons_cases x xs set h) [
  | inl is ↦ record { cover = c; listed = here c cs; is = subst (λ (s : List ℕ). IsCover chosen s c) is are.0 }
  | inr later ↦ let rest = covered chosen xs cs are.1 set later in record { cover = rest.cover; listed = there c cs rest.cover rest.listed; is = rest.is }
]

-- a cover among the covers, with its set
covers_set : (chosen : List ℕ) (sets : List (List ℕ)) (covers : List Cover) → AllZip (IsCover chosen) sets covers → (c : Cover) → Contains covers c
    → (set : List ℕ) × Contains sets set × IsCover chosen set c
covers_set chosen [] [] are c h = absurd (nothing c h)
covers_set chosen [] (x ∷ xs) are c h = absurd are
covers_set chosen (s ∷ ss) [] are c h = absurd are
covers_set chosen (s ∷ ss) (x ∷ xs) are c h = elim (cons_cases x xs c h) [
  | inl is ↦ (s, here s ss, subst (λ (k : Cover). IsCover chosen s k) is are.0)
  | inr later ↦ (let rest = covers_set chosen ss xs are.1 c later in (rest.0, there s ss rest.0 rest.1, rest.2))
]

contains_once : (covers : List Cover) (n : ℕ) → HasOwn covers n → Contains covers (Once n)
contains_once covers n h = subst (λ (c : Cover). Contains covers c) h.4 (h.0, h.2, h.3)

pub once_contains : (covers : List Cover) (n : ℕ) → Contains covers (Once n) → HasOwn covers n
once_contains covers n h = (h.0, Once n, h.1, h.2, refl)

own_at : (chosen : List ℕ) (covers : List Cover) (set hit : List ℕ) → IsSubset chosen hit → (n : ℕ) → Contains chosen n → Contains set n → ((m : ℕ) → Contains hit m → Contains set m → m ≡ n)
    → (c : Cover) → Contains covers c → IsCover chosen set c → HasOwn covers n
own_at chosen covers set hit below n h has alone Unmet listed is = absurd (is (n, h, has))
own_at chosen covers set hit below n h has alone (Once k) listed is =
    once_contains covers n (subst (λ (m : ℕ). Contains covers (Once m)) (alone k (below k is.0) is.1) listed)
own_at chosen covers set hit below n h has alone Again listed is =
    absurd (is.2 (alone is.0 (below is.0 is.3) is.5 ∙ sym (alone is.1 (below is.1 is.4) is.6)))

-- each chosen number of a minimal hitting set is the only chosen one of some set
pub has_own_below : (sets : List (List ℕ)) (chosen hit : List ℕ) (covers : List Cover) → AllZip (IsCover chosen) sets covers → IsMinimalHit sets hit → IsSubset chosen hit
    → (n : ℕ) → Contains chosen n → HasOwn covers n
has_own_below sets chosen hit covers are is below n h =
    let k = critical sets hit is n (below n h) in
    let c = covered chosen sets covers are k.set k.listed in
    own_at chosen covers k.set hit below n h k.has k.alone c.cover c.listed c.is

-- ---- where every set is met

met_cover : (chosen set : List ℕ) (c : Cover) → c ≢ Unmet → IsCover chosen set c → Meets chosen set
met_cover chosen set Unmet met is = absurd (met refl)
met_cover chosen set (Once k) met is = (k, is.0, is.1)
met_cover chosen set Again met is = (is.0, is.3, is.5)

pub all_met : (chosen : List ℕ) (sets : List (List ℕ)) (covers : List Cover) → AllZip (IsCover chosen) sets covers → All (λ (c : Cover). c ≢ Unmet) covers
    → (set : List ℕ) → Contains sets set → Meets chosen set
all_met chosen sets covers are met set listed =
    let c = covered chosen sets covers are set listed in
    met_cover chosen set c.cover (All-contains (λ (k : Cover). k ≢ Unmet) covers c.cover met c.listed) c.is

hits_all : (h : List ℕ) (sets : List (List ℕ)) → ((set : List ℕ) → Contains sets set → Meets h set) → IsHit sets h
hits_all h [] each = All-nil (Meets h)
hits_all h (set ∷ sets) each = All-cons (Meets h) set sets (each set (here set sets)) (hits_all h sets (λ s k. each s (there set sets s k)))

-- numbers that meet every set, each the only one of some set, are a minimal hitting set, however they are listed
pub leaf_minimal : (sets : List (List ℕ)) (chosen hit : List ℕ) (covers : List Cover) → AllZip (IsCover chosen) sets covers → All (HasOwn covers) chosen
    → All (λ (c : Cover). c ≢ Unmet) covers → IsSubset chosen hit → IsSubset hit chosen → IsMinimalHit sets hit
leaf_minimal sets chosen hit covers are own met to back = record {
  hits = hits_all hit sets (λ set listed. let m = all_met chosen sets covers are met set listed in (m.0, to m.0 m.1, m.2));
  minimal = λ part strict hits. strict.1 (λ n h.
      let in_chosen : Contains chosen n = back n h in
      let s = covers_set chosen sets covers are (Once n) (contains_once covers n (All-contains (HasOwn covers) chosen n own in_chosen)) in
      let m : Meets part s.0 = All-contains (Meets part) sets s.0 hits s.1 in
      subst (λ (k : ℕ). Contains part k) (s.2.2 m.0 (back m.0 (strict.0 m.0 m.1)) m.2) m.1);
}

-- a minimal hitting set that has such numbers has no others
pub leaf_all : (sets : List (List ℕ)) (chosen hit : List ℕ) (covers : List Cover) → AllZip (IsCover chosen) sets covers → All (λ (c : Cover). c ≢ Unmet) covers
    → IsMinimalHit sets hit → IsSubset chosen hit → IsSubset hit chosen
leaf_all sets chosen hit covers are met is below n h =
    let k = critical sets hit is n h in
    let m = all_met chosen sets covers are met k.set k.listed in
    subst (λ (j : ℕ). Contains chosen j) (k.alone m.0 (below m.0 m.1) m.2) m.1
