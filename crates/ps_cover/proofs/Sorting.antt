-- Which sorted lists are parts of which: by the numbers' counts.
use Rattle.std.proofs.Common.{◌≡◌, ◌≢◌, ◌<◌, ◌≤◌, ◌+◌, ℕ, suc, Bool, true, false, cond, ◌==◌, List, [], ◌∷◌, length, drop, get_or, filter, refl, sym, ap, ◌∙◌, subst, inl, inr, if◌then◌else◌, arith}
use Rattle.std.specs.List.Sorted.{IsNonDecreasing}
use Rattle.std.proofs.lemmas.Bool.{cases_eq, cases_lt, eq-eqb, ne_eqb, false≢true}
use Rattle.std.proofs.lemmas.List.{drop_more, drop_all, length-drop}
use Rattle.ps_cover.specs.Within.{times, IsWithinList}
use Rattle.ps_cover.specs.inner.Parts.{is_sublist, IsFoundMore}

times_first : (n x : ℕ) (xs : List ℕ) → x ≡ n → times n (x ∷ xs) ≡ times n xs + 1
times_first n x xs e = at (x == n) (eq-eqb x n e)
  where
    at : (b : Bool) → b ≡ true → length (cond b (x ∷ filter (λ m. m == n) xs) (filter (λ m. m == n) xs)) ≡ times n xs + 1
    at true h = omega arith
    at false h = absurd (false≢true h)

times_later : (n x : ℕ) (xs : List ℕ) → x ≢ n → times n (x ∷ xs) ≡ times n xs
times_later n x xs other = at (x == n) (ne_eqb x n other)
  where
    at : (b : Bool) → b ≡ false → length (cond b (x ∷ filter (λ m. m == n) xs) (filter (λ m. m == n) xs)) ≡ times n xs
    at true h = absurd (false≢true (sym h))
    at false h = refl

part_same : (x y : ℕ) (xs ys : List ℕ) → x ≡ y → is_sublist (x ∷ xs) (y ∷ ys) ≡ is_sublist xs ys
part_same x y xs ys e = at (x == y) (eq-eqb x y e)
  where
    at : (b : Bool) → b ≡ true → (if b then is_sublist xs ys else is_sublist (x ∷ xs) ys) ≡ is_sublist xs ys
    at true h = refl
    at false h = absurd (false≢true h)

part_other : (x y : ℕ) (xs ys : List ℕ) → x ≢ y → is_sublist (x ∷ xs) (y ∷ ys) ≡ is_sublist (x ∷ xs) ys
part_other x y xs ys other = at (x == y) (ne_eqb x y other)
  where
    at : (b : Bool) → b ≡ false → (if b then is_sublist xs ys else is_sublist (x ∷ xs) ys) ≡ is_sublist (x ∷ xs) ys
    at true h = absurd (false≢true (sym h))
    at false h = refl

more_times : (n y : ℕ) (ys : List ℕ) → times n ys ≤ times n (y ∷ ys)
more_times n y ys = elim (cases_eq y n) [
  | inl is ↦ (let e : times n (y ∷ ys) ≡ times n ys + 1 = times_first n y ys is in omega (arith, e))
  | inr other ↦ (let e : times n (y ∷ ys) ≡ times n ys = times_later n y ys other in omega (arith, e))
]

pub within_from_part : (xs ys : List ℕ) → is_sublist xs ys ≡ true → IsWithinList xs ys
within_from_part [] ys h n = omega arith
within_from_part (x ∷ xs) [] h n = absurd (false≢true h)
within_from_part (x ∷ xs) (y ∷ ys) h n = elim (cases_eq x y) [
  | inl same ↦
      let rest : times n xs ≤ times n ys = within_from_part xs ys (sym (part_same x y xs ys same) ∙ h) n in
      elim (cases_eq x n) [
        | inl is ↦ (let a : times n (x ∷ xs) ≡ times n xs + 1 = times_first n x xs is in let b : times n (y ∷ ys) ≡ times n ys + 1 = times_first n y ys (sym same ∙ is) in omega (arith, a, b, rest))
        | inr other ↦ (let a : times n (x ∷ xs) ≡ times n xs = times_later n x xs other in let b : times n ys ≤ times n (y ∷ ys) = more_times n y ys in omega (arith, a, b, rest))
      ]
  | inr other ↦
      let rest : times n (x ∷ xs) ≤ times n ys = within_from_part (x ∷ xs) ys (sym (part_other x y xs ys other) ∙ h) n in
      let b : times n ys ≤ times n (y ∷ ys) = more_times n y ys in
      omega (arith, b, rest)
]

-- all numbers of the list are at least this one
abbrev AllFrom : ℕ → List ℕ → Type 0
AllFrom n [] = Unit {0}
AllFrom n (x ∷ xs) = (n ≤ x) × AllFrom n xs

abbrev Sorted : List ℕ → Type 0
Sorted [] = Unit {0}
Sorted (x ∷ xs) = AllFrom x xs × Sorted xs

from_less : (m n : ℕ) (xs : List ℕ) → m ≤ n → AllFrom n xs → AllFrom m xs
from_less m n [] le h = tt
from_less m n (x ∷ xs) le h = (omega (arith, le, h.0), from_less m n xs le h.1)

none_below : (m n : ℕ) (xs : List ℕ) → m < n → AllFrom n xs → times m xs ≡ 0
none_below m n [] lt h = refl
none_below m n (x ∷ xs) lt h = times_later m x xs (λ e. (let le : n ≤ x = h.0 in let f : ⊥ = omega (arith, e, lt, le) in f)) ∙ none_below m n xs lt h.1

pub part_from_within : (xs ys : List ℕ) → Sorted xs → Sorted ys → IsWithinList xs ys → is_sublist xs ys ≡ true
part_from_within [] ys sx sy w = refl
part_from_within (x ∷ xs) [] sx sy w =
    let le : times x (x ∷ xs) ≤ 0 = w x in
    let e : times x (x ∷ xs) ≡ times x xs + 1 = times_first x x xs refl in
    absurd (omega (arith, le, e))
part_from_within (x ∷ xs) (y ∷ ys) sx sy w = elim (cases_eq x y) [
  | inl same ↦ part_same x y xs ys same ∙ part_from_within xs ys sx.1 sy.1 (λ n.
      let le : times n (x ∷ xs) ≤ times n (y ∷ ys) = w n in
      elim (cases_eq x n) [
        | inl is ↦ (let a : times n (x ∷ xs) ≡ times n xs + 1 = times_first n x xs is in let b : times n (y ∷ ys) ≡ times n ys + 1 = times_first n y ys (sym same ∙ is) in omega (arith, a, b, le))
        | inr other ↦ (let a : times n (x ∷ xs) ≡ times n xs = times_later n x xs other in let b : times n (y ∷ ys) ≡ times n ys = times_later n y ys (λ e. other (same ∙ e)) in omega (arith, a, b, le))
      ])
  | inr other ↦ part_other x y xs ys other ∙ part_from_within (x ∷ xs) ys sx sy.1 (λ n. elim (cases_eq y n) [
    | inl is ↦ elim (cases_lt n x) [
      | inl below ↦ (let none : times n (x ∷ xs) ≡ 0 = none_below n x (x ∷ xs) below (omega arith, sx.0) in omega (arith, none))
      | inr above ↦
          let lt : x < y = omega (arith, is, above, other) in
          let none : times x (y ∷ ys) ≡ 0 = none_below x y (y ∷ ys) lt (omega arith, sy.0) in
          let some : times x (x ∷ xs) ≡ times x xs + 1 = times_first x x xs refl in
          let le : times x (x ∷ xs) ≤ times x (y ∷ ys) = w x in
          absurd (omega (arith, none, some, le))
    ]
    | inr not_it ↦ (let b : times n (y ∷ ys) ≡ times n ys = times_later n y ys not_it in let le : times n (x ∷ xs) ≤ times n (y ∷ ys) = w n in omega (arith, b, le))
  ])
]

-- ---- from the order of neighbours

rest_sorted : (x : ℕ) (xs : List ℕ) → IsNonDecreasing (x ∷ xs) → IsNonDecreasing xs
rest_sorted x xs h i j d le inside = h (suc i) (suc j) d (omega (arith, le)) (omega (arith, inside))

pub sorted_from : (xs : List ℕ) → IsNonDecreasing xs → Sorted xs
sorted_from [] h = tt
sorted_from (x ∷ xs) h = (first xs h (sorted_from xs (rest_sorted x xs h)), sorted_from xs (rest_sorted x xs h))
  where
    first : (ys : List ℕ) → IsNonDecreasing (x ∷ ys) → Sorted ys → AllFrom x ys
    first [] h s = tt
    first (y ∷ ys) h s = (let le : x ≤ y = h 0 1 0 (omega arith) (omega arith) in (le, from_less x y ys le s.0))

-- ---- a step of the loop

pub found_part : (xs ys : List ℕ) (done i y next : ℕ) → i < length ys → y ≡ get_or ys i 0 → done ≤ length xs → IsFoundMore xs done y next → (is_sublist (drop next xs) (drop (i + 1) ys) ≡ is_sublist (drop done xs) (drop i ys)) × (next ≤ length xs)
found_part xs ys done i y next inside is within (inl w) = (
  (let here : is_sublist (get_or xs done 0 ∷ drop (done + 1) xs) (get_or ys i 0 ∷ drop (i + 1) ys) ≡ is_sublist (drop (done + 1) xs) (drop (i + 1) ys) = part_same (get_or xs done 0) (get_or ys i 0) (drop (done + 1) xs) (drop (i + 1) ys) (w.1 ∙ is) in
      rw (w.2, drop_more xs done 0 w.0, drop_more ys i 0 inside) (sym here)),
  (let lt : done < length xs = w.0 in let e : next ≡ done + 1 = w.2 in omega (arith, lt, e)),
)
found_part xs ys done i y next inside is within (inr w) = (
  elim (cases_lt done (length xs)) [
    | inl lt ↦
        let other : get_or xs done 0 ≢ get_or ys i 0 = elim w.0 [ inl ends ↦ absurd (omega (arith, ends, lt)) | inr not_it ↦ (λ e. not_it (e ∙ sym is)) ] in
        let here : is_sublist (get_or xs done 0 ∷ drop (done + 1) xs) (get_or ys i 0 ∷ drop (i + 1) ys) ≡ is_sublist (get_or xs done 0 ∷ drop (done + 1) xs) (drop (i + 1) ys) = part_other (get_or xs done 0) (get_or ys i 0) (drop (done + 1) xs) (drop (i + 1) ys) other in
        rw (w.1, drop_more xs done 0 lt, drop_more ys i 0 inside) (sym here)
    | inr end ↦ rw (w.1, drop_all done xs end) refl
  ],
  (let e : next ≡ done = w.1 in omega (arith, e, within)),
)

pub part_end : (xs ys : List ℕ) (done i : ℕ) → done ≤ length xs → length ys ≤ i → is_sublist (drop done xs) (drop i ys) ≡ is_sublist xs ys → (done == length xs) ≡ is_sublist xs ys
part_end xs ys done i within end h = at (drop done xs) (drop i ys) (drop_all i ys end) refl ∙ h
  where
    at : (ps qs : List ℕ) → qs ≡ [] → drop done xs ≡ ps → (done == length xs) ≡ is_sublist ps qs
    at [] qs e f = eq-eqb done (length xs) (omega (arith, within, length-drop done xs, ap length f))
    at (p ∷ ps) qs e f = subst (λ (zs : List ℕ). (done == length xs) ≡ is_sublist (p ∷ ps) zs) (sym e) (ne_eqb done (length xs) (λ same. (let long : length (drop done xs) ≡ length (p ∷ ps) = ap length f in let g : ⊥ = omega (arith, same, long, length-drop done xs) in g)))
