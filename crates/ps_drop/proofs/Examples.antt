-- Worked examples of the definitions, at the pairs (1, 0), (2, 0), (3, 1) and the links (0, 1), (0, 2), (2, 2).
use Rattle.std.proofs.Common.{◌≡◌, ◌≢◌, ℕ, List, [], ◌∷◌, Contains, ap, sym, subst, refl, inl, inr, arith}
use Rattle.ps_drop.specs.declared.pair.Pair.{Pair}
use Rattle.ps_drop.specs.Examples.{pair, tree, links}
use Rattle.ps_drop.specs.Pairs.{NamesPair, IsPath, Leads, Leans}
use Rattle.ps_list.proofs.Members.{nothing, cons_cases, here, there}

-- 3 is below 1
pub three_below_one : Leads tree 3 1
three_below_one = (1 ∷ [], (there (pair 1 0) (pair 2 0 ∷ pair 3 1 ∷ []) (pair 3 1) (there (pair 2 0) (pair 3 1 ∷ []) (pair 3 1) (here (pair 3 1) [])), refl))

-- each node is below itself
pub nine_below_nine : Leads tree 9 9
nine_below_nine = ([], refl)

other_of_two : (m : ℕ) → NamesPair tree 2 m → m ≡ 0
other_of_two m h = elim (cons_cases (pair 1 0) (pair 2 0 ∷ pair 3 1 ∷ []) (pair 2 m) h) [
  | inl is ↦ (let no_such : 1 ≡ 2 = ap (λ (p : Pair). p.node) is in absurd (omega (arith, no_such)))
  | inr rest ↦ elim (cons_cases (pair 2 0) (pair 3 1 ∷ []) (pair 2 m) rest) [
    | inl is ↦ sym (ap (λ (p : Pair). p.other) is)
    | inr last ↦ elim (cons_cases (pair 3 1) [] (pair 2 m) last) [
      | inl is ↦ (let no_such : 3 ≡ 2 = ap (λ (p : Pair). p.node) is in absurd (omega (arith, no_such)))
      | inr none ↦ absurd (nothing (pair 2 m) none)
    ]
  ]
]

no_other_of_zero : (m : ℕ) → ¬ NamesPair tree 0 m
no_other_of_zero m h = elim (cons_cases (pair 1 0) (pair 2 0 ∷ pair 3 1 ∷ []) (pair 0 m) h) [
  | inl is ↦ (let no_such : 1 ≡ 0 = ap (λ (p : Pair). p.node) is in omega (arith, no_such))
  | inr rest ↦ elim (cons_cases (pair 2 0) (pair 3 1 ∷ []) (pair 0 m) rest) [
    | inl is ↦ (let no_such : 2 ≡ 0 = ap (λ (p : Pair). p.node) is in omega (arith, no_such))
    | inr last ↦ elim (cons_cases (pair 3 1) [] (pair 0 m) last) [
      | inl is ↦ (let no_such : 3 ≡ 0 = ap (λ (p : Pair). p.node) is in omega (arith, no_such))
      | inr none ↦ nothing (pair 0 m) none
    ]
  ]
]

no_path_from_zero : (path : List ℕ) → ¬ IsPath tree 0 path 1
no_path_from_zero [] is = let no_such : 0 ≡ 1 = is in omega (arith, no_such)
no_path_from_zero (m ∷ path) along = no_other_of_zero m along.0

no_path_from_two : (path : List ℕ) → ¬ IsPath tree 2 path 1
no_path_from_two [] is = let no_such : 2 ≡ 1 = is in omega (arith, no_such)
no_path_from_two (m ∷ path) along = no_path_from_zero path (subst (λ (n : ℕ). IsPath tree n path 1) (other_of_two m along.0) along.1)

-- 2 is not below 1
pub two_not_below_one : ¬ Leads tree 2 1
two_not_below_one h = no_path_from_two h.0 h.1

-- 0 leans on one of 1 and 3
pub zero_leans : Leans links (1 ∷ 3 ∷ []) 0
zero_leans = (1, here 1 (3 ∷ []), here (pair 0 1) (pair 0 2 ∷ pair 2 2 ∷ []))

not_one_or_three : (other : ℕ) → Contains (1 ∷ 3 ∷ []) other → other ≢ 2
not_one_or_three other h e = elim (cons_cases 1 (3 ∷ []) other h) [
  | inl is ↦ omega (arith, is, e)
  | inr rest ↦ elim (cons_cases 3 [] other rest) [ inl is ↦ omega (arith, is, e) | inr none ↦ nothing other none ]
]

links_of_two : (other : ℕ) → NamesPair links 2 other → other ≡ 2
links_of_two other h = elim (cons_cases (pair 0 1) (pair 0 2 ∷ pair 2 2 ∷ []) (pair 2 other) h) [
  | inl is ↦ (let no_such : 0 ≡ 2 = ap (λ (p : Pair). p.node) is in absurd (omega (arith, no_such)))
  | inr rest ↦ elim (cons_cases (pair 0 2) (pair 2 2 ∷ []) (pair 2 other) rest) [
    | inl is ↦ (let no_such : 0 ≡ 2 = ap (λ (p : Pair). p.node) is in absurd (omega (arith, no_such)))
    | inr last ↦ elim (cons_cases (pair 2 2) [] (pair 2 other) last) [
      | inl is ↦ sym (ap (λ (p : Pair). p.other) is)
      | inr none ↦ absurd (nothing (pair 2 other) none)
    ]
  ]
]

-- and 2, which links to itself alone, does not
pub two_does_not : ¬ Leans links (1 ∷ 3 ∷ []) 2
two_does_not (other, dropped, linked) = not_one_or_three other dropped (links_of_two other linked)
