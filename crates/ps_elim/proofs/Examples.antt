-- The definitions give the worked answers.
use Rattle.std.proofs.Common.{◌≡◌, ◌<◌, ◌-◌, ◌*◌, ◌^◌, ℕ, ℤ, pos, negsuc, ◌+ℤ◌, ◌*ℤ◌, Bool, true, false, if◌then◌else◌, List, [], ◌∷◌, All, Contains, FitsSigned, IsTrue, lit<, lit≤, inl, inr, refl, sym, subst, arith}
use Rattle.std.specs.Int.{w128}
use Rattle.std.proofs.lemmas.Bool.{false≢true}
use Rattle.std.proofs.lemmas.Int.{ints}
use Rattle.std.proofs.lemmas.List.Elements.{All-cons, All-head, All-nil}
use Rattle.ps_list.proofs.Members.{cons_cases, here, nothing}
use Rattle.ps_elim.specs.Combining.{AllFit, CombinationFits, WeightedFits, negatives, width}
use Rattle.ps_elim.specs.Elimination.{IsLeastRefutation}
use Rattle.ps_elim.specs.Examples.{PairsAreTooMany, SumRefutesTwo, TwiceIsPast, great, two, wide}
use Rattle.ps_elim.specs.Stages.{PassesStage, first_set}
use Rattle.ps_elim.specs.Supports.{is_less}
use Rattle.ps_elim.specs.declared.limits.TheConstants.{MOST_VECTORS}
use Rattle.ps_term.specs.Var.{var_eq}
use Rattle.ps_term.specs.declared.var.Var.TheVariants.{Global}

-- ---- a refutation
-- what so often the first row and so often the second give to a variable that is g0 or isn't
abbrev under : ℕ → ℕ → Bool → ℤ
under m n t = (pos m *ℤ ((if t then pos 1 else pos 0) +ℤ pos 0)) +ℤ ((pos n *ℤ ((if t then negsuc 0 else pos 0) +ℤ pos 0)) +ℤ pos 0)

either_fits : (t : Bool) → WeightedFits 1 (under 1 0 t) 1 (under 0 1 t)
either_fits true = (record { sfits = omega arith }, (record { sfits = omega arith }, record { sfits = omega arith }))
either_fits false = (record { sfits = omega arith }, (record { sfits = omega arith }, record { sfits = omega arith }))

pair_fits : CombinationFits two (Global 0) (1 ∷ 0 ∷ []) (0 ∷ 1 ∷ [])
pair_fits = record {
  entries = (first, (second, tt));
  coefficients = λ y. either_fits (var_eq y (Global 0));
  constant = first;
}
  where
    first : WeightedFits 1 (pos 1) 1 (pos 0)
    first = (record { sfits = omega arith }, (record { sfits = omega arith }, record { sfits = omega arith }))

    second : WeightedFits 1 (pos 0) 1 (pos 1)
    second = (record { sfits = omega arith }, (record { sfits = omega arith }, record { sfits = omega arith }))

passes : PassesStage two (first_set two) (Global 0)
passes = record {
  few = lit≤ tt;
  fits = All-cons (λ p. All (CombinationFits two (Global 0) p) ((0 ∷ 1 ∷ []) ∷ [])) (1 ∷ 0 ∷ []) [] (All-cons (CombinationFits two (Global 0) (1 ∷ 0 ∷ [])) (0 ∷ 1 ∷ []) [] pair_fits (All-nil (CombinationFits two (Global 0) (1 ∷ 0 ∷ [])))) (All-nil (λ p. All (CombinationFits two (Global 0) p) ((0 ∷ 1 ∷ []) ∷ [])));
}

none_less : (u : List ℕ) → Contains ((1 ∷ 1 ∷ []) ∷ []) u → ¬ IsTrue (is_less u (1 ∷ 1 ∷ []))
none_less u c less = elim (cons_cases (1 ∷ 1 ∷ []) [] u c) [
  | inl same ↦ false≢true (subst (λ (v : List ℕ). is_less v (1 ∷ 1 ∷ []) ≡ true) (sym same) less)
  | inr rest ↦ nothing u rest
]

least : IsLeastRefutation two (1 ∷ 1 ∷ [])
least = record {
  is_last = here (1 ∷ 1 ∷ []) [];
  positive = omega (arith, ints);
  least = λ u c positive. none_less u c;
}

pub refutes_two : SumRefutesTwo
refutes_two = ((passes, tt), least)

-- ---- answers that end before the last stage
pub too_wide : PairsAreTooMany
too_wide =
    let count : 2070 ≡ width wide (Global 0) (first_set wide) = refl in
    (subst (λ (n : ℕ). MOST_VECTORS < n) count (lit< tt), count)

twice_does_not_fit : FitsSigned w128 (pos (2 * (2 ^ 127 - 1))) → ⊥
twice_does_not_fit h = let within = h.sfits in omega (arith, ints, within)

no_pair_fits : ¬ AllFit great (Global 0) (first_set great)
no_pair_fits fits =
    let first : All (CombinationFits great (Global 0) (1 ∷ 0 ∷ [])) ((0 ∷ 1 ∷ []) ∷ []) = All-head (λ p. All (CombinationFits great (Global 0) p) (negatives great (Global 0) (first_set great))) (1 ∷ 0 ∷ []) [] fits in
    let pair : CombinationFits great (Global 0) (1 ∷ 0 ∷ []) (0 ∷ 1 ∷ []) = All-head (CombinationFits great (Global 0) (1 ∷ 0 ∷ [])) (0 ∷ 1 ∷ []) [] first in
    twice_does_not_fit (pair.coefficients (Global 0)).0

pub leaves_range : TwiceIsPast
leaves_range = (lit≤ tt, no_pair_fits)
