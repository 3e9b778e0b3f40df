-- The worked examples.
use Rattle.std.proofs.Common.{◌≡◌, pos, negsuc, ◌+ℤ◌, ◌*ℤ◌, Bool, true, false, if◌then◌else◌, FitsSigned, ◌^◌, ◌-◌, List, [], ◌∷◌, refl, arith}
use Rattle.std.specs.Int.{w128}
use Rattle.std.proofs.lemmas.Int.{ints}
use Rattle.ps_term.specs.declared.var.Var.TheVariants.{Global}
use Rattle.ps_term.specs.Sums.{ScaledFits}
use Rattle.ps_term.specs.Var.{var_eq}
use Rattle.ps_farkas.specs.Examples.{apart, falling, rising, touching}
use Rattle.ps_farkas.specs.Refutes.{AllSumsFit, Refutes, SumsFit, VariablesCancel, VariablesFit}

cancelled : VariablesCancel apart (1 ∷ 1 ∷ [])
cancelled x = by_test (var_eq x (Global 0))
  where
    by_test : (t : Bool) → ((pos 1 *ℤ ((if t then pos 1 else pos 0) +ℤ pos 0)) +ℤ ((pos 1 *ℤ ((if t then negsuc 0 else pos 0) +ℤ pos 0)) +ℤ pos 0)) ≡ pos 0
    by_test true = refl
    by_test false = refl

pub refuted : Refutes apart (1 ∷ 1 ∷ [])
refuted = record { lengths = refl; cancels = cancelled; positive = omega (arith, ints) }

pub not_alone : ¬ Refutes apart (0 ∷ 1 ∷ [])
not_alone r = let e : negsuc 0 ≡ pos 0 = r.cancels (Global 0) in cc

pub not_short : ¬ Refutes apart (1 ∷ [])
not_short r = let e : 1 ≡ 2 = r.lengths in omega (arith, e)

pub not_touching : ¬ Refutes touching (1 ∷ 1 ∷ [])
not_touching r = omega (arith, ints, r.positive)

pub past : ¬ AllSumsFit rising (1 ∷ 1 ∷ 1 ∷ [])
past h =
    let f : FitsSigned w128 (pos (2 ^ 127)) = h.1.1.0.1 in
    omega (arith, f.sfits)

pub within : AllSumsFit falling (1 ∷ 1 ∷ 1 ∷ [])
within =
    let greatest : FitsSigned w128 (pos (2 ^ 127 - 1)) = record { sfits = omega arith } in
    let below : FitsSigned w128 (pos (2 ^ 127 - 2)) = record { sfits = omega arith } in
    let minus_one : FitsSigned w128 (negsuc 0) = record { sfits = omega arith } in
    let zero : FitsSigned w128 (pos 0) = record { sfits = omega arith } in
    let one : FitsSigned w128 (pos 1) = record { sfits = omega arith } in
    ((λ x. ((zero, zero), ((zero, zero), ((zero, zero), tt)))), ((greatest, greatest), ((minus_one, below), ((one, greatest), tt))))
