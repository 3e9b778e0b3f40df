-- The negation of a row, as the term that is 1 with -1 times the row's.
use Rattle.std.proofs.Common.{◌≡◌, ◌↔◌, ℤ, pos, negsuc, neg_ℤ, ◌+ℤ◌, ◌-ℤ◌, ◌*ℤ◌, ◌≤ℤ◌, [], FitsSigned, sym, subst, arith}
use Rattle.std.specs.Int.{w128}
use Rattle.std.proofs.lemmas.Int.{ints, by_lt_z}
use Rattle.ps_term.specs.declared.row.Row.{Row}
use Rattle.ps_term.specs.declared.term.Term.{Term}
use Rattle.ps_term.specs.Negation.{NegationFits}
use Rattle.ps_term.specs.Sums.{ScaledFits, TermFits}

minus_one : (n : ℤ) → (negsuc 0 *ℤ n) ≡ neg_ℤ n
minus_one n = omega (arith, ints)

pub negated : (worth old : ℤ) → worth ≡ (pos 1 +ℤ (negsuc 0 *ℤ old)) → (worth ≤ℤ pos 0) ↔ ¬ (old ≤ℤ pos 0)
negated worth old e =
    (λ h k. absurd (omega (arith, ints, minus_one old)), λ n. by_lt_z {P = worth ≤ℤ pos 0} (pos 0) old (λ lt. omega (arith, ints, minus_one old)) (λ le. absurd (n le)))

from_zero : (n : ℤ) → FitsSigned w128 (neg_ℤ n) → ScaledFits (pos 0) (negsuc 0) n
from_zero n f =
    let sum : (pos 0 +ℤ (negsuc 0 *ℤ n)) ≡ neg_ℤ n = omega (arith, ints, minus_one n) in
    (subst (λ (z : ℤ). FitsSigned w128 z) (sym (minus_one n)) f, subst (λ (z : ℤ). FitsSigned w128 z) (sym sum) f)

from_one : (n : ℤ) → FitsSigned w128 (neg_ℤ n) → FitsSigned w128 (pos 1 -ℤ n) → ScaledFits (pos 1) (negsuc 0) n
from_one n f g =
    let sum : (pos 1 +ℤ (negsuc 0 *ℤ n)) ≡ (pos 1 -ℤ n) = omega (arith, ints, minus_one n) in
    (subst (λ (z : ℤ). FitsSigned w128 z) (sym (minus_one n)) f, subst (λ (z : ℤ). FitsSigned w128 z) (sym sum) g)

pub TermFits-negation : (one : Term) (r : Row) → one ≡ record { pairs = []; constant = pos 1 } → NegationFits r → TermFits one (negsuc 0) r.term
TermFits-negation one r e f =
    subst (λ (t : Term). TermFits t (negsuc 0) r.term) (sym e) (λ k d l. from_zero _ (f.0 k d l), from_one r.term.constant f.1 f.2)
