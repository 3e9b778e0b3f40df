-- A negated row is told by its coefficients and its constant.
use Rattle.std.proofs.Common.{◌≡◌, sym, ◌∙◌, ℤ, pos, negsuc, neg_ℤ, ◌+ℤ◌, ◌-ℤ◌, ◌*ℤ◌, Result, Ok, Err, IfOk, arith}
use Rattle.std.proofs.lemmas.Int.{ints}
use Rattle.ps_term.proofs.ExactTerms.{sum_worth, sum_canonical}
use Rattle.ps_term.proofs.Uniqueness.{unit_at, pairs_value-unit_at, same_coefficients}
use Rattle.ps_term.specs.Exact.{number_term}
use Rattle.ps_term.specs.Pairs.{IsCanonical, coefficient, pairs_value}
use Rattle.ps_term.specs.declared.row.Row.{Row}
use Rattle.ps_term.specs.declared.term.TermEnd.{TermEnd}
use Rattle.ps_term.specs.declared.var.Var.{Var}
use Rattle.ps_triple.specs.Rows.{negated}

by_value : (n m k a b : ℤ) → (n +ℤ (pos 1 +ℤ (negsuc 0 *ℤ k))) ≡ ((pos 0 +ℤ pos 1) +ℤ (negsuc 0 *ℤ (m +ℤ k))) → n ≡ a → m ≡ b → a ≡ neg_ℤ b
by_value n m k a b e f g = omega (arith, ints, e, f, g)

coefficient_of : (r : Row) (x : Var) → coefficient x (negated r).term.pairs ≡ neg_ℤ (coefficient x r.term.pairs)
coefficient_of r x = by_value (pairs_value (unit_at x) (negated r).term.pairs) (pairs_value (unit_at x) r.term.pairs) r.term.constant (coefficient x (negated r).term.pairs) (coefficient x r.term.pairs)
    (sum_worth (unit_at x) (number_term (pos 1)) (negsuc 0) r.term) (pairs_value-unit_at x (negated r).term.pairs) (pairs_value-unit_at x r.term.pairs)

constant_is : (n k : ℤ) → n ≡ (pos 1 -ℤ k) → n ≡ (pos 1 +ℤ (negsuc 0 *ℤ k))
constant_is n k e = omega (arith, ints, e)

negated_is : (r new : Row) → IsCanonical new.term.pairs → ((x : Var) → coefficient x new.term.pairs ≡ neg_ℤ (coefficient x r.term.pairs)) → new.term.constant ≡ (pos 1 -ℤ r.term.constant) → new ≡ negated r
negated_is r new canonical coefficients constant =
    let pairs : new.term.pairs ≡ (negated r).term.pairs = same_coefficients new.term.pairs (negated r).term.pairs canonical
    (sum_canonical (number_term (pos 1)) (negsuc 0) r.term tt) (λ x. coefficients x ∙ sym (coefficient_of r x)) in
    let constants : new.term.constant ≡ (negated r).term.constant = constant_is new.term.constant r.term.constant constant in
    λ i. record { term = record { pairs = pairs i; constant = constants i } }

pub negated_ok : (r : Row) (made : Result Row TermEnd) → IfOk made (λ new. (x : Var) → coefficient x new.term.pairs ≡ neg_ℤ (coefficient x r.term.pairs)) → IfOk made (λ new. new.term.constant ≡ (pos 1 -ℤ r.term.constant)) → IfOk made (λ new. IsCanonical new.term.pairs) → IfOk made (λ new. new ≡ negated r)
negated_ok r (Ok new) coefficients constant canonical = negated_is r new canonical coefficients constant
negated_ok r (Err end) coefficients constant canonical = tt
