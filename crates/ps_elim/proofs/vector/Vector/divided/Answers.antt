use Rattle.std.proofs.Common.{◌/◌, ℕ, ℤ, List, All, map, unsigned_abs, sym, ap, ◌∙◌, subst, arith}
use Rattle.std.specs.Int.{◌∣◌}
use Rattle.std.proofs.lemmas.Nat.Gcd.{dvd-zero}
use Rattle.ps_elim.proofs.Entries.{IsQuotient, divides_coefficients, quotient_entries, quotient_is}
use Rattle.ps_elim.proofs.vector.Vector.divided.Goals as goal

pub divided_term-requires-clause-coefficients : goal.divided_term-requires-clause-coefficients
divided_term-requires-clause-coefficients c =
    divides_coefficients c.args.divisor c.self.inside.entries c.self.inside.places c.self.invariant (subst (λ (ns : List ℕ). All (λ n. c.args.divisor ∣ n) ns) (sym c.self.view_is) c.requires.divides)

pub divided_term-requires-clause-constant : goal.divided_term-requires-clause-constant
divided_term-requires-clause-constant c =
    subst (λ (z : ℤ). c.args.divisor ∣ unsigned_abs z) (sym c.self.invariant.constant) (dvd-zero c.args.divisor)

pub invariant_of-result : goal.invariant_of-result
invariant_of-result c =
    let quotient : IsQuotient c.args.divisor c.self.inside.entries c.in_ok-divided_term.field-0 = record { coefficients = c.in_ok-divided_term.ensures.coefficients; constant = c.in_ok-divided_term.ensures.constant } in
    quotient_entries c.args.divisor c.self.inside.entries c.in_ok-divided_term.field-0 c.self.inside.places (omega (arith, c.requires.positive)) c.self.invariant quotient

pub returns : goal.returns
returns c =
    let d = c.args.divisor in
    let quotient : IsQuotient d c.self.inside.entries c.in_ok-divided_term.field-0 = record { coefficients = c.in_ok-divided_term.ensures.coefficients; constant = c.in_ok-divided_term.ensures.constant } in
    quotient_is d c.self.inside.entries c.in_ok-divided_term.field-0 c.self.inside.places (omega (arith, c.requires.positive)) quotient ∙ ap (λ (ns : List ℕ). map (λ n. n / d) ns) c.self.view_is
