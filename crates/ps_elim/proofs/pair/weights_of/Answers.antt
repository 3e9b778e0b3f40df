use Rattle.std.proofs.Common.{◌≡◌, ◌/◌, ℕ, FitsSigned, unsigned_abs, rules, ap, ap₂, ◌∙◌}
use Rattle.std.specs.Int.{w128}
use Rattle.std.proofs.lemmas.Int.{to_z-of_z}
use Rattle.ps_elim.specs.Divisors.{common_divisor}
use Rattle.ps_elim.specs.inner.Weights.{size_in}
use Rattle.ps_elim.proofs.Gcds.{common_divisor-swap, gcd_is}
use Rattle.ps_elim.proofs.pair.weights_of.Goals as goal

pub returns-clause-weights : goal.returns-clause-weights
returns-clause-weights c =
    let x = c.args.variable in
    let a = size_in x c.args.p.now in
    let b = size_in x c.args.q.now in
    let fits : FitsSigned w128 c.coefficient.result = search rules in
    let fits_second : FitsSigned w128 c.coefficient-2.result = search rules in
    let first_abs : c.unsigned_abs-first_size.result ≡ unsigned_abs c.coefficient.result = simp to_z-of_z at c.unsigned_abs-first_size.ensures.value in
    let second_abs : c.unsigned_abs-second_size.result ≡ unsigned_abs c.coefficient-2.result = simp to_z-of_z at c.unsigned_abs-second_size.ensures.value in
    let first : c.unsigned_abs-first_size.result ≡ a = first_abs ∙ ap unsigned_abs c.coefficient.ensures in
    let second : c.unsigned_abs-second_size.result ≡ b = second_abs ∙ ap unsigned_abs c.coefficient-2.ensures in
    let common : c.gcd-common.result ≡ common_divisor a b = gcd_is c.unsigned_abs-first_size.result c.unsigned_abs-second_size.result c.gcd-common.result c.gcd-common.ensures.greatest ∙ ap₂ (λ (m n : ℕ). common_divisor m n) first second in
    record {
      first = ap₂ (λ (m n : ℕ). m / n) second common;
      second = ap₂ (λ (m n : ℕ). m / n) first (common ∙ common_divisor-swap a b);
    }
