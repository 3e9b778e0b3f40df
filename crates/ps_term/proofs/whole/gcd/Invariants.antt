use Rattle.std.proofs.Common.{ℕ}
use Rattle.std.specs.Int.{IsGcd}
use Rattle.ps_term.proofs.whole.gcd.Given as goal

abbrev pub invariant-dividing : goal.invariant-dividing
invariant-dividing l = (g : ℕ) → IsGcd l.greater l.lesser g → IsGcd l.a l.b g

abbrev pub decreases-dividing : goal.decreases-dividing
decreases-dividing l = l.lesser
