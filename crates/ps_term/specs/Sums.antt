-- When a scaled sum of terms stays within 128 bits.
use Rattle.std.specs.Prelude.{ℤ, ◌+ℤ◌, ◌*ℤ◌, FitsSigned, All, List}
use Rattle.std.specs.Int.{w128}
use Rattle.ps_term.specs.declared.term.Term.{Term}
use Rattle.ps_term.specs.declared.var.Var.{Var}
use Rattle.ps_term.specs.Pairs.{coefficient}

-- the product `by * n` fits, and so does its sum with what was there
abbrev pub ScaledFits : ℤ → ℤ → ℤ → Type 0
ScaledFits so_far by n = FitsSigned w128 (by *ℤ n) × FitsSigned w128 (so_far +ℤ (by *ℤ n))

-- in `left + by * right` the product and the sum fit at each variable of `right`
abbrev pub PairsFit : List (Var × ℤ) → ℤ → List (Var × ℤ) → Type 0
PairsFit left by right = All (λ p. ScaledFits (coefficient p.0 left) by p.1) right

-- in `a + by * b` the product and the sum fit at each variable of `b`, and at the constant
abbrev pub TermFits : Term → ℤ → Term → Type 0
TermFits a by b = PairsFit a.pairs by b.pairs × ScaledFits a.constant by b.constant
