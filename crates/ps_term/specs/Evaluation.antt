-- When a term's value stays within 128 bits.
use Rattle.std.specs.Prelude.{ℤ, pos, ◌+ℤ◌, ◌*ℤ◌, FitsSigned, List, [], ◌∷◌}
use Rattle.std.specs.Int.{w128}
use Rattle.ps_term.specs.Sums.{ScaledFits}
use Rattle.ps_term.specs.declared.term.Term.{Term}
use Rattle.ps_term.specs.declared.var.Var.{Var}

-- each product fits, and so does its sum with those before; and so does the sum of all with the constant
abbrev pub EvaluationFitsFrom : (Var → ℤ) → ℤ → List (Var × ℤ) → ℤ → Type 0
EvaluationFitsFrom values sum [] constant = FitsSigned w128 (sum +ℤ constant)
EvaluationFitsFrom values sum (p ∷ ps) constant =
    ScaledFits sum p.1 (values p.0) × EvaluationFitsFrom values (sum +ℤ (p.1 *ℤ values p.0)) ps constant

-- the products in the order of the pairs, and then the constant
abbrev pub EvaluationFits : (Var → ℤ) → Term → Type 0
EvaluationFits values t = EvaluationFitsFrom values (pos 0) t.pairs t.constant
