-- Numbers, and terms, within a distance of 0.
use Rattle.std.specs.Prelude.{ℕ, ℤ, pos, neg_ℤ, ◌*ℤ◌, ◌≤ℤ◌, List, Option}
use Rattle.std.specs.List.{AllByRecursion}
use Rattle.ps_compile.specs.Conditions.{number_bound}
use Rattle.ps_term.specs.Pairs.{coefficient}
use Rattle.ps_term.specs.declared.term.Term.{Term}
use Rattle.ps_term.specs.declared.var.Var.{Var}

-- the number is at most this far from 0
abbrev pub IsNear : ℕ → ℤ → Type 0
IsNear k n = (neg_ℤ (pos k) ≤ℤ n) × (n ≤ℤ pos k)

-- and so is each coefficient, and the constant
abbrev pub IsNearTerm : ℕ → Term → Type 0
IsNearTerm k t = ((x : Var) → IsNear k (coefficient x t.pairs)) × IsNear k t.constant

-- no product, so many times, is farther from 0
abbrev pub AreSmall : ℤ → List (ℤ × Option Var) → Type 0
AreSmall by products = AllByRecursion (λ (p : ℤ × Option Var). IsNear number_bound (by *ℤ p.0)) products
