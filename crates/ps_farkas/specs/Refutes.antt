-- Multipliers that show rows to have no common solution, and when their sums stay within 128 bits.
use Rattle.std.specs.Prelude.{◌≡◌, ℕ, ℤ, pos, ◌+ℤ◌, ◌*ℤ◌, ◌≤ℤ◌, List, [], ◌∷◌, length}
use Rattle.ps_term.specs.declared.row.Row.{Row}
use Rattle.ps_term.specs.declared.term.Term.{Term}
use Rattle.ps_term.specs.declared.var.Var.{Var}
use Rattle.ps_term.specs.Pairs.{coefficient}
use Rattle.ps_term.specs.Sums.{ScaledFits}

-- the sum of each multiplier times that part of its row's term
abbrev pub weighted : (Term → ℤ) → List Row → List ℕ → ℤ
weighted part (r ∷ rs) (n ∷ ns) = (pos n *ℤ part r.term) +ℤ weighted part rs ns
weighted part [] ns = pos 0
weighted part (r ∷ rs) [] = pos 0

-- in the weighted sum each variable has coefficient 0
abbrev pub VariablesCancel : List Row → List ℕ → Type 0
VariablesCancel rows lambda = (x : Var) → weighted (λ t. coefficient x t.pairs) rows lambda ≡ pos 0

-- there are as many multipliers as rows, and the weighted sum of the rows is a constant of at least 1
pub record Refutes (rows : List Row) (lambda : List ℕ) : Type 0 where
  pub lengths : length lambda ≡ length rows
  pub cancels : VariablesCancel rows lambda
  pub positive : pos 1 ≤ℤ weighted (λ t. t.constant) rows lambda

-- from a sum so far, each product and each partial sum of that part fits, in row order
abbrev pub SumsFit : (Term → ℤ) → ℤ → List Row → List ℕ → Type 0
SumsFit part so_far (r ∷ rs) (n ∷ ns) =
    ScaledFits so_far (pos n) (part r.term) × SumsFit part (so_far +ℤ (pos n *ℤ part r.term)) rs ns
SumsFit part so_far [] ns = Unit {0}
SumsFit part so_far (r ∷ rs) [] = Unit {0}

-- the sums of each variable fit
abbrev pub VariablesFit : List Row → List ℕ → Type 0
VariablesFit rows lambda = (x : Var) → SumsFit (λ t. coefficient x t.pairs) (pos 0) rows lambda

-- the sums of each variable and those of the constants fit
abbrev pub AllSumsFit : List Row → List ℕ → Type 0
AllSumsFit rows lambda =
    VariablesFit rows lambda × SumsFit (λ t. t.constant) (pos 0) rows lambda
