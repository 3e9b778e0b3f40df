-- What stands for a variable after a substitution, and when the substituted term stays within 128 bits.
use Rattle.std.specs.Prelude.{ℤ, pos, ◌+ℤ◌, ◌*ℤ◌, List, [], ◌∷◌, All, FitsSigned, if◌then◌else◌}
use Rattle.std.specs.Int.{w128}
use Rattle.ps_term.specs.declared.term.Term.{Term}
use Rattle.ps_term.specs.declared.var.Var.{Var}
use Rattle.ps_term.specs.Pairs.{coefficient}
use Rattle.ps_term.specs.Sums.{ScaledFits}
use Rattle.ps_term.specs.Term.{value, variable_term}
use Rattle.ps_term.specs.Var.{var_eq}

-- the term that the list gives for a variable, or the variable itself where the list doesn't name it
abbrev pub replacement : List (Var × Term) → Var → Term
replacement [] x = variable_term x
replacement (p ∷ ps) x = if var_eq x p.0 then p.1 else replacement ps x

-- the values that the list gives to the variables, at the values before
abbrev pub values_after : (Var → ℤ) → List (Var × Term) → Var → ℤ
values_after values after x = value values (replacement after x)

-- from a sum so far, by its coefficients and its constant: each replaced term is scaled by its
-- coefficient and added, in the order of the pairs, and then the constant is added, and all of it fits
abbrev pub SubstitutionFitsFrom : List (Var × Term) → (Var → ℤ) → ℤ → List (Var × ℤ) → ℤ → Type 0
SubstitutionFitsFrom after sum constant [] last = FitsSigned w128 (constant +ℤ last)
SubstitutionFitsFrom after sum constant (p ∷ ps) last =
    All (λ q. ScaledFits (sum q.0) p.1 q.1) (replacement after p.0).pairs
    × ScaledFits constant p.1 (replacement after p.0).constant
    × SubstitutionFitsFrom after
    (λ x. sum x +ℤ (p.1 *ℤ coefficient x (replacement after p.0).pairs))
    (constant +ℤ (p.1 *ℤ (replacement after p.0).constant))
    ps last

-- the same from the term 0
abbrev pub SubstitutionFits : List (Var × Term) → Term → Type 0
SubstitutionFits after a = SubstitutionFitsFrom after (λ _. pos 0) (pos 0) a.pairs a.constant
