-- What a sum is worth.
use Rattle.std.specs.Prelude.{ℤ, pos, ◌+ℤ◌, ◌*ℤ◌, List, [], ◌∷◌, Option, Some, None}
use Rattle.ps_tree.specs.declared.sum.Sum.{Sum}
use Rattle.ps_term.specs.declared.var.Var.{Var}

-- what a variable is worth, or 1 where there is none
abbrev pub factor_value : (Var → ℤ) → Option Var → ℤ
factor_value values None = pos 1
factor_value values (Some x) = values x

-- the sum of each number times the value of its variable
abbrev pub products_value : (Var → ℤ) → List (ℤ × Option Var) → ℤ
products_value values [] = pos 0
products_value values (p ∷ ps) = (p.0 *ℤ factor_value values p.1) +ℤ products_value values ps

-- what a sum is worth at values of the variables, which have no bound
abbrev pub sum_value : (Var → ℤ) → Sum → ℤ
sum_value values s = products_value values s.terms
