-- What a term means.
use Rattle.std.specs.Prelude.{ℤ, pos, ◌+ℤ◌, [], ◌∷◌}
use Rattle.ps_term.specs.declared.term.Term.{Term}
use Rattle.ps_term.specs.declared.var.Var.{Var}
use Rattle.ps_term.specs.Pairs.{pairs_value}

-- what a term is worth at values of the variables, which have no bound
abbrev pub value : (Var → ℤ) → Term → ℤ
value values t = pairs_value values t.pairs +ℤ t.constant

-- the term that is the variable
abbrev pub variable_term : Var → Term
variable_term x = record { pairs = (x, pos 1) ∷ []; constant = pos 0 }
