-- Exact terms, whose numbers have no bound: what `add_scaled` and `substitute` answer where it fits.
use Rattle.std.specs.Prelude.{ℤ, pos, ◌+ℤ◌, ◌*ℤ◌, List, [], ◌∷◌, if◌then◌else◌}
use Rattle.std.specs.Ordering.{int_eq}
use Rattle.ps_term.specs.Substitution.{replacement}
use Rattle.ps_term.specs.Var.{var_eq, var_lt}
use Rattle.ps_term.specs.declared.term.Term.{Term}
use Rattle.ps_term.specs.declared.var.Var.{Var}

-- the term of a number
abbrev pub number_term : ℤ → Term
number_term n = record { pairs = []; constant = n }

-- a pair before others, unless its number is 0
abbrev pub kept_before : Var → ℤ → List (Var × ℤ) → List (Var × ℤ)
kept_before x n ps = if int_eq n (pos 0) then ps else (x, n) ∷ ps

-- so many times a variable added to pairs whose variables ascend
abbrev pub with_pair : Var → ℤ → List (Var × ℤ) → List (Var × ℤ)
with_pair x n [] = kept_before x n []
with_pair x n (p ∷ ps) =
    if var_eq x p.0 then kept_before x (n +ℤ p.1) ps
    else if var_lt x p.0 then kept_before x n (p ∷ ps)
    else p ∷ with_pair x n ps

-- so many times each of the second pairs added to the first
abbrev pub with_pairs : List (Var × ℤ) → ℤ → List (Var × ℤ) → List (Var × ℤ)
with_pairs ps by [] = ps
with_pairs ps by (q ∷ qs) = with_pair q.0 (by *ℤ q.1) (with_pairs ps by qs)

-- the term `a + by * b`
abbrev pub plus_scaled : Term → ℤ → Term → Term
plus_scaled a by b = record { pairs = with_pairs a.pairs by b.pairs; constant = a.constant +ℤ (by *ℤ b.constant) }

-- so many times each replaced variable added to a term
abbrev pub plus_replaced : List (Var × Term) → Term → List (Var × ℤ) → Term
plus_replaced after a [] = a
plus_replaced after a (p ∷ ps) = plus_scaled (plus_replaced after a ps) p.1 (replacement after p.0)

-- the term in which the terms of the list stand for the variables that it names
abbrev pub substituted : List (Var × Term) → Term → Term
substituted after t = plus_replaced after (number_term t.constant) t.pairs
