-- Rows have no more variables than pairs.
use Rattle.std.proofs.Common.{ℕ, ◌+◌, ◌≤◌, ℤ, Bool, true, false, if◌then◌else◌, List, [], ◌∷◌, length, arith}
use Rattle.std.specs.List.{sum_by}
use Rattle.std.proofs.lemmas.List.Sums.{sum_by-cons}
use Rattle.ps_elim.specs.Stages.{variables, with_variable, with_variables}
use Rattle.ps_term.specs.declared.row.Row.{Row}
use Rattle.ps_term.specs.declared.var.Var.{Var}
use Rattle.ps_term.specs.Var.{var_eq, var_lt}

abbrev pub pairs_in : List Row → ℕ
pairs_in rows = sum_by (λ r. length r.term.pairs) rows

one_more : (x y : Var) (ys : List Var) (t u : Bool) → length (with_variable x ys) ≤ length ys + 1 → length (if t then y ∷ ys else (if u then x ∷ y ∷ ys else y ∷ with_variable x ys)) ≤ length (y ∷ ys) + 1
one_more x y ys true u h = omega arith
one_more x y ys false true h = omega arith
one_more x y ys false false h = omega arith

length-with_variable : (x : Var) (xs : List Var) → length (with_variable x xs) ≤ length xs + 1
length-with_variable x [] = omega arith
length-with_variable x (y ∷ ys) = one_more x y ys (var_eq x y) (var_lt x y) (length-with_variable x ys)

length-with_variables : (ps : List (Var × ℤ)) (xs : List Var) → length (with_variables ps xs) ≤ length ps + length xs
length-with_variables [] xs = omega arith
length-with_variables (p ∷ ps) xs = omega (arith, length-with_variable p.0 (with_variables ps xs), length-with_variables ps xs)

pub length-variables : (rows : List Row) → length (variables rows) ≤ pairs_in rows
length-variables [] = omega arith
length-variables (r ∷ rs) = omega (arith, sum_by-cons (λ (s : Row). length s.term.pairs) r rs, length-with_variables r.term.pairs (variables rs), length-variables rs)
