-- The commands of paths: what their ops are, term by term.
use Rattle.std.specs.Prelude.{ℕ, ◌+◌, ℤ, pos, negsuc, ◌+ℤ◌, ◌*ℤ◌, List, [], ◌∷◌, Option, Some, None}
use Rattle.ps_command.specs.declared.op.Op.{Op}
use Rattle.ps_command.specs.declared.op.Op.TheVariants.{Assume, Assign, Havoc}
use Rattle.ps_graph.specs.Alternatives.{Bound}
use Rattle.ps_graph.specs.Paths.{Act, Guards, Assigns, Havocs, Chooses, Fails}
use Rattle.ps_tree.specs.declared.sum.Sum.{Sum}
use Rattle.ps_term.specs.declared.row.Row.{Row}
use Rattle.ps_term.specs.declared.term.Term.{Term}
use Rattle.ps_term.specs.declared.var.Var.{Var}
use Rattle.ps_term.specs.Exact.{number_term, with_pair}

-- a product added to a term
abbrev pub with_product : ℤ → Option Var → Term → Term
with_product n None t = record t { constant = n +ℤ t.constant }
with_product n (Some x) t = record t { pairs = with_pair x n t.pairs }

-- products, each so many times, added to a term
abbrev pub with_products : ℤ → List (ℤ × Option Var) → Term → Term
with_products by [] t = t
with_products by (p ∷ ps) t = with_product (by *ℤ p.0) p.1 (with_products by ps t)

-- the term of a sum
abbrev pub sum_term : Sum → Term
sum_term s = with_products (pos 1) s.terms (number_term (pos 0))

-- the row of a bound: left - right + plus <= 0
abbrev pub bound_row : Bound → Row
bound_row b = record { term = with_products (pos 1) b.left.terms (with_products (negsuc 0) b.right.terms (number_term b.plus)) }

-- the ops of a path
abbrev pub ops_on : List Act → List Op
ops_on [] = []
ops_on (Guards b ∷ p) = Assume (bound_row b) ∷ ops_on p
ops_on (Assigns x s ∷ p) = Assign x (sum_term s) ∷ ops_on p
ops_on (Havocs x ∷ p) = Havoc x ∷ ops_on p
ops_on (Chooses _ ∷ p) = ops_on p
ops_on (Fails ∷ p) = []

-- how many rows ops assume
abbrev pub assumed_rows : List Op → ℕ
assumed_rows [] = 0
assumed_rows (Assume _ ∷ ops) = 1 + assumed_rows ops
assumed_rows (_ ∷ ops) = assumed_rows ops
