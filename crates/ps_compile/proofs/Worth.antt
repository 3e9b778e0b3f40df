-- The terms of sums and bounds are canonical, and are worth what the text says.
use Rattle.std.proofs.Common.{◌≡◌, refl, ℤ, pos, negsuc, ◌+ℤ◌, ◌*ℤ◌, List, [], ◌∷◌, arith}
use Rattle.std.specs.Prelude.{Option, Some, None}
use Rattle.std.proofs.lemmas.Int.{ints}
use Rattle.ps_graph.specs.Alternatives.{Bound, bound_value}
use Rattle.ps_graph.specs.Follows.{SaysOps}
use Rattle.ps_term.specs.Exact.{number_term}
use Rattle.ps_compile.specs.Ops.{with_product, with_products, sum_term, bound_row, ops_on}
use Rattle.ps_graph.specs.Paths.{Act, Guards, Assigns, Havocs, Chooses, Fails}
use Rattle.ps_tree.specs.Sum.{factor_value, products_value, sum_value}
use Rattle.ps_tree.specs.declared.sum.Sum.{Sum}
use Rattle.ps_term.proofs.Ring.{distribute, assoc, one-mul, mul-one}
use Rattle.ps_term.proofs.ExactTerms.{pair_value, pair_canonical}
use Rattle.ps_term.specs.Pairs.{IsCanonical}
use Rattle.ps_term.specs.Term.{value}
use Rattle.ps_term.specs.declared.term.Term.{Term}
use Rattle.ps_term.specs.declared.var.Var.{Var}

-- ---- values

pub product_value : (v : Var → ℤ) (n : ℤ) (f : Option Var) (t : Term) → value v (with_product n f t) ≡ ((n *ℤ factor_value v f) +ℤ value v t)
product_value v n None t = omega (arith, ints, mul-one n)
product_value v n (Some x) t = omega (arith, ints, pair_value v x n t.pairs)

pub products_worth : (v : Var → ℤ) (by : ℤ) (ps : List (ℤ × Option Var)) (t : Term) →
    value v (with_products by ps t) ≡ ((by *ℤ products_value v ps) +ℤ value v t)
products_worth v by [] t = omega (arith, ints)
products_worth v by (p ∷ ps) t =
    omega (
      arith,
      ints,
      product_value v (by *ℤ p.0) p.1 (with_products by ps t),
      products_worth v by ps t,
      distribute by (p.0 *ℤ factor_value v p.1) (products_value v ps),
      assoc by p.0 (factor_value v p.1),
    )

pub sum_worth : (v : Var → ℤ) (s : Sum) → value v (sum_term s) ≡ sum_value v s
sum_worth v s = omega (arith, ints, products_worth v (pos 1) s.terms (number_term (pos 0)), one-mul (products_value v s.terms))

pub bound_worth : (v : Var → ℤ) (b : Bound) → value v (bound_row b).term ≡ bound_value v b
bound_worth v b =
    omega (
      arith,
      ints,
      products_worth v (pos 1) b.left.terms (with_products (negsuc 0) b.right.terms (number_term b.plus)),
      products_worth v (negsuc 0) b.right.terms (number_term b.plus),
      one-mul (products_value v b.left.terms),
    )

-- the ops of a path say what it says
pub says_ops : (p : List Act) → SaysOps p (ops_on p)
says_ops [] = refl
says_ops (Guards b ∷ p) = (λ v. bound_worth v b, says_ops p)
says_ops (Assigns x s ∷ p) = (refl, λ v. sum_worth v s, says_ops p)
says_ops (Havocs x ∷ p) = (refl, says_ops p)
says_ops (Chooses b ∷ p) = says_ops p
says_ops (Fails ∷ p) = refl

-- ---- canonical forms

pub product_canonical : (n : ℤ) (f : Option Var) (t : Term) → IsCanonical t.pairs → IsCanonical (with_product n f t).pairs
product_canonical n None t c = c
product_canonical n (Some x) t c = pair_canonical x n t.pairs c

pub products_canonical : (by : ℤ) (ps : List (ℤ × Option Var)) (t : Term) → IsCanonical t.pairs → IsCanonical (with_products by ps t).pairs
products_canonical by [] t c = c
products_canonical by (p ∷ ps) t c = product_canonical (by *ℤ p.0) p.1 (with_products by ps t) (products_canonical by ps t c)

pub sum_canonical : (s : Sum) → IsCanonical (sum_term s).pairs
sum_canonical s = products_canonical (pos 1) s.terms (number_term (pos 0)) tt

pub bound_canonical : (b : Bound) → IsCanonical (bound_row b).term.pairs
bound_canonical b =
    products_canonical (pos 1) b.left.terms (with_products (negsuc 0) b.right.terms (number_term b.plus))
    (products_canonical (negsuc 0) b.right.terms (number_term b.plus) tt)
