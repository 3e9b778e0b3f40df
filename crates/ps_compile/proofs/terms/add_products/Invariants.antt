use Rattle.std.proofs.Common.{◌≡◌, drop}
use Rattle.ps_compile.proofs.terms.add_products.Given as goal
use Rattle.ps_compile.specs.Ops.{with_products}

abbrev pub invariant-loop-i : goal.invariant-loop-i
invariant-loop-i l = l.sum ≡ with_products l.by (drop l.i l.products) l.fn.term
