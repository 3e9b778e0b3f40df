use Rattle.std.proofs.Common.{subst, ℤ, List, FitsSigned}
use Rattle.std.specs.Int.{w128}
use Rattle.std.proofs.lemmas.Int.{to_z-of_z}
use Rattle.ps_term.specs.Pairs.{IsCanonical}
use Rattle.ps_term.specs.declared.var.Var.{Var}
use Rattle.ps_term.proofs.ExactTerms.{sum_is}
use Rattle.ps_interp.proofs.weighing.plus_scaled.Goals as goal

pub returns-clause-sum : goal.returns-clause-sum
returns-clause-sum c =
    let by : FitsSigned w128 c.args.by = c.ranges.by in
    let worth = simp to_z-of_z at c.in_ok-sum.ensures.worth in
    sum_is c.in_ok-sum.sum c.args.so_far.now c.args.by c.args.term.now
    (subst (λ (ps : List (Var × ℤ)). IsCanonical ps) c.as_slice-pairs.ensures.list c.as_slice-pairs.ensures.canonical)
    c.in_ok-sum.ensures.canonical worth
