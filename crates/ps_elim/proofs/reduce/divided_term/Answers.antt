use Rattle.std.proofs.Common.{◌≡◌, ℤ, pos, to_z, FitsSigned, List, rules, subst, sym, arith, unsigned_abs}
use Rattle.std.specs.Int.{w128, ◌∣◌}
use Rattle.std.proofs.lemmas.Int.{to_z-of_z, ints}
use Rattle.ps_term.specs.declared.var.Var.{Var}
use Rattle.ps_term.specs.Factors.{AreDivided}
use Rattle.ps_term.specs.Pairs.{coefficient}
use Rattle.ps_term.specs.Whole.{IsCeiling}
use Rattle.ps_term.proofs.Divisions.{divided_canonical, divided_coefficient, exact_ceiling}
use Rattle.ps_elim.proofs.Rows.{divides_pairs}
use Rattle.ps_elim.proofs.reduce.divided_term.Goals as goal

pub divided-requires-clause-divides : goal.divided-requires-clause-divides
divided-requires-clause-divides c =
    divides_pairs c.args.divisor c.as_slice.result.now c.as_slice.ensures.canonical (λ x. subst (λ (ps : List (Var × ℤ)). c.args.divisor ∣ unsigned_abs (coefficient x ps)) (sym c.as_slice.ensures.list) (c.requires.coefficients x))

pub from_list-requires : goal.from_list-requires
from_list-requires c =
    divided_canonical c.args.divisor c.as_slice.result.now c.in_ok-list.list.items c.in_ok-list.ensures c.as_slice.ensures.canonical

pub returns-clause-coefficients : goal.returns-clause-coefficients
returns-clause-coefficients c =
    let parts : AreDivided c.args.divisor c.args.term.now.pairs c.in_ok-list.list.items = subst (λ (ps : List (Var × ℤ)). AreDivided c.args.divisor ps c.in_ok-list.list.items) c.as_slice.ensures.list c.in_ok-list.ensures in
    λ x. rw c.from_list.ensures (divided_coefficient c.args.divisor x c.args.term.now.pairs c.in_ok-list.list.items parts)

pub returns-clause-constant : goal.returns-clause-constant
returns-clause-constant c =
    let k = c.args.term.now.constant in
    let q = c.ceil_div-constant.result in
    let fits : FitsSigned w128 k = search rules in
    let fits_q : FitsSigned w128 q = search rules in
    let divisor : to_z w128 c.args.divisor ≡ pos c.args.divisor = omega (arith, ints, c.requires.small) in
    let here : IsCeiling k (to_z w128 c.args.divisor) q = simp to_z-of_z at c.ceil_div-constant.ensures in
    let ceiling : IsCeiling k (pos c.args.divisor) q = subst (λ (z : ℤ). IsCeiling k z q) divisor here in
    rw to_z-of_z (exact_ceiling k c.args.divisor q (omega (arith, c.requires.positive)) c.requires.constant ceiling)
