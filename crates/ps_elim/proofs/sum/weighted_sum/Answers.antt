use Rattle.std.proofs.Common.{◌≡◌, ℤ, pos, ◌+ℤ◌, ◌*ℤ◌, to_z, List, subst, sym, arith}
use Rattle.std.specs.Int.{w128}
use Rattle.std.proofs.lemmas.Int.{ints}
use Rattle.std.proofs.lemmas.Result.{IfOk-weaker, err_from_is_err_and}
use Rattle.ps_term.specs.declared.term.TermEnd.TheVariants.{Past128}
use Rattle.ps_term.specs.declared.var.Var.{Var}
use Rattle.ps_term.specs.Pairs.{IsCanonical, coefficient}
use Rattle.ps_term.specs.Sums.{TermFits}
use Rattle.ps_elim.proofs.Pairing.{on_ok_too, same_error}
use Rattle.ps_elim.proofs.Rows.{IsPart, part_of, first_fits, second_fits, both_fit, sum_coefficients, sum_constant}
use Rattle.ps_elim.proofs.sum.weighted_sum.Goals as goal

pub returns-in_err-part-clause-past : goal.returns-in_err-part-clause-past
returns-in_err-part-clause-past c =
    let m = c.args.weights.first in
    let by : to_z w128 m ≡ pos m = omega (arith, ints, c.requires.first) in
    let p = c.args.p.now in
    let one : IsCanonical p.pairs = subst (λ (ps : List (Var × ℤ)). IsCanonical ps) c.as_slice-first_pairs.ensures.list c.as_slice-first_pairs.ensures.canonical in
    let end = err_from_is_err_and c.from_residual.result c.from_residual.ensures.1 in
    rw (end.1, end.2) (λ past fits. c.in_err-part.ensures.past (same_error c.in_err-part.field-0.0 Past128 past) (subst (λ (z : ℤ). TermFits c.from_constant-none.result z p) (sym by) (first_fits m p c.args.weights.second c.args.q.now c.from_constant-none.result c.from_constant-none.ensures one fits)))

pub returns-clause-coefficients : goal.returns-clause-coefficients
returns-clause-coefficients c =
    let is : IsPart c.args.weights.first c.args.p.now c.in_ok-part.part =
    part_of c.args.weights.first c.args.p.now c.from_constant-none.result c.in_ok-part.part (to_z w128 c.args.weights.first) (omega (arith, ints, c.requires.first))
    c.from_constant-none.ensures c.in_ok-part.ensures.coefficients c.in_ok-part.ensures.constant in
    let m = c.args.weights.first in
    let n = c.args.weights.second in
    IfOk-weaker c.add_scaled-2.result (λ sum. (x : Var) → coefficient x sum.pairs ≡ (coefficient x c.in_ok-part.part.pairs +ℤ (to_z w128 n *ℤ coefficient x c.args.q.now.pairs)))
    (λ sum. (x : Var) → coefficient x sum.pairs ≡ ((pos m *ℤ coefficient x c.args.p.now.pairs) +ℤ (pos n *ℤ coefficient x c.args.q.now.pairs)))
    (λ sum. sum_coefficients m n c.args.p.now c.args.q.now c.in_ok-part.part sum (to_z w128 n) (omega (arith, ints, c.requires.second)) is) c.add_scaled-2.ensures.coefficients

pub returns-clause-constant : goal.returns-clause-constant
returns-clause-constant c =
    let is : IsPart c.args.weights.first c.args.p.now c.in_ok-part.part =
    part_of c.args.weights.first c.args.p.now c.from_constant-none.result c.in_ok-part.part (to_z w128 c.args.weights.first) (omega (arith, ints, c.requires.first))
    c.from_constant-none.ensures c.in_ok-part.ensures.coefficients c.in_ok-part.ensures.constant in
    let m = c.args.weights.first in
    let n = c.args.weights.second in
    IfOk-weaker c.add_scaled-2.result (λ sum. sum.constant ≡ (c.in_ok-part.part.constant +ℤ (to_z w128 n *ℤ c.args.q.now.constant)))
    (λ sum. sum.constant ≡ ((pos m *ℤ c.args.p.now.constant) +ℤ (pos n *ℤ c.args.q.now.constant)))
    (λ sum. sum_constant m n c.args.p.now c.args.q.now c.in_ok-part.part sum (to_z w128 n) (omega (arith, ints, c.requires.second)) is) c.add_scaled-2.ensures.constant

pub returns-clause-fits : goal.returns-clause-fits
returns-clause-fits c =
    let by : to_z w128 c.args.weights.first ≡ pos c.args.weights.first = omega (arith, ints, c.requires.first) in
    let by_second : to_z w128 c.args.weights.second ≡ pos c.args.weights.second = omega (arith, ints, c.requires.second) in
    let one : IsCanonical c.args.p.now.pairs = subst (λ (ps : List (Var × ℤ)). IsCanonical ps) c.as_slice-first_pairs.ensures.list c.as_slice-first_pairs.ensures.canonical in
    let two : IsCanonical c.args.q.now.pairs = subst (λ (ps : List (Var × ℤ)). IsCanonical ps) c.as_slice-second_pairs.ensures.list c.as_slice-second_pairs.ensures.canonical in
    let is : IsPart c.args.weights.first c.args.p.now c.in_ok-part.part =
    part_of c.args.weights.first c.args.p.now c.from_constant-none.result c.in_ok-part.part (to_z w128 c.args.weights.first) (omega (arith, ints, c.requires.first))
    c.from_constant-none.ensures c.in_ok-part.ensures.coefficients c.in_ok-part.ensures.constant in
    on_ok_too c.add_scaled-2.result (λ h. both_fit c.args.weights.first c.args.p.now c.args.weights.second c.args.q.now c.from_constant-none.result c.in_ok-part.part c.from_constant-none.ensures is one two
    (subst (λ (z : ℤ). TermFits c.from_constant-none.result z c.args.p.now) by c.in_ok-part.ensures.fits) (subst (λ (z : ℤ). TermFits c.in_ok-part.part z c.args.q.now) by_second h)) c.add_scaled-2.ensures.fits

pub returns-clause-past : goal.returns-clause-past
returns-clause-past c =
    let n = c.args.weights.second in
    let by : to_z w128 n ≡ pos n = omega (arith, ints, c.requires.second) in
    let is : IsPart c.args.weights.first c.args.p.now c.in_ok-part.part =
    part_of c.args.weights.first c.args.p.now c.from_constant-none.result c.in_ok-part.part (to_z w128 c.args.weights.first) (omega (arith, ints, c.requires.first))
    c.from_constant-none.ensures c.in_ok-part.ensures.coefficients c.in_ok-part.ensures.constant in
    let two : IsCanonical c.args.q.now.pairs = subst (λ (ps : List (Var × ℤ)). IsCanonical ps) c.as_slice-second_pairs.ensures.list c.as_slice-second_pairs.ensures.canonical in
    λ past fits. c.add_scaled-2.ensures.past past (subst (λ (z : ℤ). TermFits c.in_ok-part.part z c.args.q.now) (sym by) (second_fits c.args.weights.first c.args.p.now n c.args.q.now c.in_ok-part.part is two fits))
