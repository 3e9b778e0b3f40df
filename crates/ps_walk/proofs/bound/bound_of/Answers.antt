use Rattle.std.proofs.Common.{◌≡◌, ◌≢◌, false, ℤ, pos, ◌<ℤ◌, FitsSigned, of_z, arith, rules, subst, ap, ◌∙◌}
use Rattle.std.specs.Int.{w128}
use Rattle.std.proofs.lemmas.Int.{ints, to_z-of_z}
use lib.Signed.{lt_z}
use Rattle.ps_term.specs.Pairs.{coefficient}
use Rattle.ps_walk.specs.inner.Findings.{found_values}
use Rattle.ps_walk.proofs.Bounding.{below_zero}
use Rattle.ps_walk.proofs.RowBounds.{upper_at, lower_at, fits_above, fits_below}
use Rattle.ps_walk.proofs.bound.bound_of.Goals as goal

pub returns-in_err-greatest-clause-past : goal.returns-in_err-greatest-clause-past
returns-in_err-greatest-clause-past c =
    let v = found_values c.args.found.now in
    let r = c.args.row.now in
    let a = c.coefficient-coefficient.result in
    let fa : FitsSigned w128 a = search rules in
    let fr : FitsSigned w128 c.in_ok-rest.rest = search rules in
    let there : coefficient c.args.variable r.term.pairs ≢ pos 0 = λ e. c.if-coefficient-eq0.false (ap (of_z w128) (c.coefficient-coefficient.ensures ∙ e)) in
    let past = c.in_err-greatest.ensures.past in
    let u = past.0 in
    let is = simp to_z-of_z at past.1 in
    rw c.from_residual-in_err-greatest.ensures (λ all. past.2 ((all there).upper u (upper_at v c.args.variable r a c.in_ok-rest.rest u c.coefficient-coefficient.ensures c.in_ok-rest.ensures.1 is)))

pub returns-in_ok-greatest-clause-fits : goal.returns-in_ok-greatest-clause-fits
returns-in_ok-greatest-clause-fits c =
    let v = found_values c.args.found.now in
    let r = c.args.row.now in
    let a = c.coefficient-coefficient.result in
    let u = c.in_ok-greatest.field-0 in
    let fa : FitsSigned w128 a = search rules in
    let fr : FitsSigned w128 c.in_ok-rest.rest = search rules in
    let fu : FitsSigned w128 u = search rules in
    let bound = c.in_ok-greatest.ensures.bound in
    let is = simp to_z-of_z at bound in
    λ there. fits_above v c.args.variable r u c.in_ok-rest.ensures.0 fu (upper_at v c.args.variable r a c.in_ok-rest.rest u c.coefficient-coefficient.ensures c.in_ok-rest.ensures.1 is)

pub returns-in_ok-greatest-clause-bound : goal.returns-in_ok-greatest-clause-bound
returns-in_ok-greatest-clause-bound c =
    let v = found_values c.args.found.now in
    let r = c.args.row.now in
    let a = c.coefficient-coefficient.result in
    let u = c.in_ok-greatest.field-0 in
    let fa : FitsSigned w128 a = search rules in
    let fr : FitsSigned w128 c.in_ok-rest.rest = search rules in
    let fu : FitsSigned w128 u = search rules in
    let up : pos 0 <ℤ coefficient c.args.variable r.term.pairs = grind (arith, ints) in
    let bound = c.in_ok-greatest.ensures.bound in
    let is = simp to_z-of_z at bound in
    rw to_z-of_z (up, upper_at v c.args.variable r a c.in_ok-rest.rest u c.coefficient-coefficient.ensures c.in_ok-rest.ensures.1 is)

pub returns-else-coefficient-gt0-clause-fits : goal.returns-else-coefficient-gt0-clause-fits
returns-else-coefficient-gt0-clause-fits c =
    let v = found_values c.args.found.now in
    let r = c.args.row.now in
    let a = c.coefficient-coefficient.result in
    let l = c.least.result in
    let fa : FitsSigned w128 a = search rules in
    let fr : FitsSigned w128 c.in_ok-rest.rest = search rules in
    let fl : FitsSigned w128 l = search rules in
    let bound = c.least.ensures in
    let is = simp to_z-of_z at bound in
    λ there. fits_below v c.args.variable r l c.in_ok-rest.ensures.0 fl (lower_at v c.args.variable r a c.in_ok-rest.rest l c.coefficient-coefficient.ensures c.in_ok-rest.ensures.1 is)

pub returns-else-coefficient-gt0-clause-bound : goal.returns-else-coefficient-gt0-clause-bound
returns-else-coefficient-gt0-clause-bound c =
    let v = found_values c.args.found.now in
    let r = c.args.row.now in
    let a = c.coefficient-coefficient.result in
    let l = c.least.result in
    let fa : FitsSigned w128 a = search rules in
    let fr : FitsSigned w128 c.in_ok-rest.rest = search rules in
    let fl : FitsSigned w128 l = search rules in
    let not_zero : a ≢ pos 0 = λ e. c.if-coefficient-eq0.false (ap (of_z w128) e) in
    let above = c.if-coefficient-gt0.false in
    let not_above : lt_z (pos 0) a ≡ false = simp to_z-of_z at above in
    let down : a <ℤ pos 0 = below_zero a not_zero not_above in
    let bound = c.least.ensures in
    let is = simp to_z-of_z at bound in
    rw to_z-of_z (subst (λ (z : ℤ). z <ℤ pos 0) c.coefficient-coefficient.ensures down, lower_at v c.args.variable r a c.in_ok-rest.rest l c.coefficient-coefficient.ensures c.in_ok-rest.ensures.1 is)
