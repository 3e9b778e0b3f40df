use Rattle.std.proofs.Common.{ℤ, pos, ◌≤ℤ◌, ◌<ℤ◌, All, FitsSigned, arith, rules, subst}
use Rattle.std.specs.Int.{w128}
use Rattle.std.proofs.lemmas.Int.{ints}
use Rattle.std.proofs.lemmas.List.{take_all}
use Rattle.ps_walk.specs.inner.Findings.{found_values}
use Rattle.ps_walk.specs.Rows.{Fails, IsPast, PassesRow}
use Rattle.ps_walk.proofs.Endings.{first_at, passed_more}
use Rattle.ps_walk.proofs.ending.ending_of.Goals as goal

pub returns-in-None : goal.returns-in-None
returns-in-None c =
    (c.loop-i.i, first_at IsPast (found_values c.args.found.now) c.args.rows.now c.loop-i.i c.index-rows-i.result c.loop-i-test.true c.index-rows-i.is c.loop-i.invariant c.in-None.ensures)

pub returns-then-value-gt0 : goal.returns-then-value-gt0
returns-then-value-gt0 c =
    let v = found_values c.args.found.now in
    let r = c.index-rows-i.result in
    let k : FitsSigned w128 c.in-Some.value = search rules in
    let up : pos 0 <ℤ c.in-Some.value = grind (arith, ints) in
    first_at Fails v c.args.rows.now c.loop-i.i r c.loop-i-test.true c.index-rows-i.is c.loop-i.invariant (c.in-Some.ensures.0, subst (λ (z : ℤ). pos 0 <ℤ z) c.in-Some.ensures.1 up)

pub loop-i-preserved : goal.loop-i-preserved
loop-i-preserved c =
    let v = found_values c.args.found.now in
    let r = c.index-rows-i.result in
    let k : FitsSigned w128 c.in-Some.value = search rules in
    let low : c.in-Some.value ≤ℤ pos 0 = grind (arith, ints) in
    passed_more v c.args.rows.now c.loop-i.i r c.loop-i-test.true c.index-rows-i.is c.loop-i.invariant (c.in-Some.ensures.0, subst (λ (z : ℤ). z ≤ℤ pos 0) c.in-Some.ensures.1 low)

pub returns : goal.returns
returns c =
    subst (λ rows. All (PassesRow (found_values c.args.found.now)) rows) (take_all c.loop-i.i c.args.rows.now (omega arith)) c.loop-i.invariant
