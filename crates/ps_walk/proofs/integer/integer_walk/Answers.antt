use Rattle.std.proofs.Common.{List, reverse, FitsSigned, inl, arith, rules, sym, subst}
use Rattle.std.specs.Int.{w128}
use Rattle.std.proofs.lemmas.Int.{to_z-of_z}
use Rattle.ps_term.specs.declared.var.Var.{Var}
use Rattle.ps_elim.specs.Ascending.{Ascend}
use Rattle.ps_walk.specs.inner.Findings.{IsFinding, found_values}
use Rattle.ps_walk.specs.declared.finding.Finding.TheVariants.{Value, Nothing, Past128}
use Rattle.ps_walk.proofs.Walked.{Walked-step, Walked-end, found_variables, stops_apart, stops_past}
use Rattle.ps_walk.proofs.integer.integer_walk.Goals as goal

pub walking-preserved : goal.walking-preserved
walking-preserved c =
    let s = c.index-stages-left.result in
    let n = c.in-Value.value in
    let f : FitsSigned w128 n = search rules in
    let finding : IsFinding (found_values c.walking.found) s.variable s.rows (Value n) = subst (λ rows. IsFinding (found_values c.walking.found) s.variable rows (Value n)) c.as_slice.ensures c.in-Value.ensures in
    let up = c.in_ok-insert-in-Value.ensures.updates in
    let is = simp to_z-of_z at up in
    let items = c.in_ok-push-in-Value.ensures.items in
    let pushed = simp to_z-of_z at items in
    Walked-step c.args.stages.now c.walking.found c.insert.new.self c.walking.values.items c.push.new.self.items c.walking.left s n c.walking.invariant c.walking-test.true c.index-stages-left.is finding is pushed

pub returns-in-Nothing-clause-answer : goal.returns-in-Nothing-clause-answer
returns-in-Nothing-clause-answer c =
    let s = c.index-stages-left.result in
    let l : FitsSigned w128 c.in-Nothing.lower = search rules in
    let u : FitsSigned w128 c.in-Nothing.upper = search rules in
    let finding : IsFinding (found_values c.walking.found) s.variable s.rows (Nothing c.in-Nothing.lower c.in-Nothing.upper) = subst (λ rows. IsFinding (found_values c.walking.found) s.variable rows (Nothing c.in-Nothing.lower c.in-Nothing.upper)) c.as_slice.ensures c.in-Nothing.ensures in
    simp to_z-of_z (stops_apart c.args.stages.now c.walking.found c.walking.values.items c.walking.left s c.in-Nothing.lower c.in-Nothing.upper c.walking.invariant c.walking-test.true c.index-stages-left.is finding)

pub returns-in-Past128-clause-answer : goal.returns-in-Past128-clause-answer
returns-in-Past128-clause-answer c =
    let s = c.index-stages-left.result in
    let finding : IsFinding (found_values c.walking.found) s.variable s.rows Past128 = subst (λ rows. IsFinding (found_values c.walking.found) s.variable rows Past128) c.as_slice.ensures c.in-Past128.ensures in
    inl (stops_past c.args.stages.now c.walking.found c.walking.values.items c.walking.left s c.walking.invariant c.walking-test.true c.index-stages-left.is finding)

pub returns-in-Holds-clause-variables : goal.returns-in-Holds-clause-variables
returns-in-Holds-clause-variables c =
    let end = Walked-end c.args.stages.now c.walking.found c.walking.values.items c.walking.left c.walking.invariant (omega arith) in
    rw (c.from_list.ensures, c.reverse.ensures.items) (found_variables c.args.stages.now (reverse c.walking.values.items) end)

pub returns-in-Holds-clause-ascending : goal.returns-in-Holds-clause-ascending
returns-in-Holds-clause-ascending c =
    let end = Walked-end c.args.stages.now c.walking.found c.walking.values.items c.walking.left c.walking.invariant (omega arith) in
    rw (c.from_list.ensures, c.reverse.ensures.items) (λ h. subst (λ (xs : List Var). Ascend xs) (sym (found_variables c.args.stages.now (reverse c.walking.values.items) end)) h)
