use Rattle.std.proofs.Common.{◌<◌, ◌+◌, Bool, pos, length, drop, get_or, FitsSigned, ap, ◌∙◌, arith, rules, if◌then◌else◌}
use Rattle.std.specs.Int.{w128}
use Rattle.std.specs.Prelude.{None}
use Rattle.std.proofs.lemmas.Int.{to_z-of_z}
use Rattle.ps_trace.specs.inner.Picking.{havocs_from}
use Rattle.ps_trace.proofs.Picked.{picked_none, picked_on}
use Rattle.ps_trace.proofs.picking.read_havocs.Goals as goal

pub returns-then-picks-choices-clause-fit : goal.returns-then-picks-choices-clause-fit
returns-then-picks-choices-clause-fit c = picked_none c.args.picks.now c.args.choices.now c.if-picks-choices.true

pub returns-then-not-branch-clause-fit : goal.returns-then-not-branch-clause-fit
returns-then-not-branch-clause-fit c =
    let inside : c.loop-i.i < length c.args.choices.now = omega arith in
    let small : FitsSigned w128 (get_or c.args.choices.now c.loop-i.i (pos 0)) = search rules in
    let taken = simp to_z-of_z at c.in_ok-take_choice.ensures.fit in
    picked_on c.args.picks.now c.args.choices.now c.loop-i.i _ _ c.loop-i.havocs.items c.take_choice.new.havocs.items c.in_ok-take_choice.field-0 c.loop-i-test.true inside
    taken c.loop-i.invariant
    ∙ ap (λ (b : Bool). if b then havocs_from c.take_choice.new.havocs.items (drop (c.loop-i.i + 1) c.args.picks.now) (drop (c.loop-i.i + 1) c.args.choices.now) else None) c.if-not-branch.true

pub loop-i-preserved : goal.loop-i-preserved
loop-i-preserved c =
    let inside : c.loop-i.i < length c.args.choices.now = omega arith in
    let small : FitsSigned w128 (get_or c.args.choices.now c.loop-i.i (pos 0)) = search rules in
    let taken = simp to_z-of_z at c.in_ok-take_choice.ensures.fit in
    picked_on c.args.picks.now c.args.choices.now c.loop-i.i _ _ c.loop-i.havocs.items c.take_choice.new.havocs.items c.in_ok-take_choice.field-0 c.loop-i-test.true inside
    taken c.loop-i.invariant
    ∙ ap (λ (b : Bool). if b then havocs_from c.take_choice.new.havocs.items (drop (c.loop-i.i + 1) c.args.picks.now) (drop (c.loop-i.i + 1) c.args.choices.now) else None) c.if-not-branch.false
