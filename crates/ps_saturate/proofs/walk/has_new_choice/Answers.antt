use Rattle.std.proofs.Common.{◌∙◌, nat_lt, not}
use Rattle.std.specs.List.{list_any}
use Rattle.ps_saturate.proofs.Anys.{any_end, any_found}
use Rattle.ps_saturate.proofs.Stepping.{any_choices, not_below}
use Rattle.ps_saturate.proofs.walk.has_new_choice.Goals as goal

pub returns-then-choice-old : goal.returns-then-choice-old
returns-then-choice-old c =
    any_found (λ r. not (nat_lt r.now.atom.predicate c.args.old)) c.args.set.now c.loop-choice.choice-index c.choice-item.result (list_any (λ r. not (nat_lt r.now.atom.predicate c.args.old)) c.args.set.now)
    c.loop-choice-test.true c.choice-item.is (not_below c.choice-item.result.now.atom.predicate c.args.old c.if-choice-old.true) c.loop-choice.invariant
    ∙ any_choices c.args.old c.args.set.now

pub returns : goal.returns
returns c =
    any_end (λ r. not (nat_lt r.now.atom.predicate c.args.old)) c.args.set.now c.loop-choice.choice-index (list_any (λ r. not (nat_lt r.now.atom.predicate c.args.old)) c.args.set.now) c.loop-choice-test.false c.loop-choice.invariant
    ∙ any_choices c.args.old c.args.set.now
