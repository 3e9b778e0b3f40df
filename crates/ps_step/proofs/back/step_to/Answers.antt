use Rattle.std.proofs.Common.{sym, ◌∙◌}
use Rattle.ps_step.proofs.Going.{not_alone, not_moving, step_made}
use Rattle.ps_step.proofs.back.step_to.Goals as goal

pub returns-then-not-may_move : goal.returns-then-not-may_move
returns-then-not-may_move c = not_moving c.args.graph.now c.args.config.now c.args.edge.now c.args.thread c.at.result.now c.at.ensures.list (sym c.may_move.ensures ∙ c.if-not-may_move.true)

pub returns-then-not-are_alone : goal.returns-then-not-are_alone
returns-then-not-are_alone c =
    not_alone c.args.graph.now c.args.config.now c.args.edge.now c.args.thread c.at-2.result.now c.in_ok-at.at.items c.as_slice.result.now c.at-2.ensures.list c.in_ok-at.ensures c.as_slice.ensures.value
    (sym c.are_alone.ensures ∙ c.if-not-are_alone.true)

pub returns : goal.returns
returns c =
    step_made c.args.graph.now c.args.config.now c.args.edge.now c.args.thread c.at.result.now c.in_ok-at.at.items c.as_slice.result.now c.at.ensures.form (c.is_due.ensures.0 c.if-not-is_due.false) c.at.ensures.list
    (sym c.may_move.ensures ∙ c.if-not-may_move.false) c.at-2.result.now c.at-2.ensures.list c.in_ok-at.ensures c.as_slice.ensures.value (sym c.are_alone.ensures ∙ c.if-not-are_alone.false)
