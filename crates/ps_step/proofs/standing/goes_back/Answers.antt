use Rattle.ps_step.proofs.Moving.{all_tested, not_moved, not_was}
use Rattle.ps_step.proofs.standing.goes_back.Goals as goal

pub returns-then-not-may_move : goal.returns-then-not-may_move
returns-then-not-may_move c = not_was c.args.graph.now c.args.from.now c.args.to.now c.args.edge.now c.args.thread c.at.result.now c.may_move.result c.at.ensures.list c.may_move.ensures c.if-not-may_move.true

pub returns-then-not-is_moved : goal.returns-then-not-is_moved
returns-then-not-is_moved c =
    not_moved c.args.graph.now c.args.from.now c.args.to.now c.args.edge.now c.args.thread c.at-2.result.now c.at-3.result.now c.is_moved.result c.at-2.ensures.list c.at-3.ensures.list c.is_moved.ensures c.if-not-is_moved.true

pub returns : goal.returns
returns c =
    all_tested c.args.graph.now c.args.from.now c.args.to.now c.args.edge.now c.args.thread c.at.result.now c.at-2.result.now c.at-3.result.now c.at-4.result.now c.may_move.result c.is_moved.result c.are_alone.result
    (c.is_due.ensures.0 c.if-not-is_due.false) c.at.ensures.list c.may_move.ensures c.if-not-may_move.false c.at-2.ensures.list c.at-3.ensures.list c.is_moved.ensures c.if-not-is_moved.false c.at-4.ensures.list c.are_alone.ensures
