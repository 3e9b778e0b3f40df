use Rattle.ps_step.proofs.Accepts.{first_refuses, second_decides}
use Rattle.ps_step.proofs.accepted.accepting.Goals as goal

pub returns-then-are_entered : goal.returns-then-are_entered
returns-then-are_entered g c =
    second_decides c.args.graph.now (g.B.Shown.entries c.args.basis.now) c.args.config.now c.as_slice.result.now c.at.result.now c.are_entered.result c.as_slice.ensures c.at.ensures.list c.are_entered.ensures
    c.atoms.result.now c.are_uninitial.result c.atoms.ensures.list c.are_uninitial.ensures c.if-are_entered.true

pub returns-else-are_entered : goal.returns-else-are_entered
returns-else-are_entered g c =
    first_refuses c.args.graph.now (g.B.Shown.entries c.args.basis.now) c.args.config.now c.as_slice.result.now c.at.result.now c.are_entered.result c.as_slice.ensures c.at.ensures.list c.are_entered.ensures
    c.if-are_entered.false
