use Rattle.ps_step.proofs.Meeting.{step_back}
use Rattle.ps_step.proofs.StepSets.{edge_at}
use Rattle.ps_step.proofs.standing.stands.Goals as goal

pub returns : goal.returns
returns g c =
    step_back c.args.graph.now (g.B.Shown.entries c.args.basis.now) c.args.from.now c.args.to.now c.index-as_slice-edge.result c.args.edge c.args.thread c.atoms.result.now c.atoms-2.result.now c.meets.result c.requires.tied
    (edge_at c.args.graph.now c.as_slice.result.now c.args.edge c.index-as_slice-edge.result c.as_slice.ensures c.requires.exists c.index-as_slice-edge.is)
    (c.goes_back.ensures.0 c.if-not-goes_back.false) c.atoms.ensures.list c.atoms-2.ensures.list c.meets.ensures
