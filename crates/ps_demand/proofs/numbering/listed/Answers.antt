use Rattle.ps_demand.proofs.Pooling.{listed_ascends}
use Rattle.ps_demand.proofs.numbering.listed.Goals as goal

pub returns-clause-ascends : goal.returns-clause-ascends
returns-clause-ascends c = listed_ascends c.loop-ranked.list.items c.loop-ranked.ranked-iterator c.args.found.keys c.in-None.ensures.steps.0 c.loop-ranked.invariant c.len.ensures.ordered
