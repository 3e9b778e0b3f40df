use Rattle.std.proofs.Common.{List, ap, ◌∙◌}
use Rattle.ps_graph.specs.declared.edge.Edge.{Edge}
use Rattle.ps_trace.specs.Traces.{letter_pair, pairs_in}
use Rattle.ps_trace.specs.inner.Paths.{links}
use Rattle.ps_trace.proofs.Following.{along, goes_after, goes_first}
use Rattle.ps_trace.proofs.error_trace.goes_on.Goals as goal

pub returns-in-Some : goal.returns-in-Some
returns-in-Some c =
    along c.links.result (links c.args.graph.now.edges c.in-Some.edge c.args.letter.edge)
    (c.links.ensures ∙ ap (λ (edges : List Edge). links edges c.in-Some.edge c.args.letter.edge) c.as_slice.ensures)
    (goes_after c.args.graph.now (pairs_in c.args.before.now) (letter_pair c.args.letter) c.in-Some.edge c.requires c.in-Some.ensures)

pub returns-in-None : goal.returns-in-None
returns-in-None c =
    along c.begins.result _ c.begins.ensures (goes_first c.args.graph.now (pairs_in c.args.before.now) (letter_pair c.args.letter) c.requires c.in-None.ensures)
