use Rattle.std.proofs.Common.{◌<◌, ℕ, List, length, subst}
use Rattle.ps_graph.specs.declared.edge.Edge.{Edge}
use Rattle.ps_check.proofs.Before.{past_all}
use Rattle.ps_check.proofs.Stepping.{all_edges_done, first_edge, more_edges_done, no_edge_done}
use Rattle.ps_check.proofs.steps.first_uncovered.Goals as goal

pub loop-edge-init : goal.loop-edge-init
loop-edge-init c = no_edge_done c.args.graph.now c.args.front.now c.args.configs.now c.args.from.now c.fresh-fresh.result

pub uncovered_along-requires-clause-exists : goal.uncovered_along-requires-clause-exists
uncovered_along-requires-clause-exists c =
    subst (λ (es : List Edge). c.loop-edge.edge < length es) c.as_slice-edges.ensures (subst (λ (k : ℕ). c.loop-edge.edge < k) c.count_of-count.ensures c.loop-edge-test.true)

pub returns-in-Some : goal.returns-in-Some
returns-in-Some c =
    first_edge c.args.graph.now c.args.front.now c.args.configs.now c.args.from.now c.fresh-fresh.result c.loop-edge.edge c.in-Some.step c.fresh-fresh.ensures c.loop-edge.invariant (rw c.in-Some.is at c.in_ok-step.ensures)

pub loop-edge-preserved : goal.loop-edge-preserved
loop-edge-preserved c =
    more_edges_done c.args.graph.now c.args.front.now c.args.configs.now c.args.from.now c.fresh-fresh.result c.loop-edge.edge c.loop-edge.invariant (rw c.in-None.is at c.in_ok-step.ensures)

pub returns : goal.returns
returns c =
    all_edges_done c.args.graph.now c.args.front.now c.args.configs.now c.args.from.now c.fresh-fresh.result c.loop-edge.edge c.requires.tied c.fresh-fresh.ensures c.loop-edge.invariant
    (past_all c.args.graph.now.edges c.as_slice-edges.result.now c.count_of-count.result c.loop-edge.edge c.as_slice-edges.ensures c.count_of-count.ensures c.loop-edge-test.false)
