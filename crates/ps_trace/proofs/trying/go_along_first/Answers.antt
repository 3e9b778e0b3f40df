use Rattle.std.proofs.Common.{Bool, List, get_or, ap, ◌∙◌, if◌then◌else◌}
use Rattle.std.specs.Prelude.{Some, None}
use Rattle.ps_graph.specs.declared.edge.Edge.{Edge}
use Rattle.ps_trace.proofs.Tried.{trying_found, trying_on}
use Rattle.ps_trace.specs.inner.Leaving.{edges_by}
use Rattle.ps_trace.proofs.trying.go_along_first.Goals as goal

pub returns-then-branch-clause-fits : goal.returns-then-branch-clause-fits
returns-then-branch-clause-fits c =
    let is = c.index-edges-number.is ∙ ap (λ (es : List Edge). get_or es (get_or c.args.numbers.now c.loop-number.number-index 0) c.index-edges-number.result) c.as_slice-edges.ensures in
    (trying_found c.args.graph.now.setting.commands c.args.runner.now c.args.choices.now c.args.graph.now.edges c.args.numbers.now c.loop-number.number-index c.index-edges-number.result
    c.loop-number.runner c.go_along.new.runner (edges_by c.args.graph.now.edges c.args.numbers.now) c.loop-number-test.true c.requires.within is c.loop-number.invariant c.in_ok-go_along.ensures.fits
    (c.in_ok-go_along.ensures.goes ∙ ap (λ (b : Bool). if b then Some c.go_along.new.runner else None) c.if-branch.true)).1

pub loop-number-preserved : goal.loop-number-preserved
loop-number-preserved c =
    let is = c.index-edges-number.is ∙ ap (λ (es : List Edge). get_or es (get_or c.args.numbers.now c.loop-number.number-index 0) c.index-edges-number.result) c.as_slice-edges.ensures in
    trying_on c.args.graph.now.setting.commands c.args.runner.now c.args.choices.now c.args.graph.now.edges c.args.numbers.now c.loop-number.number-index c.index-edges-number.result
    c.loop-number.runner c.go_along.new.runner (edges_by c.args.graph.now.edges c.args.numbers.now) c.loop-number-test.true c.requires.within is c.loop-number.invariant c.in_ok-go_along.ensures.fits
    (c.in_ok-go_along.ensures.goes ∙ ap (λ (b : Bool). if b then Some c.go_along.new.runner else None) c.if-branch.false) (c.in_ok-go_along.ensures.stays c.if-branch.false)
