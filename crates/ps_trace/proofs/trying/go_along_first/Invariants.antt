use Rattle.std.proofs.Common.{drop}
use Rattle.ps_trace.proofs.Tried.{IsTrying}
use Rattle.ps_trace.specs.inner.Leaving.{edges_by}
use Rattle.ps_trace.proofs.trying.go_along_first.Given as goal

abbrev pub invariant-loop-number : goal.invariant-loop-number
invariant-loop-number l =
    IsTrying l.graph.setting.commands l.fn.runner l.choices (edges_by l.graph.edges l.numbers) (edges_by l.graph.edges (drop l.number-index l.numbers)) l.runner
