use Rattle.std.proofs.Common.{◌≡◌, drop}
use Rattle.ps_graph.specs.ErrorTrace.{error_at_last}
use Rattle.ps_trace.specs.Traces.{pairs_in}
use Rattle.ps_trace.proofs.error_trace.error_at_last.Given as goal

abbrev pub invariant-loop-i : goal.invariant-loop-i
invariant-loop-i l = error_at_last l.edges (pairs_in (drop l.i l.letters)) ≡ error_at_last l.edges (pairs_in l.letters)
