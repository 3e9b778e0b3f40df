use Rattle.std.proofs.Common.{◌≡◌, ◌≤◌, [], length, drop}
use Rattle.ps_graph.specs.ErrorTrace.{edges_of}
use Rattle.ps_trace.specs.Traces.{pairs_in}
use Rattle.ps_trace.proofs.error_trace.last_edge.Given as goal

abbrev pub invariant-loop-left : goal.invariant-loop-left
invariant-loop-left l = record { none : edges_of l.thread (pairs_in (drop l.left l.before)) ≡ []; within : l.left ≤ length l.before }

abbrev pub decreases-loop-left : goal.decreases-loop-left
decreases-loop-left l = l.left
