use Rattle.std.proofs.Common.{take}
use Rattle.ps_trace.specs.Traces.{pairs_in}
use Rattle.ps_trace.specs.inner.Paths.{ArePaths}
use Rattle.ps_trace.proofs.error_trace.are_paths.Given as goal

abbrev pub invariant-loop-i : goal.invariant-loop-i
invariant-loop-i l = ArePaths l.graph (pairs_in (take l.i l.letters))
