use Rattle.ps_trace.specs.Traces.{pairs_in}
use Rattle.ps_trace.specs.inner.Paths.{NoneStarts}
use Rattle.ps_trace.proofs.error_trace.next_start.Given as goal

abbrev pub invariant-loop-place : goal.invariant-loop-place
invariant-loop-place l = NoneStarts l.edges l.location (pairs_in l.letters) l.from l.place
