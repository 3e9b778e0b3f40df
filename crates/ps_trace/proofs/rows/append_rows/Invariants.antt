use Rattle.std.proofs.Common.{drop}
use Rattle.ps_trace.specs.Traces.{pairs_in}
use Rattle.ps_trace.specs.inner.SoFars.{so_far_of}
use Rattle.ps_trace.proofs.Rowing.{IsRowing}
use Rattle.ps_trace.proofs.rows.append_rows.Given as goal

abbrev pub invariant-loop-letter : goal.invariant-loop-letter
invariant-loop-letter l = IsRowing l.graph l.fn.rows.items (pairs_in l.letters) (so_far_of l.so_far) l.rows.items (pairs_in (drop l.letter-index l.letters))
