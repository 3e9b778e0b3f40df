use Rattle.std.proofs.Common.{drop}
use Rattle.ps_trace.specs.Traces.{pairs_in}
use Rattle.ps_trace.specs.inner.Known.{known_values}
use Rattle.ps_trace.proofs.Stepping.{AreStepped}
use Rattle.ps_trace.proofs.witnessing.steps_of.Given as goal

abbrev pub invariant-loop-letter : goal.invariant-loop-letter
invariant-loop-letter l = AreStepped l.graph l.threads (known_values l.known) (pairs_in l.letters) l.steps l.first (pairs_in (drop l.letter-index l.letters))
