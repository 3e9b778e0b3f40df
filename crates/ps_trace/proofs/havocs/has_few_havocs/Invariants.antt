use Rattle.ps_trace.proofs.Counting.{AreCounted}
use Rattle.ps_trace.proofs.havocs.has_few_havocs.Given as goal

abbrev pub invariant-loop-letter : goal.invariant-loop-letter
invariant-loop-letter l = AreCounted l.graph l.trace.letters l.letter-index l.left 4294967295
