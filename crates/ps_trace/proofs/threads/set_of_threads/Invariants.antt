use Rattle.std.proofs.Common.{◌≡◌, [], drop}
use Rattle.ps_trace.specs.Rows.{threads_from}
use Rattle.ps_trace.specs.Traces.{pairs_in}
use Rattle.ps_trace.proofs.threads.set_of_threads.Given as goal

abbrev pub invariant-loop-letter : goal.invariant-loop-letter
invariant-loop-letter l = threads_from l.threads.keys (pairs_in (drop l.letter-index l.letters)) ≡ threads_from [] (pairs_in l.letters)
