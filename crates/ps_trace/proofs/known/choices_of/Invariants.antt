use Rattle.std.proofs.Common.{drop}
use Rattle.ps_trace.specs.inner.Known.{known_values}
use Rattle.ps_trace.proofs.Stepping.{AreChosen}
use Rattle.ps_trace.proofs.known.choices_of.Given as goal

abbrev pub invariant-loop-pick : goal.invariant-loop-pick
invariant-loop-pick l = AreChosen (known_values l.known) l.first l.picks l.list.items l.next (drop l.pick-index l.picks)
