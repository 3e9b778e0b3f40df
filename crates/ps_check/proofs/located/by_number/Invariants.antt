use Rattle.ps_check.specs.inner.Index.{AreLocated}
use Rattle.ps_check.proofs.located.by_number.Given as goal

abbrev pub invariant-loop-number : goal.invariant-loop-number
invariant-loop-number l = AreLocated l.configs l.number l.located.items
