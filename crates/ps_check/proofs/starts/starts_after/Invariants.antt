use Rattle.ps_check.specs.inner.Index.{AreStartsAfter}
use Rattle.ps_check.proofs.starts.starts_after.Given as goal

abbrev pub invariant-loop-number : goal.invariant-loop-number
invariant-loop-number l = AreStartsAfter l.before l.shared l.place l.number l.starts.items
