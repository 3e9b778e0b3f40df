use Rattle.std.proofs.Common.{IfSome}
use Rattle.ps_cover.specs.inner.Rests.{Waits}
use Rattle.ps_cover.proofs.open.narrowest.Given as goal

-- the best so far waits
abbrev pub invariant-loop-thread : goal.invariant-loop-thread
invariant-loop-thread l = IfSome l.best (λ narrow. Waits l.small l.partial.threads narrow.thread)
