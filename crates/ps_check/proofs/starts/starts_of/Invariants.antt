use Rattle.ps_check.specs.inner.Index.{AreStartsBefore}
use Rattle.ps_demand.specs.Pools.{lists_of}
use Rattle.ps_check.proofs.starts.starts_of.Given as goal

abbrev pub invariant-loop-place : goal.invariant-loop-place
invariant-loop-place l = AreStartsBefore l.located l.place (lists_of l.starts.items)
