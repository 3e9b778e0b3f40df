use Rattle.std.proofs.Common.{◌≡◌, ◌++◌}
use Rattle.std.specs.Vec.Iter.{into_iter_items}
use Rattle.ps_term.specs.inner.Accumulated.{standing}
use Rattle.ps_term.proofs.accumulation.standing.Given as goal

abbrev pub invariant-loop-variable : goal.invariant-loop-variable
invariant-loop-variable l = l.list.items ++ standing (into_iter_items l.variable-iterator) ≡ standing l.fn.sums.items
