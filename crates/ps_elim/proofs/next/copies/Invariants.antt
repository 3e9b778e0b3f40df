use Rattle.std.proofs.Common.{◌≡◌, take}
use Rattle.ps_elim.specs.inner.Weighing.{pointed_to}
use Rattle.ps_elim.proofs.next.copies.Given as goal

abbrev pub invariant-loop-weighted : goal.invariant-loop-weighted
invariant-loop-weighted l = l.copies.items ≡ pointed_to (take l.weighted-index l.list)
