use Rattle.std.proofs.Common.{◌+◌, length}
use Rattle.ps_drop.specs.inner.Visit.{unfound}
use Rattle.ps_drop.proofs.Search.{Searched}
use Rattle.ps_drop.proofs.below.descendants.Given as goal

abbrev pub invariant-loop-parent : goal.invariant-loop-parent
invariant-loop-parent l = Searched l.sorted.items l.node l.found l.waiting.items

abbrev pub decreases-loop-parent : goal.decreases-loop-parent
decreases-loop-parent l = length l.waiting.items + unfound l.found l.sorted.items
