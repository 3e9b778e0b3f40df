use Rattle.std.proofs.Common.{take}
use Rattle.ps_drop.specs.inner.Visit.{Visits}
use Rattle.ps_drop.proofs.below.visit.Given as goal

abbrev pub invariant-loop-child : goal.invariant-loop-child
invariant-loop-child l =
    Visits l.children (take l.child-index l.children) l.initial.found l.initial.waiting.items l.found l.waiting.items
