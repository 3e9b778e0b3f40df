use Rattle.std.proofs.Common.{◌≡◌, ◌++◌, drop, take}
use Rattle.ps_elim.specs.inner.Marking.{staying, staying_after}
use Rattle.ps_elim.specs.inner.Weighing.{vectors_of}
use Rattle.ps_elim.proofs.filter.marks.Given as goal

abbrev pub invariant-loop-at : goal.invariant-loop-at
invariant-loop-at g l =
    l.marks.items ++ staying_after (take l.at (vectors_of l.made)) (drop l.at (vectors_of l.made)) ≡ staying (vectors_of l.made)

abbrev pub ghost-stays : goal.ghost-stays
ghost-stays g a = g.rows
