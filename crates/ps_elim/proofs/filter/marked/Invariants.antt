use Rattle.std.proofs.Common.{◌≡◌, ◌++◌, drop, length}
use Rattle.std.specs.Vec.Iter.{into_iter_items}
use Rattle.ps_elim.specs.inner.Marking.{marked}
use Rattle.ps_elim.proofs.filter.marked.Given as goal

abbrev pub invariant-loop-weighted : goal.invariant-loop-weighted
invariant-loop-weighted l = record {
  all : l.some.items ++ marked (drop l.at l.marks) (into_iter_items l.weighted-iterator) ≡ marked l.marks l.fn.list.items;
  left : length (drop l.at l.marks) ≡ length (into_iter_items l.weighted-iterator);
}
