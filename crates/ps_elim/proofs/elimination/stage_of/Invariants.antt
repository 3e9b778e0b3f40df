use Rattle.std.proofs.Common.{◌≡◌, ◌++◌, map}
use Rattle.std.specs.Vec.Iter.{into_iter_items}
use Rattle.ps_elim.specs.inner.Weighing.{vectors_of}
use Rattle.ps_elim.proofs.elimination.stage_of.Given as goal

abbrev pub invariant-loop-weighted : goal.invariant-loop-weighted
invariant-loop-weighted l = record {
  vectors : l.vectors.items ++ vectors_of (into_iter_items l.weighted-iterator) ≡ vectors_of l.fn.set.items;
  rows : l.rows.items ++ map (λ w. w.row) (into_iter_items l.weighted-iterator) ≡ map (λ w. w.row) l.fn.set.items;
}
