use Rattle.std.proofs.Common.{◌≡◌, ◌++◌, All, map, take}
use Rattle.ps_elim.specs.Combining.{CombinationFits, combined}
use Rattle.ps_elim.specs.inner.Weighing.{IsWeighted, pointed_to, vectors_of}
use Rattle.ps_elim.proofs.next.with_pairs_of.Given as goal

abbrev pub invariant-loop-negative : goal.invariant-loop-negative
invariant-loop-negative g l = record {
  weighted : All (IsWeighted g.rows) l.all.items;
  vectors : vectors_of l.all.items ≡ vectors_of l.fn.made.items ++ map (combined g.rows l.variable l.positive.vector) (vectors_of (pointed_to (take l.negative-index l.negatives)));
  fits : All (CombinationFits g.rows l.variable l.positive.vector) (vectors_of (pointed_to (take l.negative-index l.negatives)));
}

abbrev pub ghost-combined : goal.ghost-combined
ghost-combined g a = g.rows
