use Rattle.std.proofs.Common.{◌≡◌, ◌++◌, All, take}
use Rattle.ps_elim.specs.Combining.{all_combined}
use Rattle.ps_elim.specs.inner.Weighing.{AllPairsFit, IsWeighted, pointed_to, vectors_of}
use Rattle.ps_elim.proofs.next.with_pairs.Given as goal

abbrev pub invariant-loop-positive : goal.invariant-loop-positive
invariant-loop-positive g l = record {
  weighted : All (IsWeighted g.rows) l.all.items;
  vectors : vectors_of l.all.items ≡ vectors_of l.fn.made.items ++ all_combined g.rows l.variable (vectors_of (pointed_to (take l.positive-index l.positives))) (vectors_of (pointed_to l.negatives));
  fits : AllPairsFit g.rows l.variable (vectors_of (pointed_to (take l.positive-index l.positives))) (vectors_of (pointed_to l.negatives));
}

abbrev pub ghost-with_pairs_of : goal.ghost-with_pairs_of
ghost-with_pairs_of g a = g.rows
