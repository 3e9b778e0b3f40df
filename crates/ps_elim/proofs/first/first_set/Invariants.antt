use Rattle.std.proofs.Common.{◌≡◌, All, length, take}
use Rattle.ps_elim.specs.Vectors.{units}
use Rattle.ps_elim.specs.inner.Weighing.{IsWeighted, vectors_of}
use Rattle.ps_elim.proofs.first.first_set.Given as goal

abbrev pub invariant-loop-place : goal.invariant-loop-place
invariant-loop-place l = record {
  weighted : All (IsWeighted l.rows) l.set.items;
  vectors : vectors_of l.set.items ≡ take l.place (units (length l.rows));
}
