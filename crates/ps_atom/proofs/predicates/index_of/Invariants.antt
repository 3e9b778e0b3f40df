use Rattle.std.proofs.Common.{◌≡◌, take}
use Rattle.ps_atom.specs.inner.Index.{IsIndex}
use Rattle.ps_atom.proofs.predicates.index_of.Given as goal

abbrev pub invariant-loop-predicate : goal.invariant-loop-predicate
invariant-loop-predicate l = (l.number ≡ l.predicate-index) × IsIndex (take l.predicate-index l.list) l.index
