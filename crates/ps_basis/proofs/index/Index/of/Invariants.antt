use Rattle.std.proofs.Common.{take}
use Rattle.ps_basis.proofs.Indexing.{ArePlaces}
use Rattle.ps_basis.proofs.index.Index.of.Given as goal

abbrev pub invariant-loop-n : goal.invariant-loop-n
invariant-loop-n l = ArePlaces (take l.n l.entries) l.places.items
