use Rattle.std.proofs.Common.{◌≡◌, ◌-◌, drop, length}
use Rattle.ps_atom.specs.Atoms.{at_threads}
use Rattle.ps_triple.specs.Places.{pairs_by}
use Rattle.ps_triple.proofs.placing.placed_pairs.Given as goal

abbrev pub invariant-loop-taken : goal.invariant-loop-taken
invariant-loop-taken l = l.placed.entries ≡ pairs_by (at_threads l.threads) (drop (length l.pairs - l.taken) l.pairs)
