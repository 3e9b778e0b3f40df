use Rattle.std.proofs.Common.{◌≡◌, ◌++◌, drop}
use Rattle.ps_atom.specs.Threads.{local_pairs}
use Rattle.ps_atom.proofs.share.local_pairs.Given as goal

abbrev pub invariant-loop-pair : goal.invariant-loop-pair
invariant-loop-pair l = l.own.items ++ local_pairs l.thread (drop l.pair-index l.pairs) ≡ local_pairs l.thread l.pairs
