use Rattle.std.proofs.Common.{drop}
use Rattle.ps_term.proofs.Adding.{Added}
use Rattle.ps_term.proofs.accumulation.add_pairs.Given as goal

abbrev pub invariant-loop-pair : goal.invariant-loop-pair
invariant-loop-pair l = Added l.by l.fn.kept.sums.items l.pairs l.kept.sums.items (drop l.pair-index l.pairs)
