use Rattle.std.proofs.Common.{drop}
use Rattle.ps_walk.specs.inner.Findings.{values_beside, found_values}
use Rattle.ps_walk.proofs.Summing.{Summed}
use Rattle.ps_walk.proofs.sum.value_at.Given as goal

abbrev pub invariant-loop-pair : goal.invariant-loop-pair
invariant-loop-pair l =
    Summed (values_beside l.left_out (found_values l.found)) l.row.term.pairs l.row.term.constant l.sum (drop l.pair-index l.pair-items)
