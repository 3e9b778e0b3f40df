use Rattle.std.proofs.Common.{drop}
use Rattle.ps_command.specs.Values.{value_at}
use Rattle.ps_command.specs.inner.View.{values_from}
use Rattle.ps_command.proofs.Evaluating.{Evaluated}
use Rattle.ps_command.proofs.evaluation.evaluate.Given as goal

abbrev pub invariant-loop-pair : goal.invariant-loop-pair
invariant-loop-pair l =
    Evaluated (value_at (values_from l.globals l.locals)) l.term.pairs l.term.constant l.sum (drop l.pair-index l.pair-items)
