use Rattle.std.proofs.Common.{◌≡◌, drop}
use Rattle.ps_elim.specs.Stages.{with_variables}
use Rattle.ps_elim.proofs.variables.add_variables.Given as goal

abbrev pub invariant-loop-at : goal.invariant-loop-at
invariant-loop-at l = l.found.keys ≡ with_variables (drop l.at l.pairs) l.fn.found.keys
