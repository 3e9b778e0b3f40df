use Rattle.std.proofs.Common.{◌≡◌, drop}
use Rattle.ps_elim.specs.Stages.{variables}
use Rattle.ps_elim.proofs.variables.variables.Given as goal

abbrev pub invariant-loop-at : goal.invariant-loop-at
invariant-loop-at l = l.found.keys ≡ variables (drop l.at l.rows)
