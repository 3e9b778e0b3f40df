use Rattle.std.proofs.Common.{◌≡◌, ◌++◌}
use Rattle.ps_elim.proofs.variables.listed.Given as goal

abbrev pub invariant-loop-variable : goal.invariant-loop-variable
invariant-loop-variable l = l.list.items ++ l.variable-iterator ≡ l.fn.found.keys
