use Rattle.ps_check.specs.Faults.{table_of}
use Rattle.ps_step.specs.Closed.{IsNamed}
use Rattle.ps_check.proofs.Before.{AreBefore}
use Rattle.ps_check.proofs.configs.config_fault.Given as goal

abbrev pub invariant-loop-number : goal.invariant-loop-number
invariant-loop-number l = AreBefore (IsNamed l.graph (table_of l.proof)) l.proof.configs l.number
