use Rattle.ps_check.proofs.Before.{AreBefore}
use Rattle.ps_check.proofs.Firsts.{Holds}
use Rattle.ps_check.proofs.entries.entry_fault.Given as goal

abbrev pub invariant-loop-number : goal.invariant-loop-number
invariant-loop-number l = AreBefore (Holds l.graph l.proof) l.proof.entries l.number
