use Rattle.std.proofs.Common.{drop}
use Rattle.ps_command.proofs.InitialStates.{IsStarting}
use Rattle.ps_command.proofs.starting.each_holds.Given as goal

abbrev pub invariant-loop-locals : goal.invariant-loop-locals
invariant-loop-locals l = IsStarting l.rows l.globals l.all (drop l.locals-index l.all)
