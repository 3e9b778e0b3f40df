use Rattle.ps_farkas.proofs.Walking.{Walking, count_from}
use Rattle.ps_farkas.proofs.certificate.all_cancel.Given as goal

abbrev pub invariant-walking : goal.invariant-walking
invariant-walking l = Walking l.rows l.lambda l.next l.cancels

abbrev pub decreases-walking : goal.decreases-walking
decreases-walking l = count_from l.next l.rows
