use Rattle.ps_check.proofs.Firsts.{not_accepted}
use Rattle.ps_check.proofs.checked.check.Goals as goal

pub returns-in-Some-clause-accepted : goal.returns-in-Some-clause-accepted
returns-in-Some-clause-accepted c = not_accepted c.args.graph.now c.args.proof.now c.in-Some.fault (rw c.in-Some.is at c.in_ok-first_fault.ensures)
