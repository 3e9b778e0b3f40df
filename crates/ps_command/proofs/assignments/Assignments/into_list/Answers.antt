use Rattle.ps_command.proofs.Places.{distinct}
use Rattle.ps_command.proofs.assignments.Assignments.into_list.Goals as goal

pub returns-clause-distinct : goal.returns-clause-distinct
returns-clause-distinct c = distinct c.self.inside.list.items c.self.invariant
