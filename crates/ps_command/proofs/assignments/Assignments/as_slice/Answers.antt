use Rattle.ps_command.proofs.Places.{distinct}
use Rattle.ps_command.proofs.assignments.Assignments.as_slice.Goals as goal

pub returns-clause-distinct : goal.returns-clause-distinct
returns-clause-distinct c = rw c.as_slice.ensures.value (distinct c.self.inside.list.items c.self.invariant)
