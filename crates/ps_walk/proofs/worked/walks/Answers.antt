use Rattle.ps_walk.proofs.Examples.{apart, far_ends, missed, nothing, six}
use Rattle.ps_walk.proofs.worked.walks.Goals as goal

pub returns-clause-nothing : goal.returns-clause-nothing
returns-clause-nothing c = nothing

pub returns-clause-found : goal.returns-clause-found
returns-clause-found c = six

pub returns-clause-between : goal.returns-clause-between
returns-clause-between c = apart

pub returns-clause-missed : goal.returns-clause-missed
returns-clause-missed c = missed

pub returns-clause-past : goal.returns-clause-past
returns-clause-past c = far_ends
