use Rattle.std.proofs.Common.{refl}
use Rattle.ps_walk.proofs.Examples.{lower_is_6, nearest_is_6, past}
use Rattle.ps_walk.proofs.worked.bounds.Goals as goal

pub returns-clause-values : goal.returns-clause-values
returns-clause-values c = (refl, refl)

pub returns-clause-others : goal.returns-clause-others
returns-clause-others c = refl

pub returns-clause-lower : goal.returns-clause-lower
returns-clause-lower c = lower_is_6

pub returns-clause-nearest : goal.returns-clause-nearest
returns-clause-nearest c = nearest_is_6

pub returns-clause-past : goal.returns-clause-past
returns-clause-past c = past
