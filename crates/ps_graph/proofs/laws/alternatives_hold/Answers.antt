use Rattle.ps_graph.proofs.Truths.{any_hold-true, any_hold-false}
use Rattle.ps_graph.proofs.laws.alternatives_hold.Goals as goal

pub returns-clause-holds : goal.returns-clause-holds
returns-clause-holds c = λ cond values. any_hold-true values cond

pub returns-clause-fails : goal.returns-clause-fails
returns-clause-fails c = λ cond values. any_hold-false values cond
