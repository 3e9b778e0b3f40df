use Rattle.ps_graph.proofs.OneThread.{steps_are_edges, failed_at_error}
use Rattle.ps_graph.proofs.laws.steps_are_edges.Goals as goal

pub returns-clause-steps : goal.returns-clause-steps
returns-clause-steps c = λ commands edges no_error. steps_are_edges commands edges no_error

pub returns-clause-failed : goal.returns-clause-failed
returns-clause-failed c = λ commands edges thread at is. failed_at_error commands edges thread at is
