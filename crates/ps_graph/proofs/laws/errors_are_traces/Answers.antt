use Rattle.ps_graph.proofs.Joined.{traces, safe}
use Rattle.ps_graph.proofs.laws.errors_are_traces.Goals as goal

pub returns-clause-traces : goal.returns-clause-traces
returns-clause-traces c = λ p graph is. traces p graph is

pub returns-clause-safe : goal.returns-clause-safe
returns-clause-safe c = λ p graph is. safe p graph is
