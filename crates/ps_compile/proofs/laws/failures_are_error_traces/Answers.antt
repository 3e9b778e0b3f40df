use Rattle.ps_compile.proofs.Meets.{graph_of}
use Rattle.ps_compile.proofs.laws.failures_are_error_traces.Goals as goal
use Rattle.ps_graph.proofs.Joined.{traces, safe}

pub returns-clause-follows : goal.returns-clause-follows
returns-clause-follows c = λ p graph n is. graph_of p graph n is

pub returns-clause-traces : goal.returns-clause-traces
returns-clause-traces c = λ p graph n is. traces p graph (graph_of p graph n is)

pub returns-clause-safe : goal.returns-clause-safe
returns-clause-safe c = λ p graph n is. safe p graph (graph_of p graph n is)
