use Rattle.std.proofs.Common.{refl, []}
use Rattle.std.specs.Prelude.{None}
use Rattle.ps_graph.proofs.TraceExamples.{no_error, infeasible, race_trace, race_start, no_havocs, race_runs}
use Rattle.ps_graph.specs.Examples.Connections.{counter_commands, counter_edges}
use Rattle.ps_trace.proofs.worked.traces.Goals as goal

pub returns-clause-race : goal.returns-clause-race
returns-clause-race c = λ graph is. (race_trace graph is, (race_start, no_havocs, race_runs graph is))

pub returns-clause-counter : goal.returns-clause-counter
returns-clause-counter c = λ graph is. (no_error counter_commands counter_edges 0 0 None graph is [] refl, λ feasible. infeasible graph is feasible)
