use Rattle.ps_compile.proofs.Meets.{graph_of}
use Rattle.ps_compile.proofs.compiling.compile.Goals as goal
use Rattle.ps_graph.proofs.Joined.{safe}

pub returns-in-Ok-graph_of-clause-safe : goal.returns-in-Ok-graph_of-clause-safe
returns-in-Ok-graph_of-clause-safe c =
    safe c.args.program.now c.in-Ok-graph_of.graph (graph_of c.args.program.now c.in-Ok-graph_of.graph c.requires.signs c.in-Ok-graph_of.ensures)
