-- A program that is read can be compiled; one that isn't is refused by the line of its refusal.
use Rattle.ps_compile.proofs.Readable.{readable}
use Rattle.ps_modes.proofs.Refusing.{IfLine-weaker}
use Rattle.ps_modes.proofs.Programs.{read_refused}
use Rattle.ps_modes.proofs.graphs.graph_said.Goals as goal

pub graph_of-requires : goal.graph_of-requires
graph_of-requires c = readable c.args.text.now c.in-Ok.program c.in-Ok.ensures.found

pub returns-in-Ok-clause-said : goal.returns-in-Ok-clause-said
returns-in-Ok-clause-said c = c.graph_of.ensures.said c.args.text.now c.in-Ok.ensures.found

pub returns-in-Ok-clause-refused : goal.returns-in-Ok-clause-refused
returns-in-Ok-clause-refused c = c.graph_of.ensures.refused c.args.text.now c.in-Ok.ensures.found

pub returns-in-Err-clause-refused : goal.returns-in-Err-clause-refused
returns-in-Err-clause-refused c =
    IfLine-weaker c.refused.result _ _
    (λ line t. read_refused c.args.text.now line c.in-Err.refusal c.in-Err.ensures.token c.in-Err.ensures.first c.in-Err.ensures.in_text c.in-Err.ensures.grammar t)
    c.refused.ensures
