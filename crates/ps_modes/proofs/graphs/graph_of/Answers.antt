-- The program is within its limits and has this graph, or one of them is exceeded first.
use Rattle.std.proofs.Common.{refl}
use Rattle.ps_compile.proofs.Meets.{graph_of}
use Rattle.ps_parse.specs.declared.read_refusal.ReadRefusal.TheVariants as refusal
use Rattle.ps_modes.proofs.FewEdges.{few_edges}
use Rattle.ps_modes.proofs.Refusing.{IfLine-weaker}
use Rattle.ps_modes.specs.Programs.{PastLimit}
use Rattle.ps_modes.proofs.graphs.graph_of.Goals as goal

pub returns-in-Ok-clause-said : goal.returns-in-Ok-clause-said
returns-in-Ok-clause-said c = λ text is. record {
  program = c.args.program.now;
  says = record { read = is; within = c.in-Ok.ensures.within; compiled = c.in-Ok.ensures.compiled };
  is = graph_of c.args.program.now c.in-Ok.graph c.requires.signs c.in-Ok.ensures.compiled;
  few = few_edges c.args.program.now c.in-Ok.graph c.in-Ok.ensures.compiled c.in-Ok.ensures.within;
}

pub returns-in-Err-Limit-clause-refused : goal.returns-in-Err-Limit-clause-refused
returns-in-Err-Limit-clause-refused c = λ text is.
    let first = rw c.in-Err-Limit.field-0-is at c.in-Err-Limit.ensures.exceeded in
    IfLine-weaker c.refused.result _ _
    (λ line t. (refusal.Limit c.in-Err-Limit.place c.in-Err-Limit.limit, PastLimit c.args.program.now is c.in-Err-Limit.place c.in-Err-Limit.limit first refl, t))
    c.refused.ensures
