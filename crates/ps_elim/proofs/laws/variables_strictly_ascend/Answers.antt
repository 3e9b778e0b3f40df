use Rattle.ps_elim.proofs.Ascent.{stages_ascend, variables_ascend}
use Rattle.ps_elim.proofs.laws.variables_strictly_ascend.Goals as goal

pub returns : goal.returns
returns c = record {
  rows = variables_ascend c.args.rows.now;
  stages = λ are. stages_ascend c.args.rows.now c.args.stages.now are;
}
