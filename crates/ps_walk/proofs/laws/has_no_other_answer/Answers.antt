use Rattle.ps_walk.proofs.Determined.{walk_once}
use Rattle.ps_walk.proofs.laws.has_no_other_answer.Goals as goal

pub returns : goal.returns
returns c =
    λ is other h. walk_once c.args.rows.now c.args.stages.now c.args.walk.now other is h
