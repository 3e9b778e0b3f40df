use Rattle.ps_elim.proofs.Determined.{elimination_once}
use Rattle.ps_elim.proofs.laws.has_no_other_answer.Goals as goal

pub returns : goal.returns
returns c = λ is canonical other h k. elimination_once c.args.rows.now c.args.answer.now other is h canonical k
