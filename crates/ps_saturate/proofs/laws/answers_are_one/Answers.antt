use Rattle.ps_saturate.proofs.Lasting.{answers_same}
use Rattle.ps_saturate.proofs.laws.answers_are_one.Goals as goal

pub returns : goal.returns
returns c = answers_same
