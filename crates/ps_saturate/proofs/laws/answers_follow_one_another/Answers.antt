use Rattle.ps_saturate.proofs.Lasting.{answers_follow}
use Rattle.ps_saturate.proofs.laws.answers_follow_one_another.Goals as goal

pub returns : goal.returns
returns c = answers_follow
