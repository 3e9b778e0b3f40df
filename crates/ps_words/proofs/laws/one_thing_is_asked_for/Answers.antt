use Rattle.ps_words.proofs.Once.{one_asked}
use Rattle.ps_words.proofs.laws.one_thing_is_asked_for.Goals as goal

pub returns : goal.returns
returns c = one_asked
