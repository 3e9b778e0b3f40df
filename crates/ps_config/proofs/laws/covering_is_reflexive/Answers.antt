use Rattle.ps_config.proofs.Covering.{covers_more}
use Rattle.ps_config.proofs.laws.covering_is_reflexive.Goals as goal

pub returns : goal.returns
returns c = λ a. covers_more a a (λ t l h. h) (λ q h. h)
