use Rattle.ps_triple.proofs.Worth.{valid}
use Rattle.ps_triple.proofs.laws.held_triples_are_valid.Goals as goal

pub returns : goal.returns
returns c = valid
