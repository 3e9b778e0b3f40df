use Rattle.ps_triple.proofs.Worth.{initially}
use Rattle.ps_triple.proofs.laws.held_initials_are_true.Goals as goal

pub returns : goal.returns
returns c = initially
