use Rattle.ps_basis.proofs.Rules.{long}
use Rattle.ps_basis.proofs.worked.no_letter_has_no_triple.Goals as goal

pub returns : goal.returns
returns c = λ entries before after h. long entries h
