use Rattle.ps_atom.proofs.Own.{number_pushed}
use Rattle.ps_atom.proofs.laws.known_when_pushed.Goals as goal

pub returns : goal.returns
returns c = λ h. (c.args.predicate.now, h.0, number_pushed c.args.list.now c.args.predicate.now h.1)
